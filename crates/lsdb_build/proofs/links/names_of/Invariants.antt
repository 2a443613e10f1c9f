use Rattle.std.proofs.Common.{◌≡◌, take, map}
use Rattle.lsdb_build.proofs.links.names_of.Given as goal

abbrev pub invariant-loop-config : goal.invariant-loop-config
invariant-loop-config l = l.made.items ≡ map (λ r. r.name) (take l.config-index l.configs)
