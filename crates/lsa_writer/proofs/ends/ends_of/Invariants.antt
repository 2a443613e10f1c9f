-- the ends of the links before
use Rattle.std.proofs.Common.{◌≡◌, take}
use Rattle.lsa_writer.specs.Ends.{link_ends}
use Rattle.lsa_writer.proofs.ends.ends_of.Given as goal

abbrev pub invariant-loop-link : goal.invariant-loop-link
invariant-loop-link l = l.ends.items ≡ link_ends l.configs (take l.link-index l.links)
