use Rattle.std.proofs.Common.{◌≡◌, take, map}
use Rattle.lsdb_build.specs.Tallies.{subnet_of}
use Rattle.lsdb_build.specs.Places.{places_at}
use Rattle.lsdb_build.proofs.links.subnets_of.Given as goal

abbrev pub invariant-loop-first : goal.invariant-loop-first
invariant-loop-first l = l.made.items ≡ map (λ first. places_at l.places.by_subnet (subnet_of first)) (take l.first-index l.transit)
