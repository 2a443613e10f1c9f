use Rattle.std.proofs.Common.{take}
use Rattle.lsdb_build.specs.Places.{ArePlaces}
use Rattle.lsdb_build.proofs.places.places_of.Given as goal

-- the places of the interfaces before this one are kept
abbrev pub invariant-loop-i : goal.invariant-loop-i
invariant-loop-i l = ArePlaces l.places.by_subnet (take l.i l.ports)
