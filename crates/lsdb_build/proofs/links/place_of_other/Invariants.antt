use Rattle.std.proofs.Common.{◌≡◌, drop}
use Rattle.lsdb_build.specs.Neighbours.{place_from, is_other}
use Rattle.lsdb_build.proofs.Placing.{first_passing}
use Rattle.lsdb_build.proofs.links.place_of_other.Given as goal

abbrev pub invariant-loop-place : goal.invariant-loop-place
invariant-loop-place l = place_from 0 (is_other l.port) l.links ≡ first_passing (is_other l.port) l.links (drop l.place-index l.members)
