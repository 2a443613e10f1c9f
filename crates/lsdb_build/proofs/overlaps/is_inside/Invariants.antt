use Rattle.std.proofs.Common.{◌≡◌, ℕ, ◌<◌, false}
use Rattle.indexmap.specs.IndexMap.{get}
use Rattle.lsdb_build.specs.Tallies.{same_subnet, subnet_of_length}
use Rattle.lsdb_build.specs.Owners.{has_other}
use Rattle.lsdb_build.proofs.overlaps.is_inside.Given as goal

abbrev pub invariant-loop-length : goal.invariant-loop-length
invariant-loop-length l = (k : ℕ) → k < l.length → has_other (get same_subnet l.seen.by_prefix (subnet_of_length l.port k)) l.port.router ≡ false
