use Rattle.std.proofs.Common.{ℕ, ◌<◌}
use Rattle.lsdb_build.specs.declared.port.Subnet.{Subnet}
use Rattle.lsdb_build.specs.Tallies.{subnet_of_length}
use Rattle.lsdb_build.specs.Owners.{IsOwnerNoted}
use Rattle.lsdb_build.proofs.overlaps.note_prefixes.Given as goal

abbrev pub invariant-loop-length : goal.invariant-loop-length
invariant-loop-length l = record {
  noted : (k : ℕ) → k < l.length → IsOwnerNoted l.enclosing.by_prefix l.port.router (subnet_of_length l.port k);
  kept : (router : ℕ) (key : Subnet) → IsOwnerNoted l.fn.enclosing.by_prefix router key → IsOwnerNoted l.enclosing.by_prefix router key;
}
