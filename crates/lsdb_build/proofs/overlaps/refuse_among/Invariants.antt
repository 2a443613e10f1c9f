use Rattle.std.proofs.Common.{take, reverse, All}
use Rattle.lsdb_build.specs.Topology.{is_overlap}
use Rattle.lsdb_build.specs.Owners.{HasSubnet, HasPrefixes}
use Rattle.lsdb_build.proofs.FirstPlaces.{IsLeft}
use Rattle.lsdb_build.proofs.overlaps.refuse_among.Given as goal

abbrev pub invariant-loop-i : goal.invariant-loop-i
invariant-loop-i l = record {
  seen : All (HasSubnet l.seen.by_prefix) (reverse (take l.i l.ports));
  noted : All (HasPrefixes l.enclosing.by_prefix) (reverse (take l.i l.ports));
  left : IsLeft is_overlap l.ports l.i;
}
