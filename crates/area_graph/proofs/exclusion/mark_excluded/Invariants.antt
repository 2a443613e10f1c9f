use Rattle.std.proofs.Common.{◌≡◌, length, take}
use Rattle.area_graph.specs.Distances.{AreEdgeMarks}
use Rattle.area_graph.proofs.exclusion.mark_excluded.Given as goal

abbrev pub invariant-loop-edge : goal.invariant-loop-edge
invariant-loop-edge l = record {
  marks : AreEdgeMarks (take l.edge-index l.excluded) l.marks.items;
  count : length l.marks.items ≡ length l.fn.marks.items;
}
