use Rattle.std.proofs.Common.{sum}
use Rattle.area_graph.specs.Distances.{AreNumbersIn, AreReached}
use Rattle.area_graph.proofs.passes.put_distances.Given as goal

abbrev pub invariant-loop-target : goal.invariant-loop-target
invariant-loop-target l = record {
  numbers : AreNumbersIn l.subgraph l.distances.items;
  reached : AreReached l.subgraph.graph.now l.subgraph.point.now l.subgraph.exclusion.now l.target l.limit l.distances.items;
}

abbrev pub decreases-loop-target : goal.decreases-loop-target
decreases-loop-target l = sum l.distances.items
