use Rattle.std.proofs.Common.{All, take}
use Rattle.area_graph.specs.Area.{edge_at, edges_out}
use Rattle.area_graph.specs.Distances.{LeadsToMore}
use Rattle.area_graph.proofs.only_cheapest.others_are_dearer.Given as goal

abbrev pub invariant-loop-other : goal.invariant-loop-other
invariant-loop-other l =
    All (LeadsToMore l.subgraph.graph.now l.subgraph.point.now l.subgraph.exclusion.now l.distances l.named l.most)
    (take l.other-index (edges_out l.subgraph.graph.now (edge_at l.subgraph.graph.now l.named).from))
