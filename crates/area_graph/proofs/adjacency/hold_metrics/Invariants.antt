use Rattle.std.proofs.Common.{All, take}
use Rattle.area_graph.specs.Area.{IsMetric}
use Rattle.area_graph.proofs.adjacency.hold_metrics.Given as goal

abbrev pub invariant-loop-edge : goal.invariant-loop-edge
invariant-loop-edge l = All (λ edge. IsMetric edge.price) (take l.edge-index l.edges)
