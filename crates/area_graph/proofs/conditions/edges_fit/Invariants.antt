use Rattle.std.proofs.Common.{All, take}
use Rattle.area_graph.specs.Area.{FitsEdge}
use Rattle.area_graph.proofs.conditions.edges_fit.Given as goal

abbrev pub invariant-loop-edge : goal.invariant-loop-edge
invariant-loop-edge l = All (FitsEdge (record { vertices = l.vertices; edges = l.edges })) (take l.edge-index l.edges)
