use Rattle.std.proofs.Common.{◌↔◌, drop}
use Rattle.area_graph.specs.Paths.{Avoids}
use Rattle.area_graph.proofs.paths.avoids.Given as goal

abbrev pub invariant-loop-edge : goal.invariant-loop-edge
invariant-loop-edge l = Avoids l.excluded l.edges ↔ Avoids l.excluded (drop l.edge-index l.edges)
