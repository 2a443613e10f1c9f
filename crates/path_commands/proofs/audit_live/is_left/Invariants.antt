-- none of the edges is excluded exactly where none is of those that are left
use Rattle.std.proofs.Common.{◌↔◌, drop}
use Rattle.area_graph.specs.Paths.{Avoids}
use Rattle.path_commands.proofs.audit_live.is_left.Given as goal

abbrev pub invariant-loop-edge : goal.invariant-loop-edge
invariant-loop-edge l = Avoids l.exclusion l.edges ↔ Avoids l.exclusion (drop l.edge-index l.edges)
