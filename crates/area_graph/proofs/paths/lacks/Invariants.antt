use Rattle.std.proofs.Common.{◌↔◌, drop}
use Rattle.cost_base.specs.Lists.{Lacks}
use Rattle.area_graph.proofs.paths.lacks.Given as goal

abbrev pub invariant-loop-other : goal.invariant-loop-other
invariant-loop-other l = Lacks l.excluded l.edge ↔ Lacks (drop l.other-index l.excluded) l.edge
