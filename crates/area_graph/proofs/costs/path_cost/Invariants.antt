use Rattle.std.proofs.Common.{◌≡◌, take}
use Rattle.area_graph.specs.Costs.{cost}
use Rattle.area_graph.proofs.costs.path_cost.Given as goal

abbrev pub invariant-loop-number : goal.invariant-loop-number
invariant-loop-number l = l.total ≡ cost l.graph l.point (take l.number-index l.path.edges)
