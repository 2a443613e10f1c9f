use Rattle.std.proofs.Common.{◌≡◌, take}
use Rattle.area_graph.proofs.points.point_of.Given as goal

abbrev pub invariant-loop-cost : goal.invariant-loop-cost
invariant-loop-cost l = l.values.items ≡ take l.cost-index l.costs
