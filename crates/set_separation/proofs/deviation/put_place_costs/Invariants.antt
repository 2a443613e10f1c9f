use Rattle.std.proofs.Common.{◌≡◌, length}
use Rattle.set_separation.specs.Deviations.{ArePlaceCosts}
use Rattle.set_separation.proofs.deviation.put_place_costs.Given as goal

abbrev pub invariant-loop-i : goal.invariant-loop-i
invariant-loop-i l = record {
  costs : ArePlaceCosts l.outlook.graph.now l.outlook.point.now l.tree l.i l.costs;
  count : length l.costs ≡ length l.fn.costs;
}
