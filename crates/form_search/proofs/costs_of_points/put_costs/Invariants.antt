use Rattle.std.proofs.Common.{◌≡◌, ◌++◌, take, drop}
use Rattle.form_search.proofs.costs_of_points.put_costs.Given as goal

abbrev pub invariant-loop-var : goal.invariant-loop-var
invariant-loop-var l = record {
  scale : l.point.scale ≡ 1;
  values : l.point.values ≡ take l.var l.low ++ drop l.var l.fn.point.values;
}
