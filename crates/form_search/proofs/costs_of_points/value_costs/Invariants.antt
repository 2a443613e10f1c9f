use Rattle.std.proofs.Common.{◌≡◌, take}
use Rattle.form_search.proofs.costs_of_points.value_costs.Given as goal

abbrev pub invariant-loop-x : goal.invariant-loop-x
invariant-loop-x l = l.costs.items ≡ take l.x-index l.x-items
