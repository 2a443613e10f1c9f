use Rattle.std.proofs.Common.{◌≡◌, ◌*◌, map, take}
use Rattle.form_search.proofs.costs_of_points.whole_costs.Given as goal

abbrev pub invariant-loop-x : goal.invariant-loop-x
invariant-loop-x l = map (λ x. x * l.scale) l.costs.items ≡ take l.x-index l.x-items
