-- The total so far is that of the first costs.
use Rattle.std.proofs.Common.{◌≡◌, ◌*◌, ◌≤◌, take}
use Rattle.std.specs.List.{sum}
use Rattle.design_problem.proofs.cost_list.sum_of_costs.Given as goal

abbrev pub invariant-loop-cost : goal.invariant-loop-cost
invariant-loop-cost l = (l.total ≡ sum (take l.cost-index l.costs)) × (l.total ≤ 65535 * l.cost-index)
