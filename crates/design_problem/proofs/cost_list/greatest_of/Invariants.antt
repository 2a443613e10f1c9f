use Rattle.std.proofs.Common.{◌≡◌, take}
use Rattle.design_problem.specs.Rows.{greatest_cost}
use Rattle.design_problem.proofs.cost_list.greatest_of.Given as goal

abbrev pub invariant-loop-cost : goal.invariant-loop-cost
invariant-loop-cost l = l.greatest ≡ greatest_cost (take l.cost-index l.costs)
