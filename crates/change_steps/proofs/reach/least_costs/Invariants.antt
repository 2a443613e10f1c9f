use Rattle.std.proofs.Common.{◌≡◌, map}
use Rattle.cost_base.specs.Lists.{numbers_from}
use Rattle.change_steps.specs.Reaches.{least_cost}
use Rattle.change_steps.proofs.reach.least_costs.Given as goal

abbrev pub invariant-loop-variable : goal.invariant-loop-variable
invariant-loop-variable l = l.values.items ≡ map (least_cost l.rollout.moves) (numbers_from 0 l.variable)
