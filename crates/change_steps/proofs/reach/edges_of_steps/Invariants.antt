use Rattle.std.proofs.Common.{◌≡◌, map}
use Rattle.cost_base.specs.Lists.{numbers_from}
use Rattle.change_steps.specs.Reaches.{edges_of_step}
use Rattle.change_steps.proofs.reach.edges_of_steps.Given as goal

abbrev pub invariant-loop-step : goal.invariant-loop-step
invariant-loop-step l = l.edges.items ≡ map (edges_of_step l.rollout) (numbers_from 0 l.step)
