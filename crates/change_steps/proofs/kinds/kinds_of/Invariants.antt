use Rattle.std.proofs.Common.{◌≡◌, map}
use Rattle.cost_base.specs.Lists.{numbers_from}
use Rattle.change_steps.specs.Kinds.{kind_of_step}
use Rattle.change_steps.proofs.kinds.kinds_of.Given as goal

abbrev pub invariant-loop-step : goal.invariant-loop-step
invariant-loop-step l = l.kinds.items ≡ map (kind_of_step l.rollout l.held) (numbers_from 0 l.step)
