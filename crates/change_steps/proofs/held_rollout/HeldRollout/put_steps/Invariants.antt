use Rattle.std.proofs.Common.{◌≡◌, ◌++◌, filter}
use Rattle.cost_base.specs.Lists.{numbers_from}
use Rattle.change_steps.specs.Kinds.{has_kind, kind_of_step}
use Rattle.change_steps.proofs.held_rollout.HeldRollout.put_steps.Given as goal

abbrev pub invariant-loop-step : goal.invariant-loop-step
invariant-loop-step l =
    l.steps.items ≡ l.fn.steps.items ++ filter (λ k. has_kind l.fn.kind (kind_of_step l.self.rollout l.self.held k)) (numbers_from 0 l.step)
