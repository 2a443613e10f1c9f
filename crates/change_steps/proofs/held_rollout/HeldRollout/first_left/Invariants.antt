use Rattle.std.proofs.Common.{ℕ, ◌<◌}
use Rattle.change_steps.specs.States.{MayFollow}
use Rattle.change_steps.proofs.held_rollout.HeldRollout.first_left.Given as goal

abbrev pub invariant-loop-step : goal.invariant-loop-step
invariant-loop-step l = (k : ℕ) → k < l.step → MayFollow l.self.rollout l.self.held l.done k → ⊥
