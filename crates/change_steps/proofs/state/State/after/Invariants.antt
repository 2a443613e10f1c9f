use Rattle.std.proofs.Common.{◌≡◌, take}
use Rattle.cost_base.specs.Marks.{is_one_of}
use Rattle.change_steps.specs.States.{marks_of}
use Rattle.change_steps.specs.Search.{IsStateOf}
use Rattle.change_steps.proofs.state.State.after.Given as goal

abbrev pub invariant-loop-step : goal.invariant-loop-step
invariant-loop-step l = record {
  state : IsStateOf l.rollout l.state;
  done : l.state.done.items ≡ marks_of l.rollout (is_one_of (take l.step-index l.steps));
}
