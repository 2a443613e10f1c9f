use Rattle.std.proofs.Common.{◌≡◌, length}
use Rattle.change_steps.proofs.reach.mark_between.Given as goal

abbrev pub invariant-loop-step : goal.invariant-loop-step
invariant-loop-step l = length l.marks.items ≡ length l.fn.marks.items
