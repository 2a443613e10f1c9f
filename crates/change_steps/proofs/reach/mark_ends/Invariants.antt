use Rattle.std.proofs.Common.{◌≡◌, length}
use Rattle.change_steps.proofs.reach.mark_ends.Given as goal

abbrev pub invariant-loop-number : goal.invariant-loop-number
invariant-loop-number l = length l.marks.items ≡ length l.fn.marks.items
