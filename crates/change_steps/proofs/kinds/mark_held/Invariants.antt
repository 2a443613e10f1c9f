use Rattle.std.proofs.Common.{take}
use Rattle.change_steps.specs.Search.{AreHeldMarks}
use Rattle.change_steps.proofs.kinds.mark_held.Given as goal

abbrev pub invariant-loop-number : goal.invariant-loop-number
invariant-loop-number l = AreHeldMarks l.rollout (take l.number-index l.held) l.marks.items
