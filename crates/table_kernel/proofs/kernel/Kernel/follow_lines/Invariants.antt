-- The constants of the variables before the counter follow.
use Rattle.table_kernel.proofs.FollowedLines.{AreFollowedTo}
use Rattle.table_kernel.proofs.kernel.Kernel.follow_lines.Given as goal

abbrev pub invariant-loop-var : goal.invariant-loop-var
invariant-loop-var l = AreFollowedTo l.fn.self l.self l.var
