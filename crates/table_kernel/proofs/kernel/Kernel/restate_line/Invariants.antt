-- The constant and the numbers before the counter are put into the place's line.
use Rattle.table_kernel.proofs.Restated.{IsFilledTo}
use Rattle.table_kernel.proofs.kernel.Kernel.restate_line.Given as goal

abbrev pub invariant-loop-column : goal.invariant-loop-column
invariant-loop-column l = IsFilledTo l.fn.self l.self l.place l.column
