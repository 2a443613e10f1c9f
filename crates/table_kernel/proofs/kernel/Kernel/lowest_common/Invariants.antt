-- It is the least common denominator of the lines before the counter, in lowest terms.
use Rattle.table_kernel.proofs.LowestRows.{IsLowestTo}
use Rattle.table_kernel.proofs.kernel.Kernel.lowest_common.Given as goal

abbrev pub invariant-loop-var : goal.invariant-loop-var
invariant-loop-var l = IsLowestTo l.self l.column l.var l.common
