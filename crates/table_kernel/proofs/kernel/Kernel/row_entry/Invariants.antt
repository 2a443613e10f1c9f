-- The sum with what is left of the terms is the whole one.
use Rattle.std.proofs.Common.{◌^◌}
use Rattle.table_kernel.specs.Lines.{column_of}
use Rattle.table_kernel.proofs.LineSums.{IsPartSum}
use Rattle.table_kernel.proofs.kernel.Kernel.row_entry.Given as goal

abbrev pub invariant-loop-term : goal.invariant-loop-term
invariant-loop-term l = IsPartSum (2 ^ 60) (2 ^ 76) (column_of l.self l.column) l.term-items l.term-index l.sum
