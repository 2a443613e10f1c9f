-- The lines before the counter have turned.
use Rattle.table_kernel.proofs.LowestRows.{AreLowestBefore}
use Rattle.table_kernel.proofs.kernel.Kernel.turn_lines_to_lowest.Given as goal

abbrev pub invariant-loop-var : goal.invariant-loop-var
invariant-loop-var l = AreLowestBefore l.fn.self l.self l.column l.var
