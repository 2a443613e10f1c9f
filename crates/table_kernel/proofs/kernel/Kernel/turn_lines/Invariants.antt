-- The lines before the counter have turned.
use Rattle.table_kernel.proofs.TurnedRows.{AreTurnedBefore}
use Rattle.table_kernel.proofs.kernel.Kernel.turn_lines.Given as goal

abbrev pub invariant-loop-var : goal.invariant-loop-var
invariant-loop-var l = AreTurnedBefore l.fn.self l.self l.column l.var
