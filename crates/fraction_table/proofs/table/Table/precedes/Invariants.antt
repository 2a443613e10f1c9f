-- The lines before the place show no difference.
use Rattle.fraction_table.proofs.ColumnOrders.{AreLevel}
use Rattle.fraction_table.proofs.table.Table.precedes.Given as goal

abbrev pub invariant-loop-place : goal.invariant-loop-place
invariant-loop-place l = AreLevel l.self l.line l.column l.other l.place
