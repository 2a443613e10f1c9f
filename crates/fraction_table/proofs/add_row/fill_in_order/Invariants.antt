-- The constant and the columns before the counter are filled.
use Rattle.std.proofs.Common.{suc}
use Rattle.fraction_table.proofs.RowFills.{IsFilledTo}
use Rattle.fraction_table.proofs.add_row.fill_in_order.Given as goal

abbrev pub invariant-loop-column : goal.invariant-loop-column
invariant-loop-column l = IsFilledTo l.top l.costs l.form l.lines (suc l.column) l.line
