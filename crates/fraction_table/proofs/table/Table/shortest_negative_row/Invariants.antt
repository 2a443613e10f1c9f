-- The shortest of the rows before the counter.
use Rattle.std.proofs.Common.{length}
use Rattle.fraction_table.specs.PivotForms.{IsShortestFound, row_constant, sign_at}
use Rattle.fraction_table.proofs.table.Table.shortest_negative_row.Given as goal

abbrev pub invariant-loop-row : goal.invariant-loop-row
invariant-loop-row l = IsShortestFound l.row l.self.rows.items (row_constant (length l.self.costs.low) (sign_at l.self)) l.shortest
