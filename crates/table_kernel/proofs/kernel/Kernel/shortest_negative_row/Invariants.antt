-- The shortest of the rows before the counter.
use Rattle.whole_numbers.specs.Lists.{number_at}
use Rattle.fraction_table.specs.PivotForms.{IsShortestFound, row_constant}
use Rattle.table_kernel.specs.Kernels.{width_of}
use Rattle.table_kernel.proofs.kernel.Kernel.shortest_negative_row.Given as goal

abbrev pub invariant-loop-row : goal.invariant-loop-row
invariant-loop-row l = IsShortestFound l.row l.self.table.rows.items (row_constant (width_of l.self) (number_at l.self.constants.items)) l.shortest
