-- No constant before the counter is negative.
use Rattle.whole_numbers.specs.Lists.{number_at}
use Rattle.fraction_table.specs.PivotForms.{NoneNegative}
use Rattle.table_kernel.proofs.kernel.Kernel.first_negative_bound.Given as goal

abbrev pub invariant-loop-place : goal.invariant-loop-place
invariant-loop-place l = NoneNegative l.place (number_at l.self.constants.items)
