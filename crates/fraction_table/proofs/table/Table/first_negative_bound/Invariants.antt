-- No constant before the counter is negative.
use Rattle.fraction_table.specs.PivotForms.{NoneNegative, sign_at}
use Rattle.fraction_table.proofs.table.Table.first_negative_bound.Given as goal

abbrev pub invariant-loop-line : goal.invariant-loop-line
invariant-loop-line l = NoneNegative l.line (sign_at l.self)
