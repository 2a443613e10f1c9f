-- It is the least common denominator of the constant and of the columns before the index.
use Rattle.table_kernel.proofs.LeastDenominators.{IsLeastTo}
use Rattle.table_kernel.proofs.read_back.denominator_of.Given as goal

abbrev pub invariant-loop-column : goal.invariant-loop-column
invariant-loop-column l = IsLeastTo l.fractions l.column l.common
