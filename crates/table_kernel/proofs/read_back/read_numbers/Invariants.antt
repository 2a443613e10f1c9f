-- The numbers before the index are read.
use Rattle.table_kernel.proofs.ReadLines.{AreReadTo}
use Rattle.table_kernel.proofs.read_back.read_numbers.Given as goal

abbrev pub invariant-loop-column : goal.invariant-loop-column
invariant-loop-column l = AreReadTo l.fractions l.denominator l.fn.numbers l.column l.numbers
