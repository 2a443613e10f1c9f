-- The weight with what is left of the terms is the whole one.
use Rattle.table_kernel.proofs.RowWeights.{IsWeighed}
use Rattle.table_kernel.proofs.add_row.form_weight.Given as goal

abbrev pub invariant-loop-term : goal.invariant-loop-term
invariant-loop-term l = IsWeighed l.term-items l.term-index l.sum
