-- The sum with what is left of the terms is the whole one.
use Rattle.table_kernel.proofs.ConstantSums.{IsGathered}
use Rattle.table_kernel.proofs.constants.constant_sum.Given as goal

abbrev pub invariant-loop-term : goal.invariant-loop-term
invariant-loop-term l = IsGathered l.constants l.term-items l.term-index l.sum
