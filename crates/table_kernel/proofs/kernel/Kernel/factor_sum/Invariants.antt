-- The sum with what is left of the terms is the whole one.
use Rattle.std.proofs.Common.{nat_abs}
use Rattle.table_kernel.proofs.Factors.{IsFactorPart}
use Rattle.table_kernel.proofs.kernel.Kernel.factor_sum.Given as goal

abbrev pub invariant-loop-term : goal.invariant-loop-term
invariant-loop-term l = IsFactorPart (nat_abs l.self.common) l.self.lows.items l.term-items l.term-index l.sum
