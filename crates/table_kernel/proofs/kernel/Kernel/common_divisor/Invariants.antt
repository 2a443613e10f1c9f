-- The divisor divides the denominator and the constants before the counter.
use Rattle.table_kernel.proofs.Corners.{IsDivisor}
use Rattle.table_kernel.proofs.kernel.Kernel.common_divisor.Given as goal

abbrev pub invariant-loop-var : goal.invariant-loop-var
invariant-loop-var l = IsDivisor l.self.common l.self.constants.items l.var l.divisor
