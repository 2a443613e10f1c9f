-- It is the least multiple of the denominators of the lines before the index.
use Rattle.table_kernel.proofs.LeastCommon.{IsLeastTo}
use Rattle.table_kernel.proofs.kernel.Kernel.common_of_lines.Given as goal

abbrev pub invariant-loop-var : goal.invariant-loop-var
invariant-loop-var l = IsLeastTo l.self.lows.items l.var l.common
