-- The constants before the counter don't pass 2^44.
use Rattle.std.proofs.Common.{ℕ, ◌<◌, nat_abs}
use Rattle.table_kernel.proofs.LowestRows.{FitsLowestAt}
use Rattle.table_kernel.proofs.kernel.Kernel.lowest_constants_fit.Given as goal

abbrev pub invariant-loop-var : goal.invariant-loop-var
invariant-loop-var l = (v : ℕ) → v < l.var → FitsLowestAt l.self l.column (nat_abs l.common) v
