-- The constants before the counter stay small.
use Rattle.std.proofs.Common.{ℕ, ◌^◌, ◌<◌, ◌≤◌, nat_abs}
use Rattle.table_kernel.specs.Turns.{constant_size}
use Rattle.table_kernel.proofs.kernel.Kernel.constants_stay_small.Given as goal

abbrev pub invariant-loop-var : goal.invariant-loop-var
invariant-loop-var l = (v : ℕ) → v < l.var → constant_size l.self l.column (nat_abs l.common) v ≤ 2 ^ 44
