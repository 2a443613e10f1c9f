-- With the lines that are left it is the common denominator after the turn, and the one before it goes into it.
use Prim.Native.Nat.{◌∣◌}
use Rattle.std.proofs.Common.{◌≡◌, ◌^◌, drop, nat_abs}
use Rattle.std.specs.Prelude.{pos, ◌<ℤ◌, ◌≤ℤ◌}
use Rattle.integer_pivots.specs.Turns.{common_after}
use Rattle.table_kernel.specs.Turns.{next_common}
use Rattle.table_kernel.proofs.kernel.Kernel.common_after.Given as goal

abbrev pub invariant-loop-var : goal.invariant-loop-var
invariant-loop-var l = record {
  left : common_after l.self.entering l.column (drop l.var l.self.lows.items) (nat_abs l.common) ≡ next_common l.self l.column;
  range : (pos 0 <ℤ l.common) × (l.common ≤ℤ pos (2 ^ 30));
  divides : nat_abs l.self.common ∣ nat_abs l.common;
}
