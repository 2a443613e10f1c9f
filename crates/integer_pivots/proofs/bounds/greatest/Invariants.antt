-- The numbers before the index are within the greatest so far, which is no greater than need be.
use Rattle.std.proofs.Common.{ℕ, ◌≤◌, pos, ◌≤ℤ◌, nat_abs, take}
use Rattle.integer_pivots.specs.Numbers.{AllWithin}
use Rattle.integer_pivots.proofs.bounds.greatest.Given as goal

abbrev pub invariant-loop-index : goal.invariant-loop-index
invariant-loop-index l = record {
  within : AllWithin (nat_abs l.most) (take l.index l.numbers);
  least : (most : ℕ) → AllWithin most l.numbers → nat_abs l.most ≤ most;
  from_zero : pos 0 ≤ℤ l.most;
}
