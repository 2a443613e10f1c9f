-- What a form leaves of one variable's range.
use Rattle.std.proofs.Common.{◌≡◌, ℕ, suc, ◌+◌, ◌-◌, ◌*◌, ◌<◌, ◌≤◌, ap, subst, arith}
use Rattle.std.specs.Prelude.{ℤ, pos, negsuc, nat_abs, ◌<ℤ◌}
use Rattle.std.proofs.lemmas.Int.{ints}
use Rattle.std.proofs.Math.Nat.{mul-le-mul_left}
use Rattle.design_problem.specs.declared.tree.Side.TheVariants.{Low, High}
use Rattle.bound_propagation.specs.Ranges.{IsExactBound, HasNoBound}

-- one more and one less
one_less : (u : ℕ) → suc u - 1 ≡ u
one_less u = omega arith

-- the upper end is the lower end and the range's length
from_low : (l h : ℕ) → l ≤ h → h ≡ l + (h - l)
from_low l h ordered = omega arith

-- with a positive weight: the bound that is so many steps below the upper end
raised : (w slack l u k : ℕ) → l < suc u → w * k ≤ slack → slack < w * (k + 1) → IsExactBound (pos w) slack l (suc u + k) Low (suc u)
raised w slack l u k above allowed most =
    record {
      smaller = (above, omega arith);
      refuted = omega (arith, ints, ap (λ (z : ℕ). w * z) (one_less u));
      exact = omega (arith, ints);
    }

-- with a negative coefficient: the bound that is so many steps above the lower end
lowered : (m slack l h k : ℕ) → l + k < h → suc m * k ≤ slack → slack < suc m * (k + 1) → IsExactBound (negsuc m) slack l h High (l + k)
lowered m slack l h k below allowed most =
    record {
      smaller = (omega arith, below);
      refuted = omega (arith, ints);
      exact = omega (arith, ints);
    }

-- the same, by the range's ends: the lower bound that a positive coefficient gives
pub low_bound : (c : ℤ) (slack l h k : ℕ) → pos 0 <ℤ c → k < h - l → nat_abs c * k ≤ slack → slack < nat_abs c * (k + 1) → IsExactBound c slack l h Low (h - k)
low_bound (pos w) slack l h k positive within allowed most =
    let u : ℕ = h - k - 1 in
    let value : suc u ≡ h - k = omega arith in
    let end : suc u + k ≡ h = omega arith in
    subst (λ (v : ℕ). IsExactBound (pos w) slack l h Low v) value
    (subst (λ (z : ℕ). IsExactBound (pos w) slack l z Low (suc u)) end (raised w slack l u k (omega arith) allowed most))
low_bound (negsuc m) slack l h k positive within allowed most = absurd (omega (arith, ints))

-- the upper bound that a negative coefficient gives
pub high_bound : (c : ℤ) (slack l h k : ℕ) → c <ℤ pos 0 → k < h - l → nat_abs c * k ≤ slack →
    slack < nat_abs c * (k + 1) → IsExactBound c slack l h High (l + k)
high_bound (pos w) slack l h k negative within allowed most = absurd (omega (arith, ints))
high_bound (negsuc m) slack l h k negative within allowed most = lowered m slack l h k (omega arith) allowed most

-- where the slack allows every step of a positive weight, no part is refuted
none_positive : (w slack l h : ℕ) → w * (h - l) ≤ slack → HasNoBound (pos w) slack l h
none_positive w slack l h allowed Low value smaller refuted =
    let above : l ≤ value - 1 = omega (arith, smaller.0) in
    let ordered : l ≤ h = omega (arith, smaller.0, smaller.1) in
    absurd (omega (arith, ints, mul-le-mul_left w above, ap (λ (z : ℕ). w * z) (from_low l h ordered), refuted))
none_positive w slack l h allowed High value smaller refuted = absurd (omega (arith, ints))

-- the same with a negative coefficient
none_negative : (m slack l h : ℕ) → suc m * (h - l) ≤ slack → HasNoBound (negsuc m) slack l h
none_negative m slack l h allowed Low value smaller refuted = absurd (omega (arith, ints))
none_negative m slack l h allowed High value smaller refuted =
    let below : value + 1 ≤ h = omega (arith, smaller.1) in
    let ordered : l ≤ h = omega (arith, smaller.0, smaller.1) in
    absurd (omega (arith, ints, mul-le-mul_left (suc m) below, ap (λ (z : ℕ). suc m * z) (from_low l h ordered), refuted))

-- where the slack allows every step, no part of the range is refuted
pub no_bound : (c : ℤ) (slack l h : ℕ) → nat_abs c * (h - l) ≤ slack → HasNoBound c slack l h
no_bound (pos w) slack l h allowed = none_positive w slack l h allowed
no_bound (negsuc m) slack l h allowed = none_negative m slack l h allowed
