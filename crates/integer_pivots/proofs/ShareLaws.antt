-- How often a denominator goes into a common multiple, and products of positive numbers, as code reads them.
use Prim.Native.Nat.{◌∣◌}
use native.Mathlib.Nat.{div-mul_cancel}
use Rattle.std.proofs.Common.{◌≡◌, ℕ, ◌*◌, ◌/◌, ◌^◌, ◌<◌, ◌≤◌, refl, sym, subst, ◌∙◌, ap, arith, w64, to_z, of_z}
use Rattle.std.specs.Prelude.{ℤ, pos, negsuc, ◌*ℤ◌, ◌<ℤ◌, ◌≤ℤ◌, nat_abs}
use Rattle.std.specs.Int.Signed.{quot_z}
use Rattle.std.proofs.Math.Nat.{div-le_self, mul-le-mul}
use Rattle.std.proofs.lemmas.Int.{ints, unsigned_abs-mul}
use Rattle.std.proofs.lemmas.Nat.Gcd.{le_of_dvd}
use Rattle.whole_numbers.proofs.Divisors.{quotient_positive}
use Rattle.whole_numbers.proofs.FractionLaws.{product_positive}
use Rattle.whole_numbers.proofs.Sizes.{positive_is, size_positive}
use Rattle.integer_pivots.proofs.Sizes.{product_read, read, read_number, size_most}

-- how often a denominator goes into its multiple, times it
pub share_exact : (D : ℕ) (denominator : ℤ) → pos 0 <ℤ denominator → nat_abs denominator ∣ D →
    (pos (D / nat_abs denominator) *ℤ denominator) ≡ pos D
share_exact D denominator positive divides =
    ap (λ (z : ℤ). pos (D / nat_abs denominator) *ℤ z) (positive_is denominator positive)
    ∙ ap pos (div-mul_cancel (nat_abs denominator) divides)

-- a quotient of positive numbers
quotient_is : (a b : ℤ) → pos 0 <ℤ a → pos 0 <ℤ b → quot_z a b ≡ pos (nat_abs a / nat_abs b)
quotient_is (pos a) (pos b) a_high b_high = refl
quotient_is (pos a) (negsuc b) a_high b_high = absurd (omega (arith, ints))
quotient_is (negsuc a) b a_high b_high = absurd (omega (arith, ints))

-- how often a denominator goes into a common one, times the denominator
pub share_times : (common denominator : ℤ) → pos 0 <ℤ common → pos 0 <ℤ denominator →
    nat_abs denominator ∣ nat_abs common → (pos (nat_abs common / nat_abs denominator) *ℤ denominator) ≡ common
share_times common denominator high positive divides =
    share_exact (nat_abs common) denominator positive divides ∙ sym (positive_is common high)

-- as code computes it
pub share_read : (common denominator : ℤ) → pos 0 <ℤ common → common ≤ℤ pos (2 ^ 30) → pos 0 <ℤ denominator →
    nat_abs denominator ∣ nat_abs common →
    to_z w64 (of_z w64 (quot_z (to_z w64 (of_z w64 common)) (to_z w64 (of_z w64 denominator)))) ≡ pos (nat_abs common / nat_abs denominator)
share_read common denominator high small positive divides =
    let most : nat_abs common ≤ 2 ^ 30 = size_most common (2 ^ 30) high small in
    let part : nat_abs denominator ≤ nat_abs common = le_of_dvd (size_positive common high) divides in
    let quotient = div-le_self (nat_abs common) (nat_abs denominator) in
    let is : quot_z (to_z w64 (of_z w64 common)) (to_z w64 (of_z w64 denominator)) ≡ pos (nat_abs common / nat_abs denominator) =
    ap (λ (z : ℤ). quot_z z (to_z w64 (of_z w64 denominator))) (read_number common (omega (arith, most)))
    ∙ ap (quot_z common) (read_number denominator (omega (arith, most, part)))
    ∙ quotient_is common denominator high positive in
    ap (λ (z : ℤ). to_z w64 (of_z w64 z)) is ∙ read_number (pos (nat_abs common / nat_abs denominator)) (omega (arith, most, quotient))

-- it is positive, and at most 2^30
pub share_positive : (common denominator : ℤ) → pos 0 <ℤ common → nat_abs denominator ∣ nat_abs common →
    pos 1 ≤ℤ pos (nat_abs common / nat_abs denominator)
share_positive common denominator high divides =
    let some = quotient_positive (nat_abs common) (nat_abs denominator) (size_positive common high) divides in
    omega (arith, ints, some)

pub share_most : (common denominator : ℤ) → pos 0 <ℤ common → common ≤ℤ pos (2 ^ 30) → pos (nat_abs common / nat_abs denominator) ≤ℤ pos (2 ^ 30)
share_most common denominator high small =
    omega (arith, ints, size_most common (2 ^ 30) high small, div-le_self (nat_abs common) (nat_abs denominator))

-- 1 goes into 1 once
pub share_one : (common denominator : ℤ) → common ≡ pos 1 → pos 0 <ℤ denominator → nat_abs denominator ∣ nat_abs common →
    pos 1 ≡ pos (nat_abs common / nat_abs denominator)
share_one common denominator one positive divides =
    let size : nat_abs common ≡ 1 = ap nat_abs one in
    let least : nat_abs denominator ≤ nat_abs common = le_of_dvd (omega (arith, size)) divides in
    let is : nat_abs denominator ≡ 1 = omega (arith, least, size, size_positive denominator positive) in
    ap (λ (n : ℕ). pos (1 / n)) (sym is) ∙ ap (λ (n : ℕ). pos (n / nat_abs denominator)) (sym size)

-- a product of positive numbers is positive
pub times_positive : (a b : ℤ) → pos 0 <ℤ a → pos 0 <ℤ b → pos 0 <ℤ (a *ℤ b)
times_positive (pos a) (pos b) a_is b_is =
    let more : 0 < a * b = product_positive a b (omega (arith, ints)) (omega (arith, ints)) in
    omega (arith, ints, more)
times_positive (pos a) (negsuc b) a_is b_is = absurd (omega (arith, ints, b_is))
times_positive (negsuc a) b a_is b_is = absurd (omega (arith, ints, a_is))

-- the size of a product of positive numbers of at most 2^30, as 64 bits hold it
pub positive_product_size : (d m : ℤ) → (pos 0 <ℤ d) × (d ≤ℤ pos (2 ^ 30)) → (pos 0 <ℤ m) × (m ≤ℤ pos (2 ^ 30)) →
    nat_abs (read (read d *ℤ read m)) ≡ nat_abs d * nat_abs m
positive_product_size d m d_is m_is =
    ap nat_abs (product_read d m (size_most d (2 ^ 30) d_is.0 d_is.1) (size_most m (2 ^ 30) m_is.0 m_is.1)) ∙ unsigned_abs-mul d m

-- a product of positive numbers of at most 2^30, as 64 bits hold it
pub positive_product_read : (d m : ℤ) → (pos 0 <ℤ d) × (d ≤ℤ pos (2 ^ 30)) → (pos 0 <ℤ m) × (m ≤ℤ pos (2 ^ 30)) →
    (pos 0 <ℤ read (read d *ℤ read m)) × (read (read d *ℤ read m) ≤ℤ pos (2 ^ 60))
positive_product_read d m d_is m_is =
    let d_small : nat_abs d ≤ 2 ^ 30 = size_most d (2 ^ 30) d_is.0 d_is.1 in
    let m_small : nat_abs m ≤ 2 ^ 30 = size_most m (2 ^ 30) m_is.0 m_is.1 in
    let most : nat_abs d * nat_abs m ≤ 2 ^ 30 * 2 ^ 30 = mul-le-mul d_small m_small in
    let size : nat_abs (d *ℤ m) ≡ nat_abs d * nat_abs m = unsigned_abs-mul d m in
    let same : read (read d *ℤ read m) ≡ (d *ℤ m) = product_read d m d_small m_small in
    subst (λ (z : ℤ). (pos 0 <ℤ z) × (z ≤ℤ pos (2 ^ 60))) (sym same) (times_positive d m d_is.0 m_is.0, at_most (d *ℤ m) (omega (arith, size, most)))
  where
    at_most : (z : ℤ) → nat_abs z ≤ 2 ^ 60 → z ≤ℤ pos (2 ^ 60)
    at_most z small = omega (arith, ints)
