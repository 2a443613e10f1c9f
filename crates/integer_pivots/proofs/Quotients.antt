-- Common divisors and exact quotients, as 64 bits hold them.
use Rattle.std.proofs.Common.{◌≡◌, ℕ, ◌^◌, ◌<◌, ◌≤◌, ◌%◌, nat_eq, refl, sym, ◌∙◌, ap, subst, arith, FitsSigned, w64, to_z, of_z}
use Rattle.std.specs.Prelude.{ℤ, pos, negsuc, ◌*ℤ◌, ◌<ℤ◌, ◌≤ℤ◌, nat_abs, ◌↔◌, IsTrue}
use Rattle.std.specs.Int.Signed.{mag, quot_z}
use Rattle.std.proofs.lemmas.Int.{ints, to_z-of_z}
use Rattle.std.proofs.lemmas.Nat.Gcd.{dvd_of_mod-eq-zero, le_of_dvd, mod-eq-zero_of_dvd}
use Rattle.std.proofs.lemmas.Bool.{eq-eqb, eqb-true}
use Rattle.std.proofs.Math.Nat.{div-le_self, one-dvd}
use Prim.Native.Nat.{◌∣◌}
use native.Mathlib.Nat.{div-mul_cancel}
use Rattle.whole_numbers.specs.Fractions.{exact_quotient, gcd}
use Rattle.whole_numbers.proofs.Divisors.{gcd-one, gcd-zero, gcd_is, gcd_positive, gcd_step}
use Rattle.whole_numbers.proofs.FractionLaws.{nat_abs-over, over-mul}
use Rattle.whole_numbers.proofs.Laws.{times_one}
use Rattle.whole_numbers.proofs.Sizes.{positive_is, size_positive}
use Rattle.integer_pivots.proofs.Sizes.{read, read_known, read_number}

-- a number by its bits
pub bits_of : (z : ℤ) (n : ℕ) → FitsSigned w64 z → of_z w64 z ≡ n → z ≡ to_z w64 n
bits_of z n fits bits = sym (to_z-of_z w64 z fits) ∙ ap (to_z w64) bits

-- 1 has nothing but itself in common with another number
pub common_one : (number part : ℤ) → part ≡ pos 1 → part ≡ pos (gcd (nat_abs number) (nat_abs part))
common_one number part one =
    one ∙ ap pos (sym (gcd-one (nat_abs number))) ∙ ap (λ (z : ℤ). pos (gcd (nat_abs number) (nat_abs z))) (sym one)

-- what goes into another number has all of itself in common with it
pub common_all : (number part : ℤ) → pos 0 <ℤ part → nat_abs part ∣ nat_abs number → part ≡ pos (gcd (nat_abs number) (nat_abs part))
common_all number part positive goes =
    positive_is part positive
    ∙ ap pos (sym (gcd_step (nat_abs number) (nat_abs part)
    ∙ ap (λ (left : ℕ). gcd (nat_abs part) left) (mod-eq-zero_of_dvd (nat_abs part) goes) ∙ gcd-zero (nat_abs part)))

-- nothing is left exactly where a number goes in
pub goes_in : (a b : ℕ) → IsTrue (nat_eq (a % b) 0) ↔ (b ∣ a)
goes_in a b = (λ none. dvd_of_mod-eq-zero b (eqb-true (a % b) 0 none), λ goes. eq-eqb (a % b) 0 (mod-eq-zero_of_dvd b goes))

-- the greatest common divisor of a number's size and a positive number isn't above that
pub common_most : (number part : ℤ) → pos 0 <ℤ part → pos (gcd (nat_abs number) (nat_abs part)) ≤ℤ part
common_most number part positive =
    let most = le_of_dvd (size_positive part positive) (gcd_is (nat_abs number) (nat_abs part)).1 in
    omega (arith, ints, most, positive_is part positive)

pub common_positive : (number part : ℤ) → pos 0 <ℤ part → pos 0 <ℤ pos (gcd (nat_abs number) (nat_abs part))
common_positive number part positive =
    let some = gcd_positive (nat_abs number) (nat_abs part) (size_positive part positive) in
    omega (arith, ints, some)

-- what is computed of the two sizes
pub common_fits : (number part : ℤ) (g : ℕ) → pos 0 <ℤ part → mag part < 2 ^ 63 → g ≡ gcd (nat_abs number) (nat_abs part) → g < 2 ^ 63
common_fits number part g positive fits is =
    let most = common_most number part positive in
    below part (gcd (nat_abs number) (nat_abs part)) fits most is
  where
    below : (p : ℤ) (h : ℕ) → mag p < 2 ^ 63 → pos h ≤ℤ p → g ≡ h → g < 2 ^ 63
    below (pos p) h fits most is = omega (arith, ints, fits, most, is)
    below (negsuc p) h fits most is = absurd (omega (arith, ints, most))

-- a division that leaves no rest
pub divided_is : (n p : ℤ) → pos 0 <ℤ p → quot_z n p ≡ exact_quotient n (nat_abs p)
divided_is (pos n) (pos p) positive = refl
divided_is (negsuc n) (pos p) positive = refl
divided_is n (negsuc p) positive = absurd (omega (arith, ints, positive))

pub quotient_size : (n : ℤ) (g : ℕ) → nat_abs (exact_quotient n g) ≤ nat_abs n
quotient_size n g = omega (arith, nat_abs-over n g, div-le_self (nat_abs n) g)

pub quotient_times : (n p : ℤ) → pos 0 <ℤ p → nat_abs p ∣ nat_abs n → (exact_quotient n (nat_abs p) *ℤ p) ≡ n
quotient_times n p positive divides =
    ap (λ (z : ℤ). exact_quotient n (nat_abs p) *ℤ z) (positive_is p positive)
    ∙ over-mul n (nat_abs p) (div-mul_cancel (nat_abs p) divides)

-- 1 goes into a number so many times, and a positive number into itself once
pub quotient_one : (n : ℤ) → exact_quotient n 1 ≡ n
quotient_one n = sym (times_one (exact_quotient n 1)) ∙ quotient_times n (pos 1) (omega (arith, ints)) (one-dvd (nat_abs n))

-- what is read of 64 bits divides, and is divided, as the numbers do
pub read_divides : (p n : ℤ) → FitsSigned w64 p → nat_abs n ≤ 2 ^ 62 → nat_abs p ∣ nat_abs n → nat_abs (read p) ∣ nat_abs (read n)
read_divides p n fits small divides =
    subst (λ (y : ℤ). nat_abs y ∣ nat_abs (read n)) (sym (to_z-of_z w64 p fits))
    (subst (λ (z : ℤ). nat_abs p ∣ nat_abs z) (sym (read_number n (omega (arith, small)))) divides)

pub read_times : (q p n : ℤ) → pos 0 <ℤ p → FitsSigned w64 p → mag q < 2 ^ 63 → nat_abs n ≤ 2 ^ 62 →
    (q *ℤ read p) ≡ read n → n ≡ (read q *ℤ pos (nat_abs p))
read_times q p n positive p_fits q_fits small times =
    sym (ap (λ (z : ℤ). z *ℤ pos (nat_abs p)) (read_known q q_fits)
    ∙ ap (λ (z : ℤ). q *ℤ z) (sym (positive_is p positive) ∙ sym (to_z-of_z w64 p p_fits))
    ∙ times ∙ read_number n (omega (arith, small)))
