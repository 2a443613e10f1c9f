-- Fractions over a multiple of their denominators, as code computes them.
use Prim.Native.Nat.{◌∣◌}
use Rattle.std.proofs.Common.{◌≡◌, ℕ, ◌/◌, ◌^◌, ◌<◌, ◌≤◌, sym, ◌∙◌, ap, subst, arith, FitsSigned, true}
use Rattle.std.specs.Int.{w128}
use Rattle.std.specs.Prelude.{ℤ, pos, ◌*ℤ◌, ◌<ℤ◌, ◌≤ℤ◌, nat_abs}
use Rattle.std.specs.Int.Signed.{lt_z, quot_z}
use Rattle.std.proofs.lemmas.Int.{fits_signed_from_abs, ints}
use Rattle.std.proofs.lemmas.Nat.Gcd.{le_of_dvd}
use Rattle.std.proofs.Math.Nat.{div-le_self, mul-le-mul_left}
use mathlib.Core.Path.{ap₂}
use Rattle.whole_numbers.specs.Fractions.{Fraction, lcm}
use Rattle.whole_numbers.proofs.Divisors.{quotient_positive}
use Rattle.whole_numbers.proofs.Multiples.{lcm_positive, right_divides_lcm}
use Rattle.whole_numbers.proofs.Sizes.{positive_is, product_size, size_positive}
use Rattle.wide_fraction.specs.Widths.{IsFractionIn127Bits}
use Rattle.fraction_table.proofs.MultiplierSteps.{read_back}
use Rattle.integer_pivots.proofs.Sizes.{product_small, read, read_number, size_most, size_of}
use Rattle.table_kernel.specs.ReadBack.{over_denominator}
use Rattle.table_kernel.proofs.WideNumbers.{read_of}

-- a fraction's numbers, as 128 bits hold them
pub numerator_read : (q : Fraction) (top : ℤ) → IsFractionIn127Bits q → top ≡ q.numerator → read_of top ≡ q.numerator
numerator_read q top is same = ap read_of same ∙ read_back q.numerator is.numerator

denominator_read : (q : Fraction) (denominator : ℤ) → IsFractionIn127Bits q → denominator ≡ pos q.denominator →
    read_of denominator ≡ pos q.denominator
denominator_read q denominator is same = ap read_of same ∙ read_back (pos q.denominator) is.denominator

-- the least common multiple with a large denominator is large
pub large_multiple : (common denominator : ℤ) (q : Fraction) → pos 0 <ℤ common → IsFractionIn127Bits q → denominator ≡ pos q.denominator →
    lt_z (read_of (pos (2 ^ 30))) (read_of denominator) ≡ true → 2 ^ 30 < lcm (nat_abs common) q.denominator
large_multiple common denominator q high is same larger =
    let test = subst (λ (z : ℤ). lt_z (pos (2 ^ 30)) z ≡ true) (denominator_read q denominator is same) larger in
    let large : 2 ^ 30 < q.denominator = omega (arith, ints, test) in
    let some = lcm_positive (nat_abs common) q.denominator (size_positive common high) is.lowest.positive in
    let most = le_of_dvd some (right_divides_lcm (nat_abs common) q.denominator) in
    omega (arith, large, most)

-- a limit of at most 2^44 is small, and read as it is
pub limit_is : (limit : ℤ) → (pos 0 ≤ℤ limit) × (limit ≤ℤ pos (2 ^ 44)) → (nat_abs limit ≤ 2 ^ 44) × (nat_abs (read limit) ≡ nat_abs limit)
limit_is limit within =
    let small : nat_abs limit ≤ 2 ^ 44 = size_of limit (2 ^ 44) within in
    (small, ap nat_abs (read_number limit (omega (arith, small))))

-- over a multiple of its denominator a fraction's number isn't smaller than its numerator
pub numerator_smaller : (D : ℕ) (q : Fraction) → 0 < D → q.denominator ∣ D → nat_abs q.numerator ≤ nat_abs (over_denominator D q)
numerator_smaller D q some divides =
    let share = quotient_positive D q.denominator some divides in
    let size = product_size q.numerator (D / q.denominator) in
    omega (arith, size, mul-le-mul_left (nat_abs q.numerator) share)

-- a fraction's number, as code computes it of what it reads
pub record IsNumberMade (q : Fraction) (denominator top wide below : ℤ) : Type 0 where
  pub positive : pos 0 <ℤ denominator
  pub small : denominator ≤ℤ pos (2 ^ 30)
  pub fraction : IsFractionIn127Bits q
  pub top_is : top ≡ q.numerator
  pub wide_is : wide ≡ read denominator
  pub below_is : below ≡ pos q.denominator

-- the product that code computes
abbrev pub product_made : ℤ → ℤ → ℤ → ℤ
product_made top wide below = read_of top *ℤ read_of (quot_z (read_of wide) (read_of below))

module _ (q : Fraction) (denominator top wide below : ℤ) (m : IsNumberMade q denominator top wide below) where
  abbrev pub D : ℕ
  D = nat_abs denominator

  D_small : D ≤ 2 ^ 30
  D_small = size_most denominator (2 ^ 30) m.positive m.small

  share_small : D / q.denominator ≤ 2 ^ 30
  share_small = omega (arith, D_small, div-le_self D q.denominator)

  wide_read : read_of wide ≡ pos D
  wide_read =
      ap read_of (m.wide_is ∙ read_number denominator (omega (arith, D_small)) ∙ positive_is denominator m.positive)
      ∙ read_back (pos D) (omega (arith, D_small))

  share_read : read_of (quot_z (read_of wide) (read_of below)) ≡ pos (D / q.denominator)
  share_read =
      ap read_of (ap₂ quot_z wide_read (denominator_read q below m.fraction m.below_is))
      ∙ read_back (pos (D / q.denominator)) (omega (arith, share_small))

  product_is : product_made top wide below ≡ over_denominator D q
  product_is = ap₂ (λ (y z : ℤ). y *ℤ z) (numerator_read q top m.fraction m.top_is) share_read

  product_within : nat_abs q.numerator ≤ 2 ^ 44 → nat_abs (over_denominator D q) < 2 ^ 127
  product_within few =
      omega (arith, product_small (2 ^ 44) (2 ^ 30) q.numerator (pos (D / q.denominator)) few share_small)

  pub product_fits : nat_abs q.numerator ≤ 2 ^ 44 → FitsSigned w128 (product_made top wide below)
  product_fits few = subst (FitsSigned w128) (sym product_is) (fits_signed_from_abs w128 (over_denominator D q) (product_within few))

  pub product_read : nat_abs q.numerator ≤ 2 ^ 44 → read_of (product_made top wide below) ≡ over_denominator D q
  product_read few = ap read_of product_is ∙ read_back (over_denominator D q) (product_within few)
