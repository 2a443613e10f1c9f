-- The constants of lines that move, as code reads them.
use Rattle.std.proofs.Common.{◌≡◌, ℕ, ◌+◌, ◌^◌, ◌<◌, ◌≤◌, ◌∙◌, ap, subst, sym, arith, w64, FitsSigned}
use Rattle.std.specs.Prelude.{ℤ, pos, ◌+ℤ◌, ◌-ℤ◌, ◌*ℤ◌, ◌≤ℤ◌, nat_abs}
use Rattle.std.proofs.lemmas.Int.{fits_signed_from_abs, ints}
use Rattle.integer_pivots.proofs.Sizes.{difference_small, product_small, read, read_number, sum_small}

-- the product of two numbers that 64 bits hold
pub read_factors : (a b : ℤ) → nat_abs a ≤ 2 ^ 30 → nat_abs b ≤ 2 ^ 30 → (read a *ℤ read b) ≡ (a *ℤ b)
read_factors a b a_small b_small =
    ap (λ (z : ℤ). z *ℤ read b) (read_number a (omega (arith, a_small))) ∙ ap (λ (z : ℤ). a *ℤ z) (read_number b (omega (arith, b_small)))

-- no step of a move is too wide, and the constant is what it is to be
pub record IsReadRight (product whole is : ℤ) : Type 0 where
  pub product_fits : FitsSigned w64 product
  pub whole_fits : FitsSigned w64 whole
  pub value : read whole ≡ is

-- a constant that rises
pub raised_read : (fall number constant : ℤ) → nat_abs fall < 2 ^ 16 → nat_abs number ≤ 2 ^ 30 → nat_abs constant ≤ 2 ^ 44 →
    IsReadRight (read fall *ℤ read number) (read constant +ℤ read (read fall *ℤ read number)) (constant +ℤ (fall *ℤ number))
raised_read fall number constant fall_small number_small constant_small =
    let both = read_factors fall number (omega (arith, fall_small)) number_small in
    let size = product_small (2 ^ 16) (2 ^ 30) fall number (omega (arith, fall_small)) number_small in
    let term : read (read fall *ℤ read number) ≡ (fall *ℤ number) = ap read both ∙ read_number (fall *ℤ number) (omega (arith, size)) in
    let sum : (read constant +ℤ read (read fall *ℤ read number)) ≡ (constant +ℤ (fall *ℤ number)) =
    ap (λ (z : ℤ). z +ℤ read (read fall *ℤ read number)) (read_number constant (omega (arith, constant_small))) ∙ ap (λ (z : ℤ). constant +ℤ z) term in
    let small = sum_small (2 ^ 44) (2 ^ 46) constant (fall *ℤ number) constant_small (omega (arith, size)) in
    record {
      product_fits = subst (FitsSigned w64) (sym both) (fits_signed_from_abs w64 (fall *ℤ number) (omega (arith, size)));
      whole_fits = subst (FitsSigned w64) (sym sum) (fits_signed_from_abs w64 (constant +ℤ (fall *ℤ number)) (omega (arith, small)));
      value = ap read sum ∙ read_number (constant +ℤ (fall *ℤ number)) (omega (arith, small));
    }

-- one whose own form falls
pub lowered_read : (denominator fall constant : ℤ) → nat_abs denominator ≤ 2 ^ 30 → nat_abs fall < 2 ^ 16 → nat_abs constant ≤ 2 ^ 44 →
    IsReadRight (read denominator *ℤ read fall) (read constant -ℤ read (read denominator *ℤ read fall)) (constant -ℤ (denominator *ℤ fall))
lowered_read denominator fall constant denominator_small fall_small constant_small =
    let both = read_factors denominator fall denominator_small (omega (arith, fall_small)) in
    let size = product_small (2 ^ 30) (2 ^ 16) denominator fall denominator_small (omega (arith, fall_small)) in
    let term : read (read denominator *ℤ read fall) ≡ (denominator *ℤ fall) = ap read both ∙ read_number (denominator *ℤ fall) (omega (arith, size)) in
    let rest : (read constant -ℤ read (read denominator *ℤ read fall)) ≡ (constant -ℤ (denominator *ℤ fall)) =
    ap (λ (z : ℤ). z -ℤ read (read denominator *ℤ read fall)) (read_number constant (omega (arith, constant_small))) ∙ ap (λ (z : ℤ). constant -ℤ z) term in
    let small = difference_small (2 ^ 44) (2 ^ 46) constant (denominator *ℤ fall) constant_small (omega (arith, size)) in
    record {
      product_fits = subst (FitsSigned w64) (sym both) (fits_signed_from_abs w64 (denominator *ℤ fall) (omega (arith, size)));
      whole_fits = subst (FitsSigned w64) (sym rest) (fits_signed_from_abs w64 (constant -ℤ (denominator *ℤ fall)) (omega (arith, small)));
      value = ap read rest ∙ read_number (constant -ℤ (denominator *ℤ fall)) (omega (arith, small));
    }

-- how far the bounds move, as code adds it
pub distances_read : (x y : ℤ) (m n : ℕ) → x ≡ pos m → y ≡ pos n → x ≤ℤ pos (2 ^ 60) → y ≤ℤ pos (2 ^ 60) →
    FitsSigned w64 (read x +ℤ read y) × (read (read x +ℤ read y) ≡ pos (m + n)) × (m + n ≤ 2 ^ 61)
distances_read x y m n x_is y_is x_small y_small =
    let m_small : m ≤ 2 ^ 60 = omega (arith, ints, x_is, x_small) in
    let n_small : n ≤ 2 ^ 60 = omega (arith, ints, y_is, y_small) in
    let first : read x ≡ pos m = ap read x_is ∙ read_number (pos m) (omega (arith, m_small)) in
    let second : read y ≡ pos n = ap read y_is ∙ read_number (pos n) (omega (arith, n_small)) in
    let both : (read x +ℤ read y) ≡ pos (m + n) = omega (arith, ints, first, second) in (
      subst (FitsSigned w64) (sym both) (fits_signed_from_abs w64 (pos (m + n)) (omega (arith, m_small, n_small))),
      ap read both ∙ read_number (pos (m + n)) (omega (arith, m_small, n_small)),
      omega (arith, m_small, n_small),
    )
