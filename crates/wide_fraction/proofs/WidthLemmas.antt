-- Fractions that a `Frac` can hold: what keeps them in lowest terms and within 127 bits.
use Rattle.std.proofs.Common.{◌≡◌, ◌≢◌, ℕ, zero, suc, ◌^◌, ◌<◌, ◌≤◌, ◌-◌, ◌*◌, ◌/◌, ◌%◌, refl, sym, ◌∙◌, ap, subst, arith}
use Rattle.std.specs.Prelude.{ℤ, pos, negsuc, nat_abs}
use Rattle.std.proofs.lemmas.Nat.{one_shl, pow_pos}
use Rattle.std.proofs.lemmas.Int.{to_z_pos}
use mir.Syntax.{w128}
use mir.Val.{to_z}
use mathlib.Core.Path.{ap₂}
use native.Mathlib.Nat.{div-le_self, pow-le-pow_right}
use Rattle.whole_numbers.specs.Fractions.{Fraction, gcd, exact_quotient, reduced, inverse, inverted}
use Rattle.whole_numbers.proofs.Divisors.{gcd-swap}
use Rattle.whole_numbers.proofs.FractionLaws.{nat_abs-over, nat_abs-neg, reduced_lowest}
use Rattle.wide_fraction.specs.Widths.{IsFractionIn127Bits}
use Rattle.wide_fraction.specs.Laws.{signed_by}

-- the greatest number of some bits, as the code shifts for it
pub shifted : (bits : ℕ) → bits ≤ 127 → (1 * 2 ^ bits) % 2 ^ 128 - 1 ≡ 2 ^ bits - 1
shifted bits h = ap (λ n. n - 1) (one_shl bits 128 (omega arith))

pub shifted_below : (bits : ℕ) → bits ≤ 127 → 2 ^ bits - 1 < 2 ^ 127
shifted_below bits h = let two : 0 < 2 = omega arith in omega (arith, pow_pos bits, pow-le-pow_right two h)

-- the number that the code casts from it
pub top_view : (bits : ℕ) → bits ≤ 127 → to_z w128 ((1 * 2 ^ bits) % 2 ^ 128 - 1) ≡ pos (2 ^ bits - 1)
top_view bits h = ap (to_z w128) (shifted bits h) ∙ to_z_pos w128 (2 ^ bits - 1) (shifted_below bits h)

-- a fraction that is reduced keeps within its old size
pub reduced_kept : (n : ℤ) (d : ℕ) → 0 < d → nat_abs n < 2 ^ 127 → d < 2 ^ 127 → IsFractionIn127Bits (reduced n d)
reduced_kept n d d_positive n_fits d_fits = record {
  lowest = reduced_lowest n d d_positive;
  numerator = omega (arith, nat_abs-over n (gcd (nat_abs n) d), div-le_self (nat_abs n) (gcd (nat_abs n) d));
  denominator = omega (arith, div-le_self d (gcd (nat_abs n) d));
}

-- the fraction upside down
inverted_kept : (n : ℤ) (d : ℕ) → 0 < d → gcd (nat_abs n) d ≡ 1 → nat_abs n < 2 ^ 127 → d < 2 ^ 127 → n ≢ pos 0 → IsFractionIn127Bits (inverted n d)
inverted_kept (pos zero) d d_positive lowest n_fits d_fits not_zero = absurd (not_zero refl)
inverted_kept (pos (suc n)) d d_positive lowest n_fits d_fits not_zero = record {
  lowest = record { positive = omega arith; lowest = gcd-swap d (suc n) ∙ lowest };
  numerator = d_fits;
  denominator = n_fits;
}
inverted_kept (negsuc n) d d_positive lowest n_fits d_fits not_zero = record {
  lowest = record { positive = omega arith; lowest = ap (λ m. gcd m (suc n)) (nat_abs-neg d) ∙ gcd-swap d (suc n) ∙ lowest };
  numerator = omega (arith, nat_abs-neg d);
  denominator = n_fits;
}

pub inverse_kept : (q : Fraction) → IsFractionIn127Bits q → q.numerator ≢ pos 0 → IsFractionIn127Bits (inverse q)
inverse_kept q kept not_zero =
    inverted_kept q.numerator q.denominator kept.lowest.positive kept.lowest.lowest kept.numerator kept.denominator not_zero

-- the fraction upside down, as the code makes its numbers
inverted_made : (n : ℤ) (d : ℕ) → n ≢ pos 0 → record { numerator = signed_by n (pos d); denominator = nat_abs n } ≡ inverted n d
inverted_made (pos zero) d not_zero = absurd (not_zero refl)
inverted_made (pos (suc n)) d not_zero = refl
inverted_made (negsuc n) d not_zero = refl

pub upside_down_kept : (n : ℤ) (d : ℕ) (z : ℤ) (m : ℕ) → IsFractionIn127Bits (record { numerator = n; denominator = d }) →
    n ≢ pos 0 → z ≡ signed_by n (pos d) → m ≡ nat_abs n → IsFractionIn127Bits (record { numerator = z; denominator = m })
upside_down_kept n d z m kept not_zero z_is m_is =
    subst (λ (q : Fraction). IsFractionIn127Bits q)
    (sym (ap₂ (λ (t : ℤ) (b : ℕ). record { numerator = t; denominator = b }) z_is m_is
    ∙ inverted_made n d not_zero)) (inverse_kept (record { numerator = n; denominator = d }) kept not_zero)

-- a fraction with the numbers of a reduced one
pub reduced_seen : (n : ℤ) (d : ℕ) (z : ℤ) (m : ℕ) → 0 < d → nat_abs n < 2 ^ 127 → d < 2 ^ 127 →
    z ≡ exact_quotient n (gcd (nat_abs n) d) → m ≡ d / gcd (nat_abs n) d → IsFractionIn127Bits (record { numerator = z; denominator = m })
reduced_seen n d z m d_positive n_fits d_fits z_is m_is =
    subst (λ (q : Fraction). IsFractionIn127Bits q)
    (sym (ap₂ (λ (t : ℤ) (b : ℕ). record { numerator = t; denominator = b }) z_is m_is))
    (reduced_kept n d d_positive n_fits d_fits)
