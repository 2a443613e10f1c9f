-- The law of quotients.
use Rattle.std.specs.Prelude.{◌≡◌, ◌≢◌, ◌↔◌, ℕ, ◌*◌, ◌<◌, ℤ, pos, negsuc, ◌*ℤ◌, neg_ℤ, nat_abs}
use Rattle.whole_numbers.specs.Fractions.{Fraction, StandsFor, divided}

-- m where n isn't below 0, and -m where it is: what stands above the line once the sign of n has moved there
abbrev pub signed_by : ℤ → ℤ → ℤ
signed_by (pos n) m = m
signed_by (negsuc n) m = neg_ℤ m

-- Over one denominator a quotient stands for the first number over the second, and over two for the crossed products,
-- with the sign of the divisor in the numerator. A fraction is 0 exactly where its number is.
pub record QuotientsAreExact : Type 0 where
  pub over_one : (p q : Fraction) (m n : ℤ) (D : ℕ) → 0 < p.denominator → 0 < q.denominator → 0 < D → n ≢ pos 0 →
      StandsFor p m D → StandsFor q n D → StandsFor (divided p q) (signed_by n m) (nat_abs n)
  pub crossed : (p q : Fraction) (m n : ℤ) (D E : ℕ) → 0 < p.denominator → 0 < q.denominator → 0 < D → 0 < E →
      n ≢ pos 0 → StandsFor p m D → StandsFor q n E → StandsFor (divided p q) (signed_by n m *ℤ pos E) (D * nat_abs n)
  pub zero : (q : Fraction) (n : ℤ) (D : ℕ) → 0 < q.denominator → 0 < D → StandsFor q n D → (q.numerator ≡ pos 0) ↔ (n ≡ pos 0)
