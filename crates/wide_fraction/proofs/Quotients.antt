-- Quotients by any divisor are exact.
use Rattle.std.proofs.Common.{◌≡◌, ◌≢◌, ℕ, zero, suc, ◌*◌, ◌<◌, refl, sym, ◌∙◌, ap, subst, [], ◌∷◌, arith}
use Rattle.std.specs.Prelude.{◌↔◌, ℤ, pos, negsuc, ◌*ℤ◌, neg_ℤ, nat_abs}
use native.Mathlib.Nat.{mul_comm}
use Rattle.whole_numbers.specs.Fractions.{Fraction, StandsFor, reduced, divided, negated}
use Rattle.whole_numbers.proofs.Ring.{var, num, ◌⊗◌, neg, ring}
use Rattle.whole_numbers.proofs.FractionLaws.{cancel, product_positive, stands_more, negated_stands, divided_stands}
use Rattle.wide_fraction.specs.Laws.{signed_by}

-- the signs of both leave the quotient as it is
both_negated : (a : ℤ) (b : ℕ) (n : ℤ) (d : ℕ) →
    divided (negated (record { numerator = a; denominator = b })) (negated (record { numerator = n; denominator = d }))
    ≡ divided (record { numerator = a; denominator = b }) (record { numerator = n; denominator = d })
both_negated a b (pos zero) d =
    ap (λ (z : ℤ). reduced z (b * 1)) (ring (a ∷ []) (neg (var 0) ⊗ num (pos 0)) (var 0 ⊗ num (pos 0)) refl)
both_negated a b (pos (suc n)) d =
    ap (λ (z : ℤ). reduced z (b * suc n)) (ring (a ∷ pos d ∷ []) (neg (var 0) ⊗ neg (var 1)) (var 0 ⊗ var 1) refl)
both_negated a b (negsuc n) d =
    ap (λ (z : ℤ). reduced z (b * suc n)) (ring (a ∷ pos d ∷ []) (neg (var 0) ⊗ var 1) (var 0 ⊗ neg (var 1)) refl)

-- the quotient of m/D by n/D is m/n
pub divided_stands_over : (p q : Fraction) (m n : ℤ) (D : ℕ) → 0 < p.denominator → 0 < q.denominator → 0 < D →
    n ≢ pos 0 → StandsFor p m D → StandsFor q n D → StandsFor (divided p q) (signed_by n m) (nat_abs n)
divided_stands_over p q m (pos zero) D p_positive q_positive D_positive not_zero p_is q_is = absurd (not_zero refl)
divided_stands_over p q m (pos (suc n)) D p_positive q_positive D_positive not_zero p_is q_is =
    divided_stands p q m (suc n) D p_positive q_positive (omega arith) D_positive p_is q_is
divided_stands_over p q m (negsuc n) D p_positive q_positive D_positive not_zero p_is q_is =
    subst (λ (r : Fraction). StandsFor r (neg_ℤ m) (suc n)) (both_negated p.numerator p.denominator q.numerator q.denominator)
    (divided_stands (negated p) (negated q) (neg_ℤ m) (suc n) D p_positive q_positive (omega arith) D_positive
    (negated_stands p m D p_is) (negated_stands q (negsuc n) D q_is))

-- the quotient of m/D by a/E is mE/Da
crossed_positive : (p q : Fraction) (m : ℤ) (a D E : ℕ) → 0 < p.denominator → 0 < q.denominator → 0 < D → 0 < E →
    0 < a → StandsFor p m D → StandsFor q (pos a) E → StandsFor (divided p q) (m *ℤ pos E) (D * a)
crossed_positive p q m a D E p_positive q_positive D_positive E_positive a_positive p_is q_is =
    subst (λ (k : ℕ). StandsFor (divided p q) (m *ℤ pos E) k) (mul_comm a D)
    (divided_stands p q (m *ℤ pos E) (a * D) (D * E) p_positive q_positive (product_positive a D a_positive D_positive)
    (product_positive D E D_positive E_positive)
    (stands_more p m D E p_is)
    (subst (λ (k : ℕ). StandsFor q (pos (a * D)) k) (mul_comm E D) (stands_more q (pos a) E D q_is)))

-- the quotient of m/D by n/E is mE/Dn
pub divided_stands_crossed : (p q : Fraction) (m n : ℤ) (D E : ℕ) → 0 < p.denominator → 0 < q.denominator → 0 < D →
    0 < E → n ≢ pos 0 → StandsFor p m D → StandsFor q n E →
    StandsFor (divided p q) (signed_by n m *ℤ pos E) (D * nat_abs n)
divided_stands_crossed p q m (pos zero) D E p_positive q_positive D_positive E_positive not_zero p_is q_is = absurd (not_zero refl)
divided_stands_crossed p q m (pos (suc n)) D E p_positive q_positive D_positive E_positive not_zero p_is q_is =
    crossed_positive p q m (suc n) D E p_positive q_positive D_positive E_positive (omega arith) p_is q_is
divided_stands_crossed p q m (negsuc n) D E p_positive q_positive D_positive E_positive not_zero p_is q_is =
    subst (λ (r : Fraction). StandsFor r (neg_ℤ m *ℤ pos E) (D * suc n)) (both_negated p.numerator p.denominator q.numerator q.denominator)
    (crossed_positive (negated p) (negated q) (neg_ℤ m) (suc n) D E p_positive q_positive D_positive E_positive
    (omega arith) (negated_stands p m D p_is) (negated_stands q (negsuc n) E q_is))

-- where two numbers over positive denominators are one fraction, the second is 0 if the first is
zero_moves : (a b : ℤ) (d D : ℕ) → 0 < d → (a *ℤ pos D) ≡ (b *ℤ pos d) → a ≡ pos 0 → b ≡ pos 0
zero_moves a b d D d_positive is a_is =
    cancel d b (pos 0) d_positive
    (sym is ∙ ap (λ (z : ℤ). z *ℤ pos D) a_is ∙ ring (pos d ∷ pos D ∷ []) (num (pos 0) ⊗ var 1) (num (pos 0) ⊗ var 0) refl)

-- a fraction is 0 exactly where its number is
pub zero_stands : (q : Fraction) (n : ℤ) (D : ℕ) → 0 < q.denominator → 0 < D → StandsFor q n D → (q.numerator ≡ pos 0) ↔ (n ≡ pos 0)
zero_stands q n D q_positive D_positive is = (
  zero_moves q.numerator n q.denominator D q_positive is,
  zero_moves n q.numerator D q.denominator D_positive (sym is),
)
