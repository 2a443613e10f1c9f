-- The least common multiple makes fractions whole, and sums and differences over one denominator.
use Rattle.std.proofs.Common.{◌≡◌, ℕ, ◌*◌, ◌/◌, ◌<◌, sym, ◌∙◌, ap, subst, [], ◌∷◌, refl}
use Rattle.std.specs.Prelude.{ℤ, pos, ◌+ℤ◌, ◌-ℤ◌, ◌*ℤ◌}
use Prim.Native.Nat.{◌∣◌}
use native.Mathlib.Nat.{div-mul_cancel, dvd-mul_left, dvd-mul_right, mul_comm, mul_assoc}
use Rattle.whole_numbers.specs.Fractions.{Fraction, StandsFor, gcd, lcm, plus, minus}
use Rattle.whole_numbers.proofs.Ring.{var, ◌⊕◌, ◌⊖◌, ◌⊗◌, ring}
use Rattle.whole_numbers.proofs.Divisors.{gcd_is, quotient_positive}
use Rattle.whole_numbers.proofs.FractionLaws.{plus_stands, minus_stands, stands_less, product_positive}

-- the least common multiple is a multiple of both
pub right_divides_lcm : (a b : ℕ) → b ∣ lcm a b
right_divides_lcm a b = dvd-mul_left b (a / gcd a b)

pub left_divides_lcm : (a b : ℕ) → a ∣ lcm a b
left_divides_lcm a b =
    let g = gcd a b in
    let divides = gcd_is a b in
    let turned : a * (b / g) ≡ lcm a b =
    ap (λ (n : ℕ). n * (b / g)) (sym (div-mul_cancel g divides.0)) ∙ mul_assoc (a / g) g (b / g)
    ∙ ap (λ (n : ℕ). a / g * n) (mul_comm g (b / g) ∙ div-mul_cancel g divides.1) in
    subst (λ (n : ℕ). a ∣ n) turned (dvd-mul_right a (b / g))

-- and positive where both are
pub lcm_positive : (a b : ℕ) → 0 < a → 0 < b → 0 < lcm a b
lcm_positive a b a_positive b_positive =
    let g = gcd a b in
    let divides = gcd_is a b in
    product_positive (a / g) b (quotient_positive a g a_positive divides.0) b_positive

-- over a multiple of its denominator a fraction stands for a whole number
pub stands_over : (q : Fraction) (L : ℕ) → q.denominator ∣ L → StandsFor q (q.numerator *ℤ pos (L / q.denominator)) L
stands_over q L divides =
    ap (λ (n : ℕ). q.numerator *ℤ pos n) (sym (div-mul_cancel q.denominator divides))
    ∙ ring (q.numerator ∷ pos (L / q.denominator) ∷ pos q.denominator ∷ []) (var 0 ⊗ (var 1 ⊗ var 2)) ((var 0 ⊗ var 1) ⊗ var 2) refl

-- a sum and a difference over one denominator
pub plus_stands_over : (p q : Fraction) (m k : ℤ) (D : ℕ) → 0 < p.denominator → 0 < q.denominator → 0 < D →
    StandsFor p m D → StandsFor q k D → StandsFor (plus p q) (m +ℤ k) D
plus_stands_over p q m k D p_positive q_positive D_positive p_is q_is =
    stands_less (plus p q) (m +ℤ k) D D D_positive
    (subst (λ (z : ℤ). StandsFor (plus p q) z (D * D)) (ring (m ∷ k ∷ pos D ∷ []) ((var 0 ⊗ var 2) ⊕ (var 1 ⊗ var 2)) ((var 0 ⊕ var 1) ⊗ var 2) refl)
    (plus_stands p q m k D D p_positive q_positive p_is q_is))

pub minus_stands_over : (p q : Fraction) (m k : ℤ) (D : ℕ) → 0 < p.denominator → 0 < q.denominator → 0 < D →
    StandsFor p m D → StandsFor q k D → StandsFor (minus p q) (m -ℤ k) D
minus_stands_over p q m k D p_positive q_positive D_positive p_is q_is =
    stands_less (minus p q) (m -ℤ k) D D D_positive
    (subst (λ (z : ℤ). StandsFor (minus p q) z (D * D)) (ring (m ∷ k ∷ pos D ∷ []) ((var 0 ⊗ var 2) ⊖ (var 1 ⊗ var 2)) ((var 0 ⊖ var 1) ⊗ var 2) refl)
    (minus_stands p q m k D D p_positive q_positive p_is q_is))
