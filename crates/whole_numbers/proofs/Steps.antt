-- The small numbers of a step give the exact fraction: what a sum and a product make on their way is the result in
-- lowest terms.
use Rattle.std.proofs.Common.{◌≡◌, ℕ, zero, suc, ◌*◌, ◌/◌, ◌<◌, refl, sym, ◌∙◌, ap, subst, [], ◌∷◌, arith}
use Rattle.std.specs.Prelude.{ℤ, pos, negsuc, ◌+ℤ◌, ◌*ℤ◌, nat_abs}
use Rattle.std.proofs.lemmas.Int.{unsigned_abs-mul}
use Prim.Native.Nat.{◌∣◌}
use native.Mathlib.Nat.{div-mul_cancel, mul-div_assoc, dvd-mul_right, mul-zero}
use Rattle.whole_numbers.specs.Fractions.{Fraction, IsLowest, StandsFor, gcd, exact_quotient, plus, times}
use Rattle.whole_numbers.proofs.Ring.{var, num, ◌⊕◌, ◌⊖◌, ◌⊗◌, neg, ring_by, nothing, using}
use Rattle.whole_numbers.proofs.Divisors.{gcd_is, gcd_positive, quotient_positive}
use Rattle.whole_numbers.proofs.FractionLaws.{cancel, over-mul, nat_abs-over, product_positive, reduced_lowest, reduced_stands}
use Rattle.whole_numbers.proofs.Sums.{Apart, apart_from_gcd, gcd_from_apart, apart-swap, apart-product, apart-part, quotients_apart, sum_lowest, lowest_unique}

-- the numbers of a sum: with g = gcd(b, d), s = a(d/g) + c(b/g) and h = gcd(s, g) the sum is s/h over (b/g)(d/h)
pub sum_exact : (p q : Fraction) → IsLowest p → IsLowest q → (s : ℤ) →
    ((p.numerator *ℤ pos (q.denominator / gcd p.denominator q.denominator))
    +ℤ (q.numerator *ℤ pos (p.denominator / gcd p.denominator q.denominator))) ≡ s →
    record {
      numerator = exact_quotient s (gcd (nat_abs s) (gcd p.denominator q.denominator));
      denominator = (p.denominator / gcd p.denominator q.denominator)
          * (q.denominator / gcd (nat_abs s) (gcd p.denominator q.denominator));
    } ≡ plus p q
sum_exact p q p_lowest q_lowest s s_is =
    let g = gcd p.denominator q.denominator in
    let h = gcd (nat_abs s) g in
    let b = p.denominator / g in
    let d = q.denominator / g in
    let k = g / h in
    let g_divides = gcd_is p.denominator q.denominator in
    let h_divides = gcd_is (nat_abs s) g in
    let g_positive : 0 < g = gcd_positive p.denominator q.denominator q_lowest.positive in
    let h_positive : 0 < h = gcd_positive (nat_abs s) g g_positive in
    let b_is = div-mul_cancel g g_divides.0 in
    let d_is = div-mul_cancel g g_divides.1 in
    let k_is = div-mul_cancel h h_divides.1 in
    let b_positive : 0 < b = quotient_positive p.denominator g p_lowest.positive g_divides.0 in
    let d_positive : 0 < d = quotient_positive q.denominator g q_lowest.positive g_divides.1 in
    let k_positive : 0 < k = quotient_positive g h g_positive h_divides.1 in
    let whole_part : q.denominator / h ≡ d * k = ap (λ (n : ℕ). n / h) (sym d_is) ∙ mul-div_assoc h d h_divides.1 in
    let p_apart : Apart (nat_abs p.numerator) (b * g) =
    subst (λ (n : ℕ). Apart (nat_abs p.numerator) n) (sym b_is)
    (apart_from_gcd (nat_abs p.numerator) p.denominator p_lowest.lowest) in
    let q_apart : Apart (nat_abs q.numerator) (d * g) =
    subst (λ (n : ℕ). Apart (nat_abs q.numerator) n) (sym d_is)
    (apart_from_gcd (nat_abs q.numerator) q.denominator q_lowest.lowest) in
    let lowest = sum_lowest p.numerator q.numerator b d g d_positive g_positive p_apart q_apart
    (quotients_apart p.denominator q.denominator q_lowest.positive) (nat_abs s) (ap nat_abs s_is) in
    let result : Fraction = record { numerator = exact_quotient s h; denominator = b * (q.denominator / h) } in
    let same : b * (q.denominator / h) ≡ b * (d * k) = ap (λ (n : ℕ). b * n) whole_part in
    let result_lowest : IsLowest result = record {
      positive = subst (λ (n : ℕ). 0 < n) (sym same) (product_positive b (d * k) b_positive (product_positive d k d_positive k_positive));
      lowest = ap (λ (n : ℕ). gcd n (b * (q.denominator / h))) (nat_abs-over s h)
          ∙ ap (λ (n : ℕ). gcd (nat_abs s / h) n) same ∙ gcd_from_apart (nat_abs s / h) (b * (d * k)) lowest;
    } in
    let both : 0 < p.denominator * q.denominator = product_positive p.denominator q.denominator p_lowest.positive q_lowest.positive in
    let exact : StandsFor (plus p q) ((p.numerator *ℤ pos q.denominator) +ℤ (q.numerator *ℤ pos p.denominator))
    (p.denominator * q.denominator) =
    reduced_stands ((p.numerator *ℤ pos q.denominator) +ℤ (q.numerator *ℤ pos p.denominator))
    (p.denominator * q.denominator) both in
    let top_is = over-mul s h (div-mul_cancel h h_divides.0) in
    lowest_unique result (plus p q) result_lowest
    (reduced_lowest ((p.numerator *ℤ pos q.denominator) +ℤ (q.numerator *ℤ pos p.denominator))
    (p.denominator * q.denominator) both)
    (cancel (g * h) _ _ (product_positive g h g_positive h_positive)
    (ring_by (exact_quotient s h ∷ pos (plus p q).denominator ∷ (plus p q).numerator ∷ p.numerator ∷ q.numerator ∷ pos b ∷ pos d
    ∷ pos k ∷ pos h ∷ pos g ∷ pos p.denominator ∷ pos q.denominator ∷ s ∷ pos (q.denominator / h) ∷ [])
    ((var 0 ⊗ var 1) ⊗ (var 9 ⊗ var 8)) ((var 2 ⊗ (var 5 ⊗ var 13)) ⊗ (var 9 ⊗ var 8))
    (using (var 1 ⊗ var 9) (var 0 ⊗ var 8) (var 12) top_is
    (using (neg (var 1 ⊗ var 9)) ((var 3 ⊗ var 6) ⊕ (var 4 ⊗ var 5)) (var 12) s_is
    (using (num (negsuc 0)) (var 2 ⊗ (var 10 ⊗ var 11)) (((var 3 ⊗ var 11) ⊕ (var 4 ⊗ var 10)) ⊗ var 1) exact
    (using ((var 1 ⊗ var 4) ⊖ (var 2 ⊗ var 6 ⊗ var 9)) (var 5 ⊗ var 9) (var 10) (ap pos b_is)
    (using ((var 1 ⊗ var 3) ⊖ (var 2 ⊗ var 10)) (var 6 ⊗ var 9) (var 11) (ap pos d_is)
    (using (neg (var 2 ⊗ var 5 ⊗ var 9 ⊗ var 8)) (var 13) (var 6 ⊗ var 7) (ap pos whole_part)
    (using (neg (var 2 ⊗ var 5 ⊗ var 9 ⊗ var 6)) (var 7 ⊗ var 8) (var 9) (ap pos k_is)
    nothing))))))) refl))

-- apart from two numbers is apart from their product, also where that is 0
apart_from_product : (a b c : ℕ) → Apart a b → Apart a c → Apart a (b * c)
apart_from_product a b zero first second = subst (λ (n : ℕ). Apart a n) (sym (mul-zero b)) second
apart_from_product a b (suc c) first second = apart-product a b (suc c) (omega arith) first second

-- the numbers of a product: with g = gcd(a, d) and h = gcd(c, b) the product is (a/g)(c/h) over (b/h)(d/g)
pub product_exact : (p q : Fraction) → IsLowest p → IsLowest q →
    record {
      numerator = exact_quotient p.numerator (gcd (nat_abs p.numerator) q.denominator) *ℤ exact_quotient q.numerator
          (gcd (nat_abs q.numerator) p.denominator);
      denominator =
          (p.denominator / gcd (nat_abs q.numerator) p.denominator)
          * (q.denominator / gcd (nat_abs p.numerator) q.denominator);
    } ≡ times p q
product_exact p q p_lowest q_lowest =
    let g = gcd (nat_abs p.numerator) q.denominator in
    let h = gcd (nat_abs q.numerator) p.denominator in
    let a = nat_abs p.numerator / g in
    let c = nat_abs q.numerator / h in
    let b = p.denominator / h in
    let d = q.denominator / g in
    let g_divides = gcd_is (nat_abs p.numerator) q.denominator in
    let h_divides = gcd_is (nat_abs q.numerator) p.denominator in
    let g_positive : 0 < g = gcd_positive (nat_abs p.numerator) q.denominator q_lowest.positive in
    let h_positive : 0 < h = gcd_positive (nat_abs q.numerator) p.denominator p_lowest.positive in
    let b_is = div-mul_cancel h h_divides.1 in
    let d_is = div-mul_cancel g g_divides.1 in
    let b_positive : 0 < b = quotient_positive p.denominator h p_lowest.positive h_divides.1 in
    let d_positive : 0 < d = quotient_positive q.denominator g q_lowest.positive g_divides.1 in
    let a_part : a ∣ nat_abs p.numerator = subst (λ (n : ℕ). a ∣ n) (div-mul_cancel g g_divides.0) (dvd-mul_right a g) in
    let c_part : c ∣ nat_abs q.numerator = subst (λ (n : ℕ). c ∣ n) (div-mul_cancel h h_divides.0) (dvd-mul_right c h) in
    let b_part : b ∣ p.denominator = subst (λ (n : ℕ). b ∣ n) b_is (dvd-mul_right b h) in
    let d_part : d ∣ q.denominator = subst (λ (n : ℕ). d ∣ n) d_is (dvd-mul_right d g) in
    let ab : Apart b a = apart-part p.denominator a b b_part
    (apart-swap a p.denominator
    (apart-part (nat_abs p.numerator) p.denominator a a_part
    (apart_from_gcd (nat_abs p.numerator) p.denominator p_lowest.lowest))) in
    let cd : Apart d c = apart-part q.denominator c d d_part
    (apart-swap c q.denominator
    (apart-part (nat_abs q.numerator) q.denominator c c_part
    (apart_from_gcd (nat_abs q.numerator) q.denominator q_lowest.lowest))) in
    let ad : Apart d a = apart-swap a d (quotients_apart (nat_abs p.numerator) q.denominator q_lowest.positive) in
    let cb : Apart b c = apart-swap c b (quotients_apart (nat_abs q.numerator) p.denominator p_lowest.positive) in
    let lowest : Apart (a * c) (b * d) =
    apart_from_product (a * c) b d (apart-swap b (a * c) (apart_from_product b a c ab cb))
    (apart-swap d (a * c) (apart_from_product d a c ad cd)) in
    let top = exact_quotient p.numerator g *ℤ exact_quotient q.numerator h in
    let size : nat_abs top ≡ a * c = unsigned_abs-mul (exact_quotient p.numerator g) (exact_quotient q.numerator h)
    ∙ ap (λ (n : ℕ). n * nat_abs (exact_quotient q.numerator h)) (nat_abs-over p.numerator g)
    ∙ ap (λ (n : ℕ). a * n) (nat_abs-over q.numerator h) in
    let result : Fraction = record { numerator = top; denominator = b * d } in
    let result_lowest : IsLowest result = record {
      positive = product_positive b d b_positive d_positive;
      lowest = ap (λ (n : ℕ). gcd n (b * d)) size ∙ gcd_from_apart (a * c) (b * d) lowest;
    } in
    let both : 0 < p.denominator * q.denominator = product_positive p.denominator q.denominator p_lowest.positive q_lowest.positive in
    let exact : StandsFor (times p q) (p.numerator *ℤ q.numerator) (p.denominator * q.denominator) =
    reduced_stands (p.numerator *ℤ q.numerator) (p.denominator * q.denominator) both in
    lowest_unique result (times p q) result_lowest (reduced_lowest (p.numerator *ℤ q.numerator) (p.denominator * q.denominator) both)
    (cancel (g * h) _ _ (product_positive g h g_positive h_positive)
    (ring_by (exact_quotient p.numerator g ∷ exact_quotient q.numerator h ∷ pos (times p q).denominator ∷ (times p q).numerator
    ∷ p.numerator ∷ q.numerator ∷ pos b ∷ pos d ∷ pos g ∷ pos h ∷ pos p.denominator ∷ pos q.denominator ∷ [])
    (((var 0 ⊗ var 1) ⊗ var 2) ⊗ (var 8 ⊗ var 9)) ((var 3 ⊗ (var 6 ⊗ var 7)) ⊗ (var 8 ⊗ var 9))
    (using (var 1 ⊗ var 9 ⊗ var 2) (var 0 ⊗ var 8) (var 4) (over-mul p.numerator g (div-mul_cancel g g_divides.0))
    (using (var 4 ⊗ var 2) (var 1 ⊗ var 9) (var 5) (over-mul q.numerator h (div-mul_cancel h h_divides.0))
    (using (num (negsuc 0)) (var 3 ⊗ (var 10 ⊗ var 11)) ((var 4 ⊗ var 5) ⊗ var 2) exact
    (using (neg (var 3 ⊗ var 7 ⊗ var 8)) (var 6 ⊗ var 9) (var 10) (ap pos b_is)
    (using (neg (var 3 ⊗ var 10)) (var 7 ⊗ var 8) (var 11) (ap pos d_is)
    nothing))))) refl))
