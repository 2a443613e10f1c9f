-- What the numbers of a step give: the exact fraction within the top, or a number that passes it.
use Rattle.std.proofs.Common.{◌≡◌, ℕ, suc, ◌^◌, ◌<◌, ◌≤◌, ◌*◌, ◌/◌, refl, sym, ◌∙◌, ap, subst, inl, inr, arith, List, [], ◌∷◌}
use Rattle.std.specs.Prelude.{ℤ, pos, negsuc, neg_ℤ, nat_abs, ◌+ℤ◌, ◌*ℤ◌, Any, All, Some}
use Rattle.std.proofs.lemmas.List.Elements.{All-cons, All-nil}
use Rattle.std.proofs.lemmas.Int.{unsigned_abs-mul}
use native.Mathlib.Nat.{div-le_self, div-one}
use mathlib.Core.Path.{ap₂}
use Rattle.whole_numbers.proofs.Laws.{times_one}
use Rattle.whole_numbers.specs.Fractions.{Fraction, IsLowest, gcd, exact_quotient, plus, times, whole, numbers_of_sum, numbers_of_product}
use Rattle.whole_numbers.proofs.FractionLaws.{nat_abs-over, product_positive, reduced_lowest, whole_lowest}
use Rattle.whole_numbers.proofs.Divisors.{gcd-one}
use Rattle.whole_numbers.proofs.Steps.{sum_exact, product_exact}
use Rattle.wide_fraction.specs.Widths.{IsFractionIn127Bits, IsExactOrTooWide, IsCrossWide, IsCrossWithin, IsWithin}

-- each of four numbers is within the top
each_of_four : (top a b c d : ℕ) → a ≤ top → b ≤ top → c ≤ top → d ≤ top → All (λ n. n ≤ top) (a ∷ b ∷ c ∷ d ∷ [])
each_of_four top a b c d first second third fourth =
    All-cons (λ n. n ≤ top) a (b ∷ c ∷ d ∷ []) first
    (All-cons (λ n. n ≤ top) b (c ∷ d ∷ []) second
    (All-cons (λ n. n ≤ top) c (d ∷ []) third
    (All-cons (λ n. n ≤ top) d [] fourth (All-nil (λ n. n ≤ top)))))

-- what holds of a top and two fractions holds of what they are equal to
pub moved : (F : ℕ → Fraction → Fraction → Type 0) (most top : ℕ) (p p' q q' : Fraction) → most ≡ top → p ≡ p' → q ≡ q' → F most p q → F top p' q'
moved F most top p p' q q' top_is p_is q_is h =
    subst (λ (t : ℕ). F t p' q') top_is (subst (λ (r : Fraction). F most r q') p_is (subst (λ (r : Fraction). F most p r) q_is h))

-- g is the common divisor of the two denominators, and b and d are what it leaves of them
pub record Shares (p q : Fraction) (g b d : ℕ) : Type 0 where
  pub common : g ≡ gcd p.denominator q.denominator
  pub left : b ≡ p.denominator / g
  pub right : d ≡ q.denominator / g

left_share : (p q : Fraction) (g b d : ℕ) → Shares p q g b d → b ≡ p.denominator / gcd p.denominator q.denominator
left_share p q g b d shares = shares.left ∙ ap (λ (n : ℕ). p.denominator / n) shares.common

right_share : (p q : Fraction) (g b d : ℕ) → Shares p q g b d → d ≡ q.denominator / gcd p.denominator q.denominator
right_share p q g b d shares = shares.right ∙ ap (λ (n : ℕ). q.denominator / n) shares.common

-- one of the first three numbers of a sum passes the top
pub sum_crossed : (top : ℕ) (p q : Fraction) (g b d : ℕ) → Shares p q g b d →
    IsCrossWide top (p.numerator *ℤ pos d) (q.numerator *ℤ pos b) → Any (λ n. top < n) (numbers_of_sum p q)
sum_crossed top p q g b d shares wide =
    let u_is = ap (λ (n : ℕ). p.numerator *ℤ pos n) (right_share p q g b d shares) in
    let v_is = ap (λ (n : ℕ). q.numerator *ℤ pos n) (left_share p q g b d shares) in
    elim wide [
      | inl first ↦ (
        0,
        nat_abs (p.numerator *ℤ pos (q.denominator / gcd p.denominator q.denominator)),
        omega arith,
        refl,
        subst (λ (z : ℤ). top < nat_abs z) u_is first,
      )
      | inr more ↦ elim more [
        | inl second ↦ (
          1,
          nat_abs (q.numerator *ℤ pos (p.denominator / gcd p.denominator q.denominator)),
          omega arith,
          refl,
          subst (λ (z : ℤ). top < nat_abs z) v_is second,
        )
        | inr third ↦ (
          2,
          nat_abs ((p.numerator *ℤ pos (q.denominator / gcd p.denominator q.denominator))
              +ℤ (q.numerator *ℤ pos (p.denominator / gcd p.denominator q.denominator))),
          omega arith,
          refl,
          subst (λ (z : ℤ). top < nat_abs z) (ap₂ (λ (x y : ℤ). x +ℤ y) u_is v_is) third,
        )
      ]
    ]

-- s is the sum of the two, h its common divisor with g, e what that leaves of the second denominator
pub record Adds (p q : Fraction) (g b d : ℕ) (s : ℤ) (h e : ℕ) : Type 0 where
  pub shares : Shares p q g b d
  pub sum : s ≡ ((p.numerator *ℤ pos d) +ℤ (q.numerator *ℤ pos b))
  pub common : h ≡ gcd (nat_abs s) g
  pub rest : e ≡ q.denominator / h

sum_seen : (p q : Fraction) (g b d : ℕ) (s : ℤ) (h e : ℕ) → Adds p q g b d s h e →
    ((p.numerator *ℤ pos (q.denominator / gcd p.denominator q.denominator))
    +ℤ (q.numerator *ℤ pos (p.denominator / gcd p.denominator q.denominator))) ≡ s
sum_seen p q g b d s h e adds =
    sym (adds.sum ∙ ap₂ (λ (m n : ℕ). (p.numerator *ℤ pos m) +ℤ (q.numerator *ℤ pos n)) (right_share p q g b d adds.shares) (left_share p q g b d adds.shares))

common_seen : (p q : Fraction) (g b d : ℕ) (s : ℤ) (h e : ℕ) → Adds p q g b d s h e → h ≡ gcd (nat_abs s) (gcd p.denominator q.denominator)
common_seen p q g b d s h e adds = adds.common ∙ ap (gcd (nat_abs s)) adds.shares.common

below_seen : (p q : Fraction) (g b d : ℕ) (s : ℤ) (h e : ℕ) → Adds p q g b d s h e →
    b * e ≡ (p.denominator / gcd p.denominator q.denominator)
    * (q.denominator / gcd (nat_abs s) (gcd p.denominator q.denominator))
below_seen p q g b d s h e adds =
    ap₂ (λ (m n : ℕ). m * n) (left_share p q g b d adds.shares) (adds.rest ∙ ap (λ (n : ℕ). q.denominator / n) (common_seen p q g b d s h e adds))

-- the denominator passes the top
pub sum_denominator_passes : (top : ℕ) (p q : Fraction) (g b d : ℕ) (s : ℤ) (h e : ℕ) → Adds p q g b d s h e →
    top < b * e → Any (λ n. top < n) (numbers_of_sum p q)
sum_denominator_passes top p q g b d s h e adds wide =
    let seen = sum_seen p q g b d s h e adds in
    let size = below_seen p q g b d s h e adds
    ∙ ap (λ (z : ℤ). (p.denominator / gcd p.denominator q.denominator)
    * (q.denominator / gcd (nat_abs z) (gcd p.denominator q.denominator))) (sym seen) in (
      3,
      (p.denominator / gcd p.denominator q.denominator)
          * (q.denominator / gcd (nat_abs
          ((p.numerator *ℤ pos (q.denominator / gcd p.denominator q.denominator))
          +ℤ (q.numerator *ℤ pos (p.denominator / gcd p.denominator q.denominator))))
          (gcd p.denominator q.denominator)),
      omega arith,
      refl,
      subst (λ (n : ℕ). top < n) size wide,
    )

-- the fraction that these numbers make is the sum
pub sum_made : (p q : Fraction) (g b d : ℕ) (s : ℤ) (h e : ℕ) (z : ℤ) (m : ℕ) → IsLowest p → IsLowest q →
    Adds p q g b d s h e → z ≡ exact_quotient s h → m ≡ b * e → record { numerator = z; denominator = m } ≡ plus p q
sum_made p q g b d s h e z m p_lowest q_lowest adds z_is m_is =
    ap₂ (λ (t : ℤ) (n : ℕ). record { numerator = t; denominator = n })
    (z_is ∙ ap (exact_quotient s) (common_seen p q g b d s h e adds)) (m_is ∙ below_seen p q g b d s h e adds)
    ∙ sum_exact p q p_lowest q_lowest s (sum_seen p q g b d s h e adds)

over_within : (top : ℕ) (s : ℤ) (h : ℕ) (z : ℤ) → z ≡ exact_quotient s h → nat_abs s ≤ top → nat_abs z ≤ top
over_within top s h z z_is within =
    let size : nat_abs z ≡ nat_abs s / h = ap nat_abs z_is ∙ nat_abs-over s h in
    omega (arith, size, div-le_self (nat_abs s) h)

-- it is within the top, and so is each number on its way
pub sum_answer : (top : ℕ) (p q : Fraction) (g b d : ℕ) (s : ℤ) (h e : ℕ) (z : ℤ) (m : ℕ) → IsLowest p → IsLowest q →
    Adds p q g b d s h e → IsCrossWithin top (p.numerator *ℤ pos d) (q.numerator *ℤ pos b) → z ≡ exact_quotient s h → m ≡ b * e →
    m ≤ top → IsExactOrTooWide top (numbers_of_sum p q) (plus p q) (Some (record { numerator = z; denominator = m }))
sum_answer top p q g b d s h e z m p_lowest q_lowest adds within z_is m_is m_within =
    let seen = sum_seen p q g b d s h e adds in
    let s_within : nat_abs s ≤ top = subst (λ (x : ℤ). nat_abs x ≤ top) (sym adds.sum) within.2 in
    let size = m_is ∙ below_seen p q g b d s h e adds
    ∙ ap (λ (x : ℤ). (p.denominator / gcd p.denominator q.denominator)
    * (q.denominator / gcd (nat_abs x) (gcd p.denominator q.denominator))) (sym seen) in (
      sum_made p q g b d s h e z m p_lowest q_lowest adds z_is m_is,
      record { numerator = over_within top s h z z_is s_within; denominator = m_within },
      each_of_four top
          (nat_abs (p.numerator *ℤ pos (q.denominator / gcd p.denominator q.denominator)))
          (nat_abs (q.numerator *ℤ pos (p.denominator / gcd p.denominator q.denominator)))
          (nat_abs ((p.numerator *ℤ pos (q.denominator / gcd p.denominator q.denominator))
          +ℤ (q.numerator *ℤ pos (p.denominator / gcd p.denominator q.denominator))))
          ((p.denominator / gcd p.denominator q.denominator)
          * (q.denominator / gcd (nat_abs
          ((p.numerator *ℤ pos (q.denominator / gcd p.denominator q.denominator))
          +ℤ (q.numerator *ℤ pos (p.denominator / gcd p.denominator q.denominator))))
          (gcd p.denominator q.denominator)))
          (subst (λ (n : ℕ). nat_abs (p.numerator *ℤ pos n) ≤ top) (right_share p q g b d adds.shares) within.0)
          (subst (λ (n : ℕ). nat_abs (q.numerator *ℤ pos n) ≤ top) (left_share p q g b d adds.shares) within.1)
          (subst (λ (x : ℤ). nat_abs x ≤ top) (sym seen) s_within)
          (subst (λ (n : ℕ). n ≤ top) size m_within),
    )

-- and a `Frac` can hold it
pub sum_kept : (top : ℕ) (p q : Fraction) (g b d : ℕ) (s : ℤ) (h e : ℕ) (z : ℤ) (m : ℕ) → top < 2 ^ 127 → IsLowest p →
    IsLowest q → Adds p q g b d s h e → IsCrossWithin top (p.numerator *ℤ pos d) (q.numerator *ℤ pos b) → z ≡ exact_quotient s h →
    m ≡ b * e → m ≤ top → IsFractionIn127Bits (record { numerator = z; denominator = m })
sum_kept top p q g b d s h e z m top_fits p_lowest q_lowest adds within z_is m_is m_within =
    let s_within : nat_abs s ≤ top = subst (λ (x : ℤ). nat_abs x ≤ top) (sym adds.sum) within.2 in
    let z_within = over_within top s h z z_is s_within in
    let both = product_positive p.denominator q.denominator p_lowest.positive q_lowest.positive in
    record {
      lowest = subst (λ (r : Fraction). IsLowest r)
          (sym (sum_made p q g b d s h e z m p_lowest q_lowest adds z_is m_is))
          (reduced_lowest ((p.numerator *ℤ pos q.denominator) +ℤ (q.numerator *ℤ pos p.denominator))
          (p.denominator * q.denominator) both);
      numerator = omega (arith, z_within);
      denominator = omega arith;
    }

-- g and h are the common divisors crosswise, x and y what they leave of the numerators
pub record Crosses (p q : Fraction) (g h : ℕ) (x y : ℤ) : Type 0 where
  pub left_common : g ≡ gcd (nat_abs p.numerator) q.denominator
  pub right_common : h ≡ gcd (nat_abs q.numerator) p.denominator
  pub left : x ≡ exact_quotient p.numerator g
  pub right : y ≡ exact_quotient q.numerator h

above_seen : (p q : Fraction) (g h : ℕ) (x y : ℤ) → Crosses p q g h x y →
    (x *ℤ y) ≡ (exact_quotient p.numerator (gcd (nat_abs p.numerator) q.denominator) *ℤ exact_quotient q.numerator
    (gcd (nat_abs q.numerator) p.denominator))
above_seen p q g h x y crosses =
    ap₂ (λ (m n : ℤ). m *ℤ n) (crosses.left ∙ ap (exact_quotient p.numerator) crosses.left_common)
    (crosses.right ∙ ap (exact_quotient q.numerator) crosses.right_common)

above_size : (p q : Fraction) (g h : ℕ) (x y : ℤ) → Crosses p q g h x y →
    nat_abs (x *ℤ y) ≡ (nat_abs p.numerator / gcd (nat_abs p.numerator) q.denominator)
    * (nat_abs q.numerator / gcd (nat_abs q.numerator) p.denominator)
above_size p q g h x y crosses =
    unsigned_abs-mul x y
    ∙ ap₂ (λ (m n : ℕ). m * n) (ap nat_abs (crosses.left ∙ ap (exact_quotient p.numerator) crosses.left_common)
    ∙ nat_abs-over p.numerator (gcd (nat_abs p.numerator) q.denominator))
    (ap nat_abs (crosses.right ∙ ap (exact_quotient q.numerator) crosses.right_common)
    ∙ nat_abs-over q.numerator (gcd (nat_abs q.numerator) p.denominator))

-- the numerator of a product passes the top
pub product_numerator_passes : (top : ℕ) (p q : Fraction) (g h : ℕ) (x y : ℤ) → Crosses p q g h x y →
    top < nat_abs (x *ℤ y) → Any (λ n. top < n) (numbers_of_product p q)
product_numerator_passes top p q g h x y crosses wide = (
  0,
  (nat_abs p.numerator / gcd (nat_abs p.numerator) q.denominator)
      * (nat_abs q.numerator / gcd (nat_abs q.numerator) p.denominator),
  omega arith,
  refl,
  subst (λ (n : ℕ). top < n) (above_size p q g h x y crosses) wide,
)

-- and b and d are what they leave of the denominators
pub record Multiplies (p q : Fraction) (g h : ℕ) (x y : ℤ) (b d : ℕ) : Type 0 where
  pub crosses : Crosses p q g h x y
  pub left : b ≡ p.denominator / h
  pub right : d ≡ q.denominator / g

product_below : (p q : Fraction) (g h : ℕ) (x y : ℤ) (b d : ℕ) → Multiplies p q g h x y b d →
    b * d ≡ (p.denominator / gcd (nat_abs q.numerator) p.denominator)
    * (q.denominator / gcd (nat_abs p.numerator) q.denominator)
product_below p q g h x y b d multiplies =
    ap₂ (λ (m n : ℕ). m * n) (multiplies.left ∙ ap (λ (n : ℕ). p.denominator / n) multiplies.crosses.right_common)
    (multiplies.right ∙ ap (λ (n : ℕ). q.denominator / n) multiplies.crosses.left_common)

-- its denominator passes the top
pub product_denominator_passes : (top : ℕ) (p q : Fraction) (g h : ℕ) (x y : ℤ) (b d : ℕ) → Multiplies p q g h x y b d →
    top < b * d → Any (λ n. top < n) (numbers_of_product p q)
product_denominator_passes top p q g h x y b d multiplies wide = (
  1,
  (p.denominator / gcd (nat_abs q.numerator) p.denominator)
      * (q.denominator / gcd (nat_abs p.numerator) q.denominator),
  omega arith,
  refl,
  subst (λ (n : ℕ). top < n) (product_below p q g h x y b d multiplies) wide,
)

-- the fraction that these numbers make is the product
product_made : (p q : Fraction) (g h : ℕ) (x y : ℤ) (b d : ℕ) (z : ℤ) (m : ℕ) → IsLowest p → IsLowest q →
    Multiplies p q g h x y b d → z ≡ (x *ℤ y) → m ≡ b * d → record { numerator = z; denominator = m } ≡ times p q
product_made p q g h x y b d z m p_lowest q_lowest multiplies z_is m_is =
    ap₂ (λ (t : ℤ) (n : ℕ). record { numerator = t; denominator = n })
    (z_is ∙ above_seen p q g h x y multiplies.crosses) (m_is ∙ product_below p q g h x y b d multiplies)
    ∙ product_exact p q p_lowest q_lowest

-- it is within the top, and so is each number on its way
pub product_answer : (top : ℕ) (p q : Fraction) (g h : ℕ) (x y : ℤ) (b d : ℕ) (z : ℤ) (m : ℕ) → IsLowest p →
    IsLowest q → Multiplies p q g h x y b d → nat_abs (x *ℤ y) ≤ top → z ≡ (x *ℤ y) → m ≡ b * d → m ≤ top →
    IsExactOrTooWide top (numbers_of_product p q) (times p q) (Some (record { numerator = z; denominator = m }))
product_answer top p q g h x y b d z m p_lowest q_lowest multiplies above_within z_is m_is below_within = (
  product_made p q g h x y b d z m p_lowest q_lowest multiplies z_is m_is,
  record { numerator = subst (λ (t : ℤ). nat_abs t ≤ top) (sym z_is) above_within; denominator = below_within },
  All-cons (λ n. n ≤ top) ((nat_abs p.numerator / gcd (nat_abs p.numerator) q.denominator)
      * (nat_abs q.numerator / gcd (nat_abs q.numerator) p.denominator))
      (((p.denominator / gcd (nat_abs q.numerator) p.denominator)
      * (q.denominator / gcd (nat_abs p.numerator) q.denominator)) ∷ [])
      (subst (λ (n : ℕ). n ≤ top) (above_size p q g h x y multiplies.crosses) above_within)
      (All-cons (λ n. n ≤ top) ((p.denominator / gcd (nat_abs q.numerator) p.denominator)
      * (q.denominator / gcd (nat_abs p.numerator) q.denominator)) []
      (subst (λ (n : ℕ). n ≤ top) (m_is ∙ product_below p q g h x y b d multiplies) below_within)
      (All-nil (λ n. n ≤ top))),
)

-- and a `Frac` can hold it
pub product_kept : (top : ℕ) (p q : Fraction) (g h : ℕ) (x y : ℤ) (b d : ℕ) (z : ℤ) (m : ℕ) → top < 2 ^ 127 →
    IsLowest p → IsLowest q → Multiplies p q g h x y b d → nat_abs (x *ℤ y) ≤ top → z ≡ (x *ℤ y) → m ≡ b * d → m ≤ top →
    IsFractionIn127Bits (record { numerator = z; denominator = m })
product_kept top p q g h x y b d z m top_fits p_lowest q_lowest multiplies above_within z_is m_is below_within =
    let both = product_positive p.denominator q.denominator p_lowest.positive q_lowest.positive in
    let z_within : nat_abs z ≤ top = subst (λ (t : ℤ). nat_abs t ≤ top) (sym z_is) above_within in
    record {
      lowest = subst (λ (r : Fraction). IsLowest r)
          (sym (product_made p q g h x y b d z m p_lowest q_lowest multiplies z_is m_is))
          (reduced_lowest (p.numerator *ℤ q.numerator) (p.denominator * q.denominator) both);
      numerator = omega (arith, z_within);
      denominator = omega arith;
    }

over_one : (a : ℤ) → exact_quotient a 1 ≡ a
over_one (pos n) = ap pos (div-one n)
over_one (negsuc n) = ap (λ (m : ℕ). neg_ℤ (pos m)) (div-one (suc n))

-- two whole numbers share nothing and stay as they are
whole_shares : (a c : ℤ) → Shares (whole a) (whole c) 1 1 1
whole_shares a c = record { common = refl; left = refl; right = refl }

-- their sum passes the top
pub whole_sum_passes : (top : ℕ) (a c : ℤ) → top < nat_abs (a +ℤ c) → Any (λ n. top < n) (numbers_of_sum (whole a) (whole c))
whole_sum_passes top a c wide =
    sum_crossed top (whole a) (whole c) 1 1 1 (whole_shares a c)
    (inr
    (inr (subst (λ (z : ℤ). top < nat_abs z)
    (ap₂ (λ (x y : ℤ). x +ℤ y) (sym (times_one a)) (sym (times_one c))) wide)))

-- or is the answer
pub whole_sum_answer : (top : ℕ) (a c s : ℤ) → IsWithin top (whole a) → IsWithin top (whole c) → s ≡ (a +ℤ c) →
    nat_abs (a +ℤ c) ≤ top → IsExactOrTooWide top (numbers_of_sum (whole a) (whole c)) (plus (whole a) (whole c))
    (Some (whole s))
whole_sum_answer top a c s a_within c_within s_is within =
    let both = ap₂ (λ (x y : ℤ). x +ℤ y) (sym (times_one a)) (sym (times_one c)) in
    let adds : Adds (whole a) (whole c) 1 1 1 s 1 1 =
    record { shares = whole_shares a c; sum = s_is ∙ both; common = sym (gcd-one (nat_abs s)); rest = refl } in
    sum_answer top (whole a) (whole c) 1 1 1 s 1 1 s 1 (whole_lowest a) (whole_lowest c) adds (
      subst (λ (z : ℤ). nat_abs z ≤ top) (sym (times_one a)) a_within.numerator,
      subst (λ (z : ℤ). nat_abs z ≤ top) (sym (times_one c)) c_within.numerator,
      subst (λ (z : ℤ). nat_abs z ≤ top) both within,
    )
    (sym (over_one s)) refl a_within.denominator

whole_crosses : (a c : ℤ) → Crosses (whole a) (whole c) 1 1 a c
whole_crosses a c = record {
  left_common = sym (gcd-one (nat_abs a));
  right_common = sym (gcd-one (nat_abs c));
  left = sym (over_one a);
  right = sym (over_one c);
}

-- their product passes the top
pub whole_product_passes : (top : ℕ) (a c : ℤ) → top < nat_abs (a *ℤ c) → Any (λ n. top < n) (numbers_of_product (whole a) (whole c))
whole_product_passes top a c wide = product_numerator_passes top (whole a) (whole c) 1 1 a c (whole_crosses a c) wide

-- or is the answer
pub whole_product_answer : (top : ℕ) (a c z : ℤ) → IsWithin top (whole a) → z ≡ (a *ℤ c) → nat_abs (a *ℤ c) ≤ top →
    IsExactOrTooWide top (numbers_of_product (whole a) (whole c)) (times (whole a) (whole c)) (Some (whole z))
whole_product_answer top a c z a_within z_is within =
    product_answer top (whole a) (whole c) 1 1 a c 1 1 z 1 (whole_lowest a) (whole_lowest c)
    (record { crosses = whole_crosses a c; left = refl; right = refl }) within z_is refl a_within.denominator

-- the whole number that a short way made is the answer of its step
pub whole_answer : (most top : ℕ) (made : List ℕ) (exact q : Fraction) (n : ℤ) → most ≡ top → q ≡ whole n →
    IsExactOrTooWide most made exact (Some (whole n)) → IsExactOrTooWide top made exact (Some q)
whole_answer most top made exact q n top_is q_is answer =
    subst (λ (r : Fraction). IsExactOrTooWide top made exact (Some r)) (sym q_is) (subst (λ (t : ℕ). IsExactOrTooWide t made exact (Some (whole n))) top_is
    answer)
