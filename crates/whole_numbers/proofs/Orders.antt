-- The order of fractions: by whole parts and rests, by signs and sizes, and by the numbers that they stand for.
use Rattle.std.proofs.Common.{◌≡◌, ◌≢◌, ℕ, zero, suc, ◌+◌, ◌-◌, ◌*◌, ◌/◌, ◌%◌, ◌<◌, ◌≤◌, refl, sym, ◌∙◌, ap, subst, inl, inr, Ordering, Less, Equal, Greater, [], ◌∷◌, arith}
use Rattle.std.specs.Prelude.{ℤ, pos, negsuc, ◌+ℤ◌, ◌*ℤ◌, neg_ℤ, nat_abs, ◌<ℤ◌, ◌≤ℤ◌, ◌⊎◌}
use Rattle.std.specs.Ordering.{MatchOrdering, nat_cmp, int_cmp}
use Rattle.std.specs.Cmp.{nat_cmp_is, int_cmp_is}
use Rattle.std.proofs.lemmas.Cmp.{ranked, int_ranked}
use Rattle.std.proofs.lemmas.Int.{ints}
use borrow.Author.Differences.{up, down, product_is, below_in, lt_out}
use mathlib.Core.Path.{ap₂}
use native.Mathlib.Nat.{div-add-mod, div-mul-le_self, lt-div-mul-add, mul-lt-mul_of_pos_right, mul-le-mul_right, mul_comm, zero-mul}
use Rattle.whole_numbers.specs.Fractions.{Fraction, StandsFor, IsLess, IsSame, IsFloor, order}
use Rattle.whole_numbers.proofs.Ring.{var, ◌⊗◌, ring, ring_by, nothing, using, num}
use Rattle.whole_numbers.proofs.Laws.{neg-mul}
use Rattle.whole_numbers.proofs.FractionLaws.{product_positive}

-- what an answer of a comparison says, said of other facts
match_moved : (r : Ordering) (P Q R P' Q' R' : Type 0) → (P → P') → (Q → Q') → (R → R') → MatchOrdering r P Q R → MatchOrdering r P' Q' R'
match_moved Less P Q R P' Q' R' f g h m = f m
match_moved Equal P Q R P' Q' R' f g h m = g m
match_moved Greater P Q R P' Q' R' f g h m = h m

-- two comparisons of numbers that agree answer the same
pub same_cmp : (x y z w : ℕ) → (x < y → z < w) → (x ≡ y → z ≡ w) → (y < x → w < z) → nat_cmp x y ≡ nat_cmp z w
same_cmp x y z w less equal greater =
    nat_cmp_is z w (nat_cmp x y) (match_moved (nat_cmp x y) (x < y) (x ≡ y) (y < x) (z < w) (z ≡ w) (w < z) less equal greater (ranked x y (nat_cmp x y) refl))

pub same_int_cmp : (x y z w : ℤ) → (x <ℤ y → z <ℤ w) → (x ≡ y → z ≡ w) → (y <ℤ x → w <ℤ z) → int_cmp x y ≡ int_cmp z w
same_int_cmp x y z w less equal greater =
    int_cmp_is z w (int_cmp x y) (match_moved (int_cmp x y) (x <ℤ y) (x ≡ y) (y <ℤ x) (z <ℤ w) (z ≡ w)
    (w <ℤ z) less equal greater (int_ranked x y (int_cmp x y) refl))

-- whole parts that differ decide the order of a/b and c/d
wholes_decide : (a b c d : ℕ) → 0 < b → 0 < d → a / b < c / d → a * d < c * b
wholes_decide a b c d b_positive d_positive less =
    let a_below : a * d < (a / b * b + b) * d = mul-lt-mul_of_pos_right (lt-div-mul-add b_positive) d_positive in
    let between : (a / b + 1) * (b * d) ≤ c / d * (b * d) = mul-le-mul_right (b * d) (omega arith) in
    let c_above : (c / d * d) * b ≤ c * b = mul-le-mul_right b (div-mul-le_self c d) in
    omega (arith, a_below, between, c_above)

pub wholes_cmp : (a b c d : ℕ) → 0 < b → 0 < d → a / b ≢ c / d → nat_cmp (a / b) (c / d) ≡ nat_cmp (a * d) (c * b)
wholes_cmp a b c d b_positive d_positive differ =
    same_cmp (a / b) (c / d) (a * d) (c * b) (wholes_decide a b c d b_positive d_positive) (λ e. absurd (differ e))
    (wholes_decide c d a b d_positive b_positive)

-- where the whole parts are equal the rests decide
pub rests_cmp : (a b c d : ℕ) → 0 < b → 0 < d → a / b ≡ c / d → nat_cmp (a % b * d) (c % d * b) ≡ nat_cmp (a * d) (c * b)
rests_cmp a b c d b_positive d_positive same =
    let left : (b * (a / b) + a % b) * d ≡ a * d = ap (λ n. n * d) (div-add-mod a b) in
    let right : (d * (c / d) + c % d) * b ≡ c * b = ap (λ n. n * b) (div-add-mod c d) in
    let middle : b * (a / b) * d ≡ b * (c / d) * d = ap (λ n. b * n * d) same in
    same_cmp (a % b * d) (c % d * b) (a * d) (c * b) (λ h. omega (arith, left, right, middle, h))
    (λ h. omega (arith, left, right, middle, h)) (λ h. omega (arith, left, right, middle, h))

-- and where one rest is 0 they decide as they are
pub zero_rest_cmp : (r t b d : ℕ) → 0 < b → 0 < d → (r ≡ 0) ⊎ (t ≡ 0) → nat_cmp r t ≡ nat_cmp (r * d) (t * b)
zero_rest_cmp r t b d b_positive d_positive none =
    same_cmp r t (r * d) (t * b) (λ h. go_less none h) (λ h. go_same none h) (λ h. go_more none h)
  where
    go_less : (r ≡ 0) ⊎ (t ≡ 0) → r < t → r * d < t * b
    go_less (inl e) h = subst (λ (n : ℕ). n * d < t * b) (sym e)
        (subst (λ (n : ℕ). n < t * b) (sym (zero-mul d)) (product_positive t b (omega arith) b_positive))
    go_less (inr e) h = absurd (omega arith)

    both : r ≡ 0 → t ≡ 0 → r * d ≡ t * b
    both e f = ap (λ n. n * d) e ∙ zero-mul d ∙ sym (zero-mul b) ∙ ap (λ n. n * b) (sym f)

    go_same : (r ≡ 0) ⊎ (t ≡ 0) → r ≡ t → r * d ≡ t * b
    go_same (inl e) h = both e (sym h ∙ e)
    go_same (inr e) h = both (h ∙ e) e

    go_more : (r ≡ 0) ⊎ (t ≡ 0) → t < r → t * b < r * d
    go_more (inl e) h = absurd (omega arith)
    go_more (inr e) h = subst (λ (n : ℕ). n * b < r * d) (sym e)
        (subst (λ (n : ℕ). n < r * d) (sym (zero-mul b)) (product_positive r d (omega arith) d_positive))

-- one step of the comparison: the reciprocals of the rests, the other way round
pub reciprocals_cmp : (a b c d : ℕ) → 0 < b → 0 < d → a / b ≡ c / d → nat_cmp (d * (a % b)) (b * (c % d)) ≡ nat_cmp (a * d) (c * b)
reciprocals_cmp a b c d b_positive d_positive same =
    ap₂ nat_cmp (mul_comm d (a % b)) (mul_comm b (c % d)) ∙ rests_cmp a b c d b_positive d_positive same

-- a positive factor keeps a sign
pub negative_product : (a : ℤ) (d : ℕ) → a <ℤ pos 0 → 0 < d → (a *ℤ pos d) <ℤ pos 0
negative_product (pos m) d h d_positive = absurd (omega (arith, ints))
negative_product (negsuc m) d h d_positive = let p = product_positive (suc m) d (omega arith) d_positive in omega (arith, ints, p)

-- a positive factor keeps the order
scaled_less : (a c : ℤ) (b : ℕ) → 0 < b → a <ℤ c → (a *ℤ pos b) <ℤ (c *ℤ pos b)
scaled_less a c b b_positive h =
    let out : (up a + down c) * b < (up c + down a) * b = mul-lt-mul_of_pos_right (lt_out a c h) b_positive in
    let left = product_is a (pos b) in
    let right = product_is c (pos b) in
    below_in (a *ℤ pos b) (c *ℤ pos b) (omega (arith, out, left, right))

pub scaled_cmp : (a c : ℤ) (b : ℕ) → 0 < b → int_cmp a c ≡ int_cmp (a *ℤ pos b) (c *ℤ pos b)
scaled_cmp a c b b_positive =
    same_int_cmp a c (a *ℤ pos b) (c *ℤ pos b) (scaled_less a c b b_positive) (λ e. ap (λ (z : ℤ). z *ℤ pos b) e) (scaled_less c a b b_positive)

-- what the order says
pub order_ranks : (p q : Fraction) (r : Ordering) → r ≡ order p q → MatchOrdering r (IsLess p q) (IsSame p q) (IsLess q p)
order_ranks p q r e = int_ranked (p.numerator *ℤ pos q.denominator) (q.numerator *ℤ pos p.denominator) r e

-- two fractions are ordered as the numbers that they stand for over one denominator
pub order_stands : (p q : Fraction) (m k : ℤ) (D : ℕ) → 0 < p.denominator → 0 < q.denominator → 0 < D →
    StandsFor p m D → StandsFor q k D → order p q ≡ int_cmp m k
order_stands p q m k D p_positive q_positive D_positive p_is q_is =
    scaled_cmp (p.numerator *ℤ pos q.denominator) (q.numerator *ℤ pos p.denominator) D D_positive
    ∙ ap₂ int_cmp
    (ring_by (p.numerator ∷ pos p.denominator ∷ q.numerator ∷ pos q.denominator ∷ m ∷ pos D ∷ [])
    ((var 0 ⊗ var 3) ⊗ var 5) (var 4 ⊗ (var 1 ⊗ var 3))
    (using (var 3) (var 0 ⊗ var 5) (var 4 ⊗ var 1) p_is nothing) refl)
    (ring_by (p.numerator ∷ pos p.denominator ∷ q.numerator ∷ pos q.denominator ∷ k ∷ pos D ∷ [])
    ((var 2 ⊗ var 1) ⊗ var 5) (var 4 ⊗ (var 1 ⊗ var 3))
    (using (var 1) (var 2 ⊗ var 5) (var 4 ⊗ var 3) q_is nothing) refl)
    ∙ sym (scaled_cmp m k (p.denominator * q.denominator) (product_positive p.denominator q.denominator p_positive q_positive))

-- a fraction has the sign of the number that it stands for
pub sign_stands : (q : Fraction) (m : ℤ) (D : ℕ) → 0 < q.denominator → 0 < D → StandsFor q m D → int_cmp q.numerator (pos 0) ≡ int_cmp m (pos 0)
sign_stands q m D q_positive D_positive is =
    scaled_cmp q.numerator (pos 0) D D_positive
    ∙ ap₂ int_cmp is (ring (pos D ∷ pos q.denominator ∷ []) (num (pos 0) ⊗ var 0) (num (pos 0) ⊗ var 1) refl)
    ∙ sym (scaled_cmp m (pos 0) q.denominator q_positive)

-- the whole number below a fraction that is negative
pub floor_negative : (n : ℤ) (d : ℕ) → 0 < d → n <ℤ pos 0 → IsFloor (record { numerator = n; denominator = d }) (negsuc ((nat_abs n - 1) / d))
floor_negative (pos n) d d_positive h = absurd (omega (arith, ints))
floor_negative (negsuc n) d d_positive h =
    let one_less : suc n - 1 ≡ n = omega arith in
    subst (λ (m : ℕ). IsFloor (record { numerator = negsuc n; denominator = d }) (negsuc (m / d))) (sym one_less)
    (below (n / d) (div-mul-le_self n d) (lt-div-mul-add d_positive))
  where
    below : (q : ℕ) → q * d ≤ n → n < q * d + d → IsFloor (record { numerator = negsuc n; denominator = d }) (negsuc q)
    below q low high =
        let next : (negsuc q +ℤ pos 1) ≡ neg_ℤ (pos q) = omega (arith, ints) in
        let product : ((negsuc q +ℤ pos 1) *ℤ pos d) ≡ neg_ℤ (pos (q * d)) = ap (λ (z : ℤ). z *ℤ pos d) next ∙ neg-mul (pos q) (pos d) in
        let first : (negsuc q *ℤ pos d) ≡ neg_ℤ (pos (suc q * d)) = refl in
        let size : suc q * d ≡ q * d + d = omega arith in
        record { not_above = omega (arith, ints, first, size, high); greatest = omega (arith, ints, product, low) }

-- a product with a factor that isn't positive and one that isn't negative isn't positive
pub opposite_product : (z w : ℤ) → z ≤ℤ pos 0 → pos 0 ≤ℤ w → (z *ℤ w) ≤ℤ pos 0
opposite_product (pos zero) w z_low w_high = omega (arith, ints)
opposite_product (pos (suc n)) w z_low w_high = absurd (omega (arith, ints))
opposite_product (negsuc n) (pos m) z_low w_high = omega (arith, ints)
opposite_product (negsuc n) (negsuc m) z_low w_high = absurd (omega (arith, ints))

-- where a multiple is negative, so is the number
pub negative_factor : (D : ℕ) (z : ℤ) → (pos D *ℤ z) <ℤ pos 0 → z <ℤ pos 0
negative_factor D (pos n) h = absurd (omega (arith, ints))
negative_factor D (negsuc n) h = omega (arith, ints)
