-- A product with a reciprocal gives the quotient of a multiple.
use Rattle.std.proofs.Common.{◌≡◌, ℕ, ◌+◌, ◌*◌, ◌/◌, ◌^◌, ◌<◌, ◌≤◌, ◌↔◌, refl, sym, ◌∙◌, ap, subst, Bool, true, false, T, not, w64, FitsSigned, to_z, ◌-ℤ◌, [], ◌∷◌, arith, ◌%◌}
use Rattle.std.specs.Int.Signed.{lt_z, lt_z_yes, lt_z_no}
use Rattle.std.specs.Prelude.{ℤ, pos, negsuc, neg_ℤ, ◌*ℤ◌, ◌<ℤ◌, ◌≤ℤ◌, nat_abs}
use Rattle.std.proofs.lemmas.Int.{fits_signed_from_abs, ints, to_z_pos, unsigned_abs-mul}
use Rattle.std.proofs.Math.IntN.{pos-*ℤ-pos}
use Rattle.whole_numbers.proofs.FractionLaws.{nat_abs-neg}
use Rattle.whole_numbers.proofs.Ring.{var, num, neg, ◌⊖◌, ◌⊗◌, ring}
use Rattle.std.proofs.Math.Nat.{div-add-mod, div-eq_of_lt-le, mod-lt, dvd-mul_left, mul-le-mul_left, mul-le-mul_right, le-mul_of_pos_right}
use Rattle.whole_numbers.proofs.Sizes.{size_positive}
use Prim.Native.Nat.{◌∣◌}
use native.Mathlib.Nat.{div-mul_cancel}
use Rattle.whole_numbers.specs.Fractions.{exact_quotient}
use Rattle.integer_pivots.proofs.Quotients.{quotient_times}
use Rattle.integer_pivots.proofs.Sizes.{read, read_number}

-- the product with the quotient and 1, by parts
product_parts : (t d m rest word : ℕ) → d * m + rest ≡ word → (t * d) * (m + 1) + t * rest ≡ t * word + t * d
product_parts t d m rest word parts = let all = ap (λ z. t * z) parts in omega (arith, all)

le_of_less : {m n : ℕ} → m < n → m ≤ n
le_of_less near = omega (arith, near)

-- a multiple times 2^63 over the number and 1, over 2^63
pub quotient_of : (size d reciprocal times : ℕ) → 0 < d → size ≤ 2 ^ 62 → reciprocal ≡ 2 ^ 63 / d + 1 → size ≡ times * d → size * reciprocal / 2 ^ 63 ≡ times
quotient_of size d reciprocal times positive small is_reciprocal multiple =
    let parts = product_parts times d (2 ^ 63 / d) (2 ^ 63 % d) (2 ^ 63) (div-add-mod (2 ^ 63) d) in
    let near = mod-lt (2 ^ 63) positive in
    let less : times * (2 ^ 63 % d) ≤ times * d = mul-le-mul_left times (le_of_less near) in
    let product = ap (λ z. z * reciprocal) multiple ∙ ap (λ z. (times * d) * z) is_reciprocal in
    div-eq_of_lt-le (2 ^ 63) (omega (arith, product, parts, less)) (omega (arith, product, parts, less, multiple, small))

-- the product with any number, over 2^63 and times the number, is at most 2^63
pub quotient_near : (size d reciprocal : ℕ) → 0 < d → d ≤ 2 ^ 30 → size ≤ 2 ^ 62 → reciprocal ≡ 2 ^ 63 / d + 1 → (size * reciprocal / 2 ^ 63) * d ≤ 2 ^ 63
quotient_near size d reciprocal positive few small is_reciprocal =
    let whole = mul-le-mul_right d
    (first_part (2 ^ 63 * (size * reciprocal / 2 ^ 63)) (size * reciprocal % 2 ^ 63) (size * reciprocal)
    (div-add-mod (size * reciprocal) (2 ^ 63))) in
    let around : reciprocal * d ≡ (2 ^ 63 / d + 1) * d = ap (λ z. z * d) is_reciprocal in
    let below = first_part (d * (2 ^ 63 / d)) (2 ^ 63 % d) (2 ^ 63) (div-add-mod (2 ^ 63) d) in
    let scaled = mul-le-mul_left size (twice (reciprocal * d) (2 ^ 63 / d) d around below few) in
    omega (arith, whole, scaled, small)
  where
    first_part : (a b c : ℕ) → a + b ≡ c → a ≤ c
    first_part a b c sums = omega (arith, sums)

    twice : (product m n : ℕ) → product ≡ (m + 1) * n → n * m ≤ 2 ^ 63 → n ≤ 2 ^ 30 → product ≤ 2 ^ 64
    twice product m n is_product near less = omega (arith, is_product, near, less)

-- a number that isn't negative is so many times the other one as its size says
goes_times : (times : ℕ) (n d : ℤ) → pos 0 <ℤ d → times * nat_abs d ≡ nat_abs n → pos 0 ≤ℤ n → (pos times *ℤ d) ≡ n
goes_times times (pos m) (pos e) positive is high = pos-*ℤ-pos times e ∙ ap (λ k. pos k) is
goes_times times (negsuc m) (pos e) positive is high = absurd (omega (arith, ints, high))
goes_times times n (negsuc e) positive is high = absurd (omega (arith, ints, positive))

-- and a negative one as often, less than 0
falls_times : (times : ℕ) (n d : ℤ) → pos 0 <ℤ d → times * nat_abs d ≡ nat_abs n → n <ℤ pos 0 → (neg_ℤ (pos times) *ℤ d) ≡ n
falls_times times (negsuc m) (pos e) positive is low =
    ring (pos times ∷ pos e ∷ []) (neg (var 0) ⊗ var 1) (neg (var 0 ⊗ var 1)) refl ∙ ap neg_ℤ (pos-*ℤ-pos times e ∙ ap (λ k. pos k) is)
falls_times times (pos m) (pos e) positive is low = absurd (omega (arith, ints, low))
falls_times times n (negsuc e) positive is low = absurd (omega (arith, ints, positive))

-- so what goes into a number's size goes so many times into it
pub divisor_times : (n d : ℤ) → pos 0 <ℤ d → nat_abs d ∣ nat_abs n → (k : ℤ) × ((k *ℤ d) ≡ n)
divisor_times n d positive divides = (exact_quotient n (nat_abs d), quotient_times n d positive divides)

-- a quotient by one product tells whether a number goes
pub goes_into : (q size d : ℕ) → ((times : ℕ) → size ≡ times * d → q ≡ times) → (q * d ≡ size) ↔ (d ∣ size)
goes_into q size d is_times = (
  λ is. subst (λ (s : ℕ). d ∣ s) is (dvd-mul_left d q),
  λ divides. let whole = div-mul_cancel d divides in ap (λ (m : ℕ). m * d) (is_times (size / d) (sym whole)) ∙ whole,
)

-- the sizes go as often
sizes_times : (k n d : ℤ) → (k *ℤ d) ≡ n → nat_abs n ≡ nat_abs k * nat_abs d
sizes_times k n d is = ap nat_abs (sym is) ∙ unsigned_abs-mul k d

-- how often a number goes, where it goes so often into the size
size_of_times : (q size : ℕ) (n d k : ℤ) → ((times : ℕ) → size ≡ times * nat_abs d → q ≡ times) → size ≡ nat_abs n →
    (k *ℤ d) ≡ n → q * nat_abs d ≡ nat_abs n
size_of_times q size n d k is_times is_size is =
    let sizes = sizes_times k n d is in
    ap (λ (m : ℕ). m * nat_abs d) (is_times (nat_abs k) (is_size ∙ sizes)) ∙ sym sizes

-- the quotient is within 63 bits
times_small : (q : ℕ) (n d : ℤ) → pos 0 <ℤ d → nat_abs n ≤ 2 ^ 62 → q * nat_abs d ≡ nat_abs n → q ≤ 2 ^ 62
times_small q n d positive small is =
    let most = le-mul_of_pos_right q (size_positive d positive) in
    omega (arith, most, is, small)

-- so it is, where what is read of 64 bits is divided
quotient_goes : (q size : ℕ) (n d k : ℤ) → ((times : ℕ) → size ≡ times * nat_abs d → q ≡ times) → nat_abs n ≤ 2 ^ 62 →
    size ≡ nat_abs (read n) → (k *ℤ d) ≡ n → q * nat_abs d ≡ nat_abs n
quotient_goes q size n d k is_times small is_size is =
    size_of_times q size n d k is_times (is_size ∙ ap nat_abs (read_number n (omega (arith, small)))) is

pub quotient_fits : (q size : ℕ) (n d k : ℤ) → pos 0 <ℤ d → ((times : ℕ) → size ≡ times * nat_abs d → q ≡ times) →
    nat_abs n ≤ 2 ^ 62 → size ≡ nat_abs (read n) → (k *ℤ d) ≡ n → FitsSigned w64 (pos q)
quotient_fits q size n d k positive is_times small is_size is =
    let most = times_small q n d positive small (quotient_goes q size n d k is_times small is_size is) in
    fits_signed_from_abs w64 (pos q) (omega (arith, most))

pub opposite_fits : (q size : ℕ) (n d k : ℤ) → pos 0 <ℤ d → ((times : ℕ) → size ≡ times * nat_abs d → q ≡ times) →
    nat_abs n ≤ 2 ^ 62 → size ≡ nat_abs (read n) → (k *ℤ d) ≡ n → FitsSigned w64 (pos 0 -ℤ to_z w64 q)
opposite_fits q size n d k positive is_times small is_size is =
    let most = times_small q n d positive small (quotient_goes q size n d k is_times small is_size is) in
    fits_signed_from_abs w64 (pos 0 -ℤ to_z w64 q)
    (let size_is = ap (λ (z : ℤ). nat_abs (pos 0 -ℤ z)) (to_z_pos w64 q (omega (arith, most))) in omega (arith, ints, size_is, most))

pub divided_high : (q size : ℕ) (n d k : ℤ) → pos 0 <ℤ d → ((times : ℕ) → size ≡ times * nat_abs d → q ≡ times) →
    nat_abs n ≤ 2 ^ 62 → size ≡ nat_abs (read n) → (k *ℤ d) ≡ n → lt_z (read n) (pos 0) ≡ false → (to_z w64 q *ℤ d) ≡ n
divided_high q size n d k positive is_times small is_size is test =
    let goes = quotient_goes q size n d k is_times small is_size is in
    let most = times_small q n d positive small goes in
    let high = subst (λ (y : ℤ). pos 0 ≤ℤ y) (read_number n (omega (arith, small))) (lt_z_no (subst (λ (b : Bool). T (not b)) (sym test) tt)) in
    ap (λ (z : ℤ). z *ℤ d) (to_z_pos w64 q (omega (arith, most))) ∙ goes_times q n d positive goes high

pub divided_low : (q size : ℕ) (n d k : ℤ) → pos 0 <ℤ d → ((times : ℕ) → size ≡ times * nat_abs d → q ≡ times) →
    nat_abs n ≤ 2 ^ 62 → size ≡ nat_abs (read n) → (k *ℤ d) ≡ n → lt_z (read n) (pos 0) ≡ true →
    (read (pos 0 -ℤ to_z w64 q) *ℤ d) ≡ n
divided_low q size n d k positive is_times small is_size is test =
    let goes = quotient_goes q size n d k is_times small is_size is in
    let most = times_small q n d positive small goes in
    let low = subst (λ (y : ℤ). y <ℤ pos 0) (read_number n (omega (arith, small))) (lt_z_yes (subst T (sym test) tt)) in
    let opposite : (pos 0 -ℤ to_z w64 q) ≡ neg_ℤ (pos q) =
    ap (λ (z : ℤ). pos 0 -ℤ z) (to_z_pos w64 q (omega (arith, most))) ∙ ring (pos q ∷ []) (num (pos 0) ⊖ var 0) (neg (var 0)) refl in
    ap (λ (z : ℤ). read z *ℤ d) opposite
    ∙ ap (λ (z : ℤ). z *ℤ d) (read_number (neg_ℤ (pos q)) (let size_is = nat_abs-neg q in omega (arith, size_is, most)))
    ∙ falls_times q n d positive goes low
