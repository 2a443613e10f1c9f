-- A small coefficient times a bound, as code reads both.
use Rattle.std.proofs.Common.{◌≡◌, ℕ, ◌^◌, ◌*◌, ◌<◌, ◌≤◌, refl, sym, ◌∙◌, ap, subst, true, false, w64, SFits, to_z, of_z, mul-le-mul, arith}
use Rattle.std.specs.Prelude.{ℤ, pos, negsuc, nat_abs, ◌*ℤ◌}
use Rattle.std.proofs.lemmas.Bool.{leb-false}
use Rattle.std.specs.Int.Signed.{le_z}
use Rattle.std.proofs.lemmas.Int.{fits_signed_from_abs, to_z-of_z, unsigned_abs-mul}
use Rattle.design_problem.specs.Boxes.{upper_term}
use Rattle.design_problem.proofs.TermLaws.{small_read}

-- the product has at most 42 bits
pub product_small : (z : ℤ) (n : ℕ) → nat_abs z ≤ 2 ^ 26 → n < 2 ^ 16 → nat_abs (z *ℤ pos n) ≤ 2 ^ 42
product_small z n small bound =
    let size : nat_abs (z *ℤ pos n) ≡ nat_abs z * n = unsigned_abs-mul z (pos n) in
    let below : n ≤ 2 ^ 16 = omega (arith, bound) in
    let most : nat_abs z * n ≤ 2 ^ 26 * 2 ^ 16 = mul-le-mul small below in
    omega (arith, size, most)

-- both factors are read as they are
factors_read : (z right : ℤ) (n : ℕ) → nat_abs z ≤ 2 ^ 26 → n < 2 ^ 16 → right ≡ pos n →
    (to_z w64 (of_z w64 z) *ℤ to_z w64 (of_z w64 right)) ≡ (z *ℤ pos n)
factors_read z right n small bound right_is =
    let n_small : n ≤ 2 ^ 26 = omega (arith, bound) in
    ap (λ (y : ℤ). to_z w64 (of_z w64 z) *ℤ to_z w64 (of_z w64 y)) right_is
    ∙ ap (λ (y : ℤ). y *ℤ to_z w64 (of_z w64 (pos n))) (small_read z small)
    ∙ ap (λ (y : ℤ). z *ℤ y) (small_read (pos n) n_small)

fits : (z : ℤ) (n : ℕ) → nat_abs z ≤ 2 ^ 26 → n < 2 ^ 16 → SFits w64 (z *ℤ pos n)
fits z n small bound =
    let below : nat_abs (z *ℤ pos n) < 2 ^ 63 = omega (arith, product_small z n small bound) in
    fits_signed_from_abs w64 (z *ℤ pos n) below

-- their product fits
pub product_fits : (z right : ℤ) (n : ℕ) → nat_abs z ≤ 2 ^ 26 → n < 2 ^ 16 → right ≡ pos n →
    SFits w64 (to_z w64 (of_z w64 z) *ℤ to_z w64 (of_z w64 right))
product_fits z right n small bound right_is =
    subst (λ (y : ℤ). SFits w64 y) (sym (factors_read z right n small bound right_is)) (fits z n small bound)

-- it is read as it is
pub product_read : (z right : ℤ) (n : ℕ) → nat_abs z ≤ 2 ^ 26 → n < 2 ^ 16 → right ≡ pos n →
    to_z w64 (of_z w64 (to_z w64 (of_z w64 z) *ℤ to_z w64 (of_z w64 right))) ≡ (z *ℤ pos n)
product_read z right n small bound right_is =
    ap (λ (y : ℤ). to_z w64 (of_z w64 y)) (factors_read z right n small bound right_is)
    ∙ to_z-of_z w64 (z *ℤ pos n) (fits z n small bound)

-- so is its size
pub read_size : (z right : ℤ) (n : ℕ) → nat_abs z ≤ 2 ^ 26 → n < 2 ^ 16 → right ≡ pos n →
    nat_abs (to_z w64 (of_z w64 (to_z w64 (of_z w64 z) *ℤ to_z w64 (of_z w64 right)))) ≤ 2 ^ 42
read_size z right n small bound right_is =
    subst (λ (y : ℤ). nat_abs y ≤ 2 ^ 42) (sym (product_read z right n small bound right_is)) (product_small z n small bound)

high_end : (z : ℤ) (low high : ℕ) → le_z (pos 0) z ≡ true → (z *ℤ pos high) ≡ upper_term z low high
high_end (pos n) low high test = refl
high_end (negsuc n) low high test = absurd (cc)

low_end : (z : ℤ) (low high : ℕ) → le_z (pos 0) z ≡ false → (z *ℤ pos low) ≡ upper_term z low high
low_end (pos n) low high test = absurd (omega (arith, leb-false 0 n test))
low_end (negsuc n) low high test = refl

-- by the coefficient's sign it is the greatest of the range
pub product_high : (z : ℤ) (low high : ℕ) → nat_abs z ≤ 2 ^ 26 → le_z (pos 0) (to_z w64 (of_z w64 z)) ≡ true →
    (z *ℤ pos high) ≡ upper_term z low high
product_high z low high small test =
    high_end z low high (subst (λ (y : ℤ). le_z (pos 0) y ≡ true) (small_read z small) test)

pub product_low : (z : ℤ) (low high : ℕ) → nat_abs z ≤ 2 ^ 26 → le_z (pos 0) (to_z w64 (of_z w64 z)) ≡ false →
    (z *ℤ pos low) ≡ upper_term z low high
product_low z low high small test =
    low_end z low high (subst (λ (y : ℤ). le_z (pos 0) y ≡ false) (small_read z small) test)
