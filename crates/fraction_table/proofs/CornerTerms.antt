-- A coefficient times a lower bound, as code reads both.
use Rattle.std.proofs.Common.{◌≡◌, ℕ, ◌^◌, ◌<◌, ◌≤◌, sym, ◌∙◌, ap, subst, w64, SFits, to_z, of_z, arith}
use Rattle.std.specs.Int.{w128}
use Rattle.std.specs.Prelude.{ℤ, pos, negsuc, nat_abs, ◌*ℤ◌, ◌+ℤ◌, ◌≤ℤ◌}
use Rattle.std.proofs.lemmas.Int.{ints, fits_signed_from_abs}
use Rattle.design_problem.proofs.TermLaws.{small_read}
use Rattle.design_problem.proofs.TermProducts.{product_small}
use Rattle.fraction_table.proofs.MultiplierSteps.{read_back}

-- both factors are read as they are
pub factors_read : (z left right : ℤ) (n : ℕ) → nat_abs z ≤ 2 ^ 26 → n < 2 ^ 16 → left ≡ to_z w64 (of_z w64 z) →
    right ≡ pos n → (to_z w128 (of_z w128 left) *ℤ to_z w128 (of_z w128 right)) ≡ (z *ℤ pos n)
factors_read z left right n small low left_is right_is =
    let z_below : nat_abs z < 2 ^ 127 = omega (arith, small) in
    let n_below : n < 2 ^ 127 = omega (arith, low) in
    ap (λ (y : ℤ). to_z w128 (of_z w128 y) *ℤ to_z w128 (of_z w128 right)) (left_is ∙ small_read z small)
    ∙ ap (λ (y : ℤ). to_z w128 (of_z w128 z) *ℤ to_z w128 (of_z w128 y)) right_is
    ∙ ap (λ (y : ℤ). y *ℤ to_z w128 (of_z w128 (pos n))) (read_back z z_below)
    ∙ ap (λ (y : ℤ). z *ℤ y) (read_back (pos n) n_below)

-- their product fits
pub term_fits : (z left right : ℤ) (n : ℕ) → nat_abs z ≤ 2 ^ 26 → n < 2 ^ 16 → left ≡ to_z w64 (of_z w64 z) →
    right ≡ pos n → SFits w128 (to_z w128 (of_z w128 left) *ℤ to_z w128 (of_z w128 right))
term_fits z left right n small low left_is right_is =
    let below : nat_abs (z *ℤ pos n) < 2 ^ 127 = omega (arith, product_small z n small low) in
    subst (λ (y : ℤ). SFits w128 y) (sym (factors_read z left right n small low left_is right_is))
    (fits_signed_from_abs w128 (z *ℤ pos n) below)

-- it is read as it is
pub term_read : (z left right : ℤ) (n : ℕ) → nat_abs z ≤ 2 ^ 26 → n < 2 ^ 16 → left ≡ to_z w64 (of_z w64 z) →
    right ≡ pos n →
    to_z w128 (of_z w128 (to_z w128 (of_z w128 left) *ℤ to_z w128 (of_z w128 right))) ≡ (z *ℤ pos n)
term_read z left right n small low left_is right_is =
    let below : nat_abs (z *ℤ pos n) < 2 ^ 127 = omega (arith, product_small z n small low) in
    ap (λ (y : ℤ). to_z w128 (of_z w128 y)) (factors_read z left right n small low left_is right_is)
    ∙ read_back (z *ℤ pos n) below

-- a number of at most 42 bits is between -2^42 and 2^42
pub at_most : (z : ℤ) → nat_abs z ≤ 2 ^ 42 → z ≤ℤ pos (2 ^ 42)
at_most (pos n) small = omega (arith, ints, small)
at_most (negsuc n) small = omega (arith, ints)

pub at_least : (z : ℤ) → nat_abs z ≤ 2 ^ 42 → pos 0 ≤ℤ (z +ℤ pos (2 ^ 42))
at_least (pos n) small = omega (arith, ints)
at_least (negsuc n) small = omega (arith, ints, small)
