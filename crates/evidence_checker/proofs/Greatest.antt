-- The greatest value of a sum over a box, one place further.
use Rattle.std.proofs.Common.{◌≡◌, ◌∙◌, ℕ, ◌+◌, ◌*◌, ◌^◌, ◌<◌, ◌≤◌, ap, sym, subst, arith, to_z, of_z, List, length, take, drop, get_or, SFits}
use Rattle.std.specs.Int.{w128}
use Rattle.std.specs.Prelude.{ℤ, pos, ◌+ℤ◌, nat_abs, sum_by}
use Rattle.std.proofs.lemmas.Int.{to_z-of_z}
use Rattle.std.proofs.lemmas.List.{take_all}
use Rattle.std.proofs.lemmas.List.Sums.{sum_by-drop_more}
use Rattle.design_problem.specs.Boxes.{upper_sum}
use Rattle.whole_numbers.proofs.Sizes.{sum_size}
use Rattle.design_problem.proofs.ProductSizes.{fits_size}

-- a coefficient of those that are left is small
pub one_is_small : (cs : List ℤ) (i : ℕ) (sum : ℤ) → i < length cs → nat_abs sum + 65535 * sum_by nat_abs (drop i cs) < 2 ^ 127 →
    nat_abs (get_or cs i (pos 0)) * 65535 < 2 ^ 127
one_is_small cs i sum within size = omega (arith, sum_by-drop_more nat_abs cs i (pos 0) within, size)

-- and fits
pub one_fits : (cs : List ℤ) (i : ℕ) (sum : ℤ) → i < length cs → nat_abs sum + 65535 * sum_by nat_abs (drop i cs) < 2 ^ 127 → SFits w128 (get_or cs i (pos 0))
one_fits cs i sum within size = fits_size (get_or cs i (pos 0)) (omega (arith, one_is_small cs i sum within size))

-- both of a coefficient as it is read
pub read_is_small : (cs : List ℤ) (i : ℕ) (sum : ℤ) → i < length cs → nat_abs sum + 65535 * sum_by nat_abs (drop i cs) < 2 ^ 127 →
    nat_abs (to_z w128 (of_z w128 (get_or cs i (pos 0)))) * 65535 < 2 ^ 127
read_is_small cs i sum within size =
    subst (λ (z : ℤ). nat_abs z * 65535 < 2 ^ 127) (sym (to_z-of_z w128 (get_or cs i (pos 0)) (one_fits cs i sum within size)))
    (one_is_small cs i sum within size)

-- a sum fits with the next term
pub more_fits : (cs : List ℤ) (i : ℕ) (sum term : ℤ) → i < length cs → nat_abs sum + 65535 * sum_by nat_abs (drop i cs) < 2 ^ 127 →
    nat_abs term ≤ nat_abs (to_z w128 (of_z w128 (get_or cs i (pos 0)))) * 65535 → SFits w128 (sum +ℤ to_z w128 (of_z w128 term))
more_fits cs i sum term within size small =
    let whole = sum_by-drop_more nat_abs cs i (pos 0) within in
    let own : nat_abs term ≤ nat_abs (get_or cs i (pos 0)) * 65535 =
    subst (λ (z : ℤ). nat_abs term ≤ nat_abs z * 65535) (to_z-of_z w128 (get_or cs i (pos 0)) (one_fits cs i sum within size)) small in
    let term_size : nat_abs term < 2 ^ 127 = omega (arith, one_is_small cs i sum within size, own) in
    subst (λ (z : ℤ). SFits w128 (sum +ℤ z)) (sym (to_z-of_z w128 term (fits_size term term_size)))
    (fits_size (sum +ℤ term) (omega (arith, whole, size, own, sum_size sum term)))

-- behind the last place stands the whole
pub whole_sum : (cs : List ℤ) (ls hs : List ℕ) (i : ℕ) (constant sum : ℤ) → length cs ≤ i → length cs ≡ length ls → length cs ≡ length hs →
    sum ≡ (constant +ℤ upper_sum (take i cs) (take i ls) (take i hs)) → sum ≡ (constant +ℤ upper_sum cs ls hs)
whole_sum cs ls hs i constant sum past low high so_far =
    so_far
    ∙ ap (λ (xs : List ℤ). constant +ℤ upper_sum xs (take i ls) (take i hs)) (take_all i cs past)
    ∙ ap (λ (xs : List ℕ). constant +ℤ upper_sum cs xs (take i hs)) (take_all i ls (omega (arith, past, low)))
    ∙ ap (λ (xs : List ℕ). constant +ℤ upper_sum cs ls xs) (take_all i hs (omega (arith, past, high)))
