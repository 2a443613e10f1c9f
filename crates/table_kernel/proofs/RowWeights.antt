-- The weight of a row, as a sum over its terms.
use Rattle.std.proofs.Common.{◌≡◌, ℕ, ◌*◌, ◌^◌, ◌<◌, ◌≤◌, ◌∙◌, ap, List, [], ◌∷◌, length, drop, get_or, arith, sym, subst, ◌+◌, FitsSigned, w64}
use Rattle.std.specs.Prelude.{ℤ, pos, ◌+ℤ◌, ◌≤ℤ◌, neg_ℤ, nat_abs, All, sum_by}
use Rattle.std.proofs.lemmas.Int.{fits_signed_from_abs, ints}
use Rattle.std.proofs.lemmas.List.{at_drop_all}
use Rattle.std.proofs.lemmas.List.Elements.{All-tail}
use Rattle.std.proofs.lemmas.List.Sums.{sum_by-cons}
use Rattle.design_problem.specs.declared.form.Term.{Term}
use Rattle.design_problem.specs.Forms.{terms_from}
use Rattle.whole_numbers.proofs.Sizes.{negated_size}
use Rattle.integer_pivots.proofs.Sizes.{read, read_number}
use Rattle.integer_pivots.proofs.Terms.{rest_weight, term_size, terms_weight}

-- many small coefficients weigh little
pub coefficients_light : (most : ℕ) (cs : List ℤ) → All (λ c. nat_abs c ≤ most) cs → sum_by nat_abs cs ≤ length cs * most
coefficients_light most [] small = omega arith
coefficients_light most (c ∷ cs) small =
    let here : nat_abs c ≤ most = small 0 (pos 0) (omega arith) in
    let rest = coefficients_light most cs (All-tail (λ (y : ℤ). nat_abs y ≤ most) c cs small) in
    rw (sum_by-cons nat_abs c cs) (omega (arith, here, rest))

-- the weight with what is left of the terms is the whole one
pub record IsWeighed (ts : List Term) (index : ℕ) (sum : ℤ) : Type 0 where
  pub so_far : (sum +ℤ pos (sum_by term_size (drop index ts))) ≡ pos (sum_by term_size ts)
  pub from_zero : pos 0 ≤ℤ sum
  pub light : sum_by term_size ts ≤ 2 ^ 58

pub weighed_first : (ts : List Term) (cs : List ℤ) → ts ≡ terms_from 0 cs → length cs < 2 ^ 32 → All (λ c. nat_abs c ≤ 2 ^ 26) cs → IsWeighed ts 0 (pos 0)
weighed_first ts cs terms few small =
    let weight : sum_by term_size ts ≡ sum_by nat_abs cs = ap (sum_by term_size) terms ∙ terms_weight 0 cs in
    let most = coefficients_light (2 ^ 26) cs small in
    record { so_far = omega (arith, ints); from_zero = omega (arith, ints); light = omega (arith, weight, most, few) }

-- a term of which the weight is made is within it
pub weighed_term : (ts : List Term) (index : ℕ) (d : Term) (sum : ℤ) → index < length ts → IsWeighed ts index sum →
    nat_abs (get_or ts index d).coefficient ≤ 2 ^ 58
weighed_term ts index d sum index_in w = omega (arith, ints, w.so_far, w.from_zero, w.light, rest_weight ts index d index_in)

pub weight_turns : (c : ℤ) → nat_abs c ≤ 2 ^ 58 → FitsSigned w64 (neg_ℤ (read c))
weight_turns c small =
    subst (λ (z : ℤ). FitsSigned w64 (neg_ℤ z)) (sym (read_number c (omega (arith, small))))
    (fits_signed_from_abs w64 (neg_ℤ c) (omega (arith, negated_size c, small)))

-- one more term, as code reads it
pub weighed_more : (ts : List Term) (index : ℕ) (d : Term) (sum added : ℤ) → index < length ts →
    added ≡ pos (nat_abs (read (get_or ts index d).coefficient)) → IsWeighed ts index sum →
    FitsSigned w64 (sum +ℤ read added) × IsWeighed ts (index + 1) (read (sum +ℤ read added))
weighed_more ts index d sum added index_in added_is w =
    let c = (get_or ts index d).coefficient in
    let light = weighed_term ts index d sum index_in w in
    let is : read added ≡ pos (nat_abs c) =
    ap read (added_is ∙ ap (λ (z : ℤ). pos (nat_abs z)) (read_number c (omega (arith, light)))) ∙ read_number (pos (nat_abs c)) (omega (arith, light)) in
    let rest = rest_weight ts index d index_in in
    let size : nat_abs (sum +ℤ pos (nat_abs c)) ≤ 2 ^ 58 = omega (arith, ints, w.so_far, w.from_zero, w.light, rest) in
    let whole : (sum +ℤ read added) ≡ (sum +ℤ pos (nat_abs c)) = ap (λ (z : ℤ). sum +ℤ z) is in
    let more : IsWeighed ts (index + 1) (sum +ℤ pos (nat_abs c)) =
    record { so_far = omega (arith, ints, w.so_far, rest); from_zero = omega (arith, ints, w.from_zero); light = w.light } in (
      subst (FitsSigned w64) (sym whole) (fits_signed_from_abs w64 (sum +ℤ pos (nat_abs c)) (omega (arith, size))),
      subst (IsWeighed ts (index + 1)) (sym (ap read whole ∙ read_number (sum +ℤ pos (nat_abs c)) (omega (arith, size)))) more,
    )

pub weighed_all : (ts : List Term) (index : ℕ) (sum : ℤ) (cs : List ℤ) → length ts ≤ index → ts ≡ terms_from 0 cs →
    IsWeighed ts index sum → sum ≡ pos (sum_by nat_abs cs)
weighed_all ts index sum cs past terms w =
    let none : sum_by term_size (drop index ts) ≡ 0 = at_drop_all (sum_by term_size) ts index past in
    let weight : sum_by term_size ts ≡ sum_by nat_abs cs = ap (sum_by term_size) terms ∙ terms_weight 0 cs in
    omega (arith, ints, w.so_far, none, weight)
