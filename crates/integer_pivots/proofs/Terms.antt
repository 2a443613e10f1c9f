-- The terms of a form, and what they weigh.
use Rattle.std.proofs.Common.{◌≡◌, ℕ, zero, suc, ◌+◌, ◌<◌, refl, ◌∙◌, ap, List, [], ◌∷◌, length, get_or, drop, arith, add-one, drop-cons}
use Rattle.std.specs.Prelude.{ℤ, pos, negsuc, nat_abs, sum_by}
use Rattle.std.proofs.lemmas.List.Sums.{sum_by-cons}
use Rattle.design_problem.specs.declared.form.Term.{Term}
use Rattle.design_problem.specs.Forms.{terms_from}

abbrev pub term_size : Term → ℕ
term_size t = nat_abs t.coefficient

-- the terms weigh what the coefficients do
pub terms_weight : (first : ℕ) (cs : List ℤ) → sum_by term_size (terms_from first cs) ≡ sum_by nat_abs cs
terms_weight first [] = refl
terms_weight first (pos zero ∷ cs) = omega (arith, terms_weight (suc first) cs, sum_by-cons nat_abs (pos zero) cs)
terms_weight first (pos (suc n) ∷ cs) =
    omega (
      arith,
      sum_by-cons term_size (record { var = first; coefficient = pos (suc n) }) (terms_from (suc first) cs),
      terms_weight (suc first) cs,
      sum_by-cons nat_abs (pos (suc n)) cs,
    )
terms_weight first (negsuc n ∷ cs) =
    omega (
      arith,
      sum_by-cons term_size (record { var = first; coefficient = negsuc n }) (terms_from (suc first) cs),
      terms_weight (suc first) cs,
      sum_by-cons nat_abs (negsuc n) cs,
    )

pub rest_weight : (ts : List Term) (index : ℕ) (d : Term) → index < length ts →
    sum_by term_size (drop index ts) ≡ term_size (get_or ts index d) + sum_by term_size (drop (index + 1) ts)
rest_weight ts index d index_in =
    let e : drop index ts ≡ get_or ts index d ∷ drop (index + 1) ts = rw (add-one, drop-cons ts index d) refl in
    ap (sum_by term_size) e ∙ sum_by-cons term_size (get_or ts index d) (drop (index + 1) ts)
