-- Laws of a list of forms as a source.
use Rattle.std.proofs.Common.{◌≡◌, ℕ, zero, suc, ◌*◌, ◌^◌, ◌<◌, ◌≤◌, refl, subst, List, [], ◌∷◌, map, length, arith}
use Rattle.std.specs.Prelude.{ℤ, pos, negsuc, ◌*ℤ◌, ◌≤ℤ◌, nat_abs, slice_index_or, All, Contains, sum_by}
use Rattle.std.proofs.lemmas.List.Sums.{sum_by-cons}
use Rattle.std.proofs.lemmas.List.Elements.{All-nil, All-cons, All-tail}
use Rattle.whole_numbers.proofs.Ring.{var, num, ◌⊕◌, ◌⊗◌, ring_by, nothing, using}
use Rattle.fraction_table.proofs.Solutions.{high_number}
use Rattle.area_graph.specs.Costs.{at_costs}
use Rattle.design_problem.specs.declared.form.Term.{Term}
use Rattle.design_problem.specs.Forms.{Form, dot, size_of_form, terms_from, terms_of, value_at, AreMet, no_term}
use Rattle.design_problem.proofs.FormSizes.{value_size}
use Rattle.design_problem.proofs.TermLaws.{sizes_from}
use Rattle.design_problem.proofs.AtCosts.{dot_scaled}
use Rattle.form_search.specs.Sources.{IsTrueForm, scaled}
use Rattle.search_cases.specs.SmallForms.{IsTiny, IsTrueSmallForm, SmallForms}

-- what holds of 0 and of the coefficient of each term holds of each coefficient
each_coefficient : (P : ℤ → Type 0) (first : ℕ) (cs : List ℤ) → P (pos 0) → All (λ (t : Term). P t.coefficient) (terms_from first cs) → All P cs
each_coefficient P first [] none each = All-nil P
each_coefficient P first (pos zero ∷ cs) none each = All-cons P (pos zero) cs none (each_coefficient P (suc first) cs none each)
each_coefficient P first (pos (suc n) ∷ cs) none each =
    All-cons P (pos (suc n)) cs (each 0 no_term (omega arith))
    (each_coefficient P (suc first) cs none
    (All-tail (λ (t : Term). P t.coefficient) (record { var = first; coefficient = pos (suc n) })
    (terms_from (suc first) cs) each))
each_coefficient P first (negsuc n ∷ cs) none each =
    All-cons P (negsuc n) cs (each 0 no_term (omega arith))
    (each_coefficient P (suc first) cs none
    (All-tail (λ (t : Term). P t.coefficient) (record { var = first; coefficient = negsuc n })
    (terms_from (suc first) cs) each))

-- the sizes of n coefficients of at most 4 sum up to at most 4n
sum_most : (ts : List Term) → All (λ (t : Term). nat_abs t.coefficient ≤ 4) ts → sum_by (λ (t : Term). nat_abs t.coefficient) ts ≤ 4 * length ts
sum_most [] each = omega arith
sum_most (t ∷ ts) each =
    let here = each 0 t (omega arith) in
    let rest = sum_most ts (λ k d k_in. each (suc k) d (omega arith)) in
    rw (sum_by-cons (λ (u : Term). nat_abs u.coefficient) t ts) (omega arith)

-- a tiny form has a size below 2^27
small_form : (n : ℕ) (form : Form) → IsTiny n form → size_of_form form < 2 ^ 27
small_form n form tiny =
    let sizes = sizes_from 0 form.coefficients in
    let sum = sum_most (terms_of form) tiny.sizes in
    let few = tiny.few in
    let constant = tiny.constant in
    omega arith

-- costs from 1 to 65,535 are below 2^16
values_small : (w : List ℕ) → All (λ x. (1 ≤ x) × (x ≤ 65535)) w → All (λ x. x < 2 ^ 16) w
values_small w each k d k_in = let both = each k d k_in in omega arith

-- a number of at most 4 in size is at most 2^26 in size
below_four : (z : ℤ) → nat_abs z ≤ 4 → nat_abs z ≤ 2 ^ 26
below_four z small = omega arith

-- a true form is small, and at least 0 at each point that meets the list's forms
pub small_forms_hold : (s : SmallForms) (form : Form) → IsTrueSmallForm s form → IsTrueForm s.variables (AreMet s.forms) form
small_forms_hold s form is = record {
  count = is.tiny.count;
  sizes =
      λ k d k_in. below_four (slice_index_or form.coefficients k d)
      (each_coefficient (λ (z : ℤ). nat_abs z ≤ 4) 0 form.coefficients (omega arith) is.tiny.sizes k d k_in);
  values = λ w count each. let size = value_size form w (values_small w each) in let small = small_form s.variables form is.tiny in omega arith;
  met = λ point count met. subst (λ (f : Form). pos 0 ≤ℤ value_at f point) is.listed.2 (met is.listed.0 form is.listed.1);
}

-- each true form is in the list
pub small_forms_listed : (s : SmallForms) (form : Form) → IsTrueSmallForm s form → Contains s.forms form
small_forms_listed s form is = is.listed

-- a form's value at multiples of costs
small_value_scaled : (f : Form) (w : List ℕ) (scale : ℕ) → (value_at f (scaled w scale) *ℤ pos 1) ≡ (value_at f (at_costs w) *ℤ pos scale)
small_value_scaled f w scale =
    ring_by (f.constant ∷ pos scale ∷ dot f.coefficients (map (λ x. x * scale) w) ∷ dot f.coefficients w ∷ [])
    ((var 0 ⊗ var 1 ⊕ var 2) ⊗ num (pos 1)) ((var 0 ⊗ num (pos 1) ⊕ var 3) ⊗ var 1)
    (using (num (pos 1)) (var 2) (var 3 ⊗ var 1) (dot_scaled f.coefficients w scale) nothing) refl

-- forms that are at least 0 at multiples of costs are so at the costs
pub small_scale_is_free : (s : SmallForms) (w : List ℕ) (scale : ℕ) → 0 < scale → AreMet s.forms (scaled w scale) → AreMet s.forms (at_costs w)
small_scale_is_free s w scale some met k d k_in =
    let f = slice_index_or s.forms k d in
    high_number (value_at f (scaled w scale)) (value_at f (at_costs w)) scale 1 some (omega arith) (small_value_scaled f w scale) (met k d k_in)
