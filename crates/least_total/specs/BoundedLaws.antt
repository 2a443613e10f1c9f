-- Laws of the source of rivals with a bound of the total: its true forms hold at accepted points, they stand in one
-- list, and what is accepted at multiples of costs is accepted at the costs.
use Rattle.std.proofs.Common.{◌≡◌, ℕ, zero, suc, ◌+◌, ◌*◌, ◌^◌, ◌<◌, ◌≤◌, refl, sym, ◌∙◌, subst, ap, inl, inr, List, [], ◌∷◌, map, length, fold, arith}
use Rattle.std.specs.Prelude.{ℤ, pos, negsuc, ◌+ℤ◌, ◌*ℤ◌, ◌≤ℤ◌, nat_abs, All, Contains, replicate}
use Rattle.std.specs.List.{sum}
use Rattle.std.proofs.lemmas.Int.{ints}
use Rattle.std.proofs.lemmas.List.{length-replicate}
use Rattle.std.proofs.lemmas.List.Elements.{All-nil, All-cons, All-head, All-tail, Contains-append_right}
use Rattle.whole_numbers.proofs.Ring.{var, num, ◌⊕◌, ◌⊗◌, ring}
use Rattle.area_graph.specs.Costs.{at_costs}
use Rattle.design_problem.specs.Forms.{Form, dot, value_at}
use Rattle.design_problem.specs.Problems.{DesignProblem}
use Rattle.design_problem.proofs.AtCosts.{dot_scaled}
use Rattle.form_search.specs.Sources.{IsTrueForm, scaled}
use Rattle.cost_branching.specs.PossibleForms.{possible_forms_of_problem}
use Rattle.cost_branching.specs.SourceLaws as rivals
use Rattle.least_total.specs.Totals.{LeadsWithin, form_of_total}
use Rattle.least_total.specs.Bounded.{IsTrueTotal, IsTrueWithin, possible_forms_within}

-- a sum from a start on is the start and the sum from 0
sum_from_start : (start : ℕ) (xs : List ℕ) → fold ◌+◌ start xs ≡ start + fold ◌+◌ 0 xs
sum_from_start start [] = omega arith
sum_from_start start (x ∷ xs) =
    let first = sum_from_start (start + x) xs in
    let other = sum_from_start (0 + x) xs in
    omega arith

-- the sum of a list with one number more in front
pub sum_more : (x : ℕ) (xs : List ℕ) → sum (x ∷ xs) ≡ x + sum xs
sum_more x xs = let from = sum_from_start (0 + x) xs in omega arith

-- a value and a sum that make 0 still do with one number more, which is subtracted and added
one_less : (x : ℕ) (d : ℤ) (s : ℕ) → (d +ℤ pos s) ≡ pos 0 → (((negsuc 0 *ℤ pos x) +ℤ d) +ℤ pos (x + s)) ≡ pos 0
one_less x d s rest = omega (arith, ints)

-- the sum of some values times -1 is minus their sum
pub minus_sum : (n : ℕ) (xs : List ℕ) → length xs ≡ n → (dot (replicate n (negsuc 0)) xs +ℤ pos (sum xs)) ≡ pos 0
minus_sum zero [] count = refl
minus_sum (suc n) [] count = absurd (omega arith)
minus_sum zero (x ∷ xs) count = absurd (omega arith)
minus_sum (suc n) (x ∷ xs) count =
    subst (λ (s : ℕ). (((negsuc 0 *ℤ pos x) +ℤ dot (replicate n (negsuc 0)) xs) +ℤ pos s) ≡ pos 0) (sym (sum_more x xs))
    (one_less x (dot (replicate n (negsuc 0)) xs) (sum xs) (minus_sum n xs (omega arith)))

-- each cost is at most 65535, so the sum of n costs is at most 65535 times n
pub cost_sum_small : (n : ℕ) (w : List ℕ) → length w ≡ n → All (λ x. (1 ≤ x) × (x ≤ 65535)) w → sum w ≤ 65535 * n
cost_sum_small zero [] count each = omega arith
cost_sum_small (suc n) [] count each = absurd (omega arith)
cost_sum_small zero (x ∷ w) count each = absurd (omega arith)
cost_sum_small (suc n) (x ∷ w) count each =
    let here = All-head (λ x. (1 ≤ x) × (x ≤ 65535)) x w each in
    let rest = cost_sum_small n w (omega arith) (All-tail (λ x. (1 ≤ x) × (x ≤ 65535)) x w each) in
    omega (arith, here.1, rest, sum_more x w)

-- coefficients of -1 are at most 2^26 in size
all_ones : (n : ℕ) → All (λ c. nat_abs c ≤ 2 ^ 26) (replicate n (negsuc 0))
all_ones zero = All-nil (λ c. nat_abs c ≤ 2 ^ 26)
all_ones (suc n) = All-cons (λ c. nat_abs c ≤ 2 ^ 26) (negsuc 0) (replicate n (negsuc 0)) (omega arith) (all_ones n)

-- the bound less a sum of costs is below 2^27 in size
apart : (most s : ℕ) (d : ℤ) → most < 2 ^ 26 → s < 2 ^ 26 → (d +ℤ pos s) ≡ pos 0 → nat_abs (pos most +ℤ d) < 2 ^ 27
apart most s d first second same = omega (arith, ints)

-- the form of the total is a true form
total_holds : (p : DesignProblem) (most : ℕ) (form : Form) → IsTrueTotal p most form → IsTrueForm (length p.low) (LeadsWithin p most) form
total_holds p most form is =
    let n = length p.low in
    let few : n ≤ 1000 = is.kept.problem.var_count in
    subst (λ (f : Form). IsTrueForm n (LeadsWithin p most) f) (sym is.same)
    (record {
      count = length-replicate n (negsuc 0);
      sizes = all_ones n;
      values = λ w count each.
          let small = cost_sum_small n w count each in
          apart most (sum w) (dot (replicate n (negsuc 0)) w) is.small (omega arith) (minus_sum n w count);
      met = λ point count within. within.within;
    })

-- a true form is small, and at least 0 at each accepted point
pub total_forms_hold : (p : DesignProblem) (most : ℕ) (form : Form) → IsTrueWithin p most form → IsTrueForm (length p.low) (LeadsWithin p most) form
total_forms_hold p most form (inl of_row) =
    let holds = rivals.rival_forms_hold p form of_row in
    record {
      count = holds.count;
      sizes = holds.sizes;
      values = holds.values;
      met = λ point count within. holds.met point count within.leads;
    }
total_forms_hold p most form (inr of_total) = total_holds p most form of_total

-- Every true form stands in the list of the possible forms.

-- each true form is among the possible forms
pub total_forms_listed : (p : DesignProblem) (most : ℕ) (form : Form) → IsTrueWithin p most form → Contains (possible_forms_within p most) form
total_forms_listed p most form (inl of_row) = Contains-append_right (form_of_total p most ∷ []) (possible_forms_of_problem p) form
    (rivals.rival_forms_listed p form of_row)
total_forms_listed p most form (inr of_total) = (0, omega arith, sym of_total.same)

-- What is accepted at multiples of costs is accepted at the costs.

-- a constant and a value at a multiple of costs are that multiple of theirs at the costs
one_more : (c z d : ℤ) (s : ℤ) → z ≡ (d *ℤ s) → ((c *ℤ s) +ℤ z) ≡ ((c +ℤ d) *ℤ s)
one_more c z d s rest = ap (λ (y : ℤ). (c *ℤ s) +ℤ y) rest ∙ ring (c ∷ d ∷ s ∷ []) (var 0 ⊗ var 2 ⊕ var 1 ⊗ var 2) ((var 0 ⊕ var 1) ⊗ var 2) refl

-- a number is at least 0 where a positive multiple of it is
negative_product : (z : ℤ) (n : ℕ) → 0 < n → pos 0 ≤ℤ (z *ℤ pos n) → pos 0 ≤ℤ z
negative_product (pos m) n some high = omega (arith, ints)
negative_product (negsuc m) n some high =
    let h : 0 < suc m * n = grind arith in
    absurd (omega (arith, ints))

-- a form's value at multiples of costs is that multiple of its value at the costs
total_value_scaled : (f : Form) (w : List ℕ) (s : ℕ) → value_at f (scaled w s) ≡ (value_at f (at_costs w) *ℤ pos s)
total_value_scaled f w s =
    one_more f.constant (dot f.coefficients (map (λ x. x * s) w)) (dot f.coefficients w) (pos s) (dot_scaled f.coefficients w s)
    ∙ ap (λ (z : ℤ). z *ℤ pos s) (ring (f.constant ∷ dot f.coefficients w ∷ []) (var 0 ⊕ var 1) (var 0 ⊗ num (pos 1) ⊕ var 1) refl)

-- what is accepted at multiples of costs is accepted at the costs
pub total_scale_is_free : (p : DesignProblem) (most : ℕ) (w : List ℕ) (scale : ℕ) → 0 < scale → LeadsWithin p most (scaled w scale) →
    LeadsWithin p most (at_costs w)
total_scale_is_free p most w scale some within = record {
  leads = rivals.rival_scale_is_free p w scale some within.leads;
  within =
      negative_product (value_at (form_of_total p most) (at_costs w)) scale some
      (subst (λ (z : ℤ). pos 0 ≤ℤ z) (total_value_scaled (form_of_total p most) w scale) within.within);
}
