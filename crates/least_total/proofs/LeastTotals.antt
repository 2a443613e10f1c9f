-- What trees and lower bounds say of totals.
use Rattle.std.proofs.Common.{◌≡◌, ℕ, zero, suc, ◌<◌, ◌≤◌, refl, sym, ◌∙◌, subst, List, [], ◌∷◌, ◌++◌, length, min, take, drop, arith, inl, inr}
use Rattle.std.specs.Prelude.{ℤ, pos, negsuc, ◌+ℤ◌, ◌*ℤ◌, ◌≤ℤ◌, All, Option, None, Some, slice_index, slice_index_or, replicate}
use Rattle.std.specs.List.{sum}
use Rattle.std.proofs.lemmas.Int.{ints}
use Rattle.std.proofs.lemmas.Bool.{cases_lt}
use Rattle.std.proofs.lemmas.List.{length-map, get_or-map}
use Rattle.std.proofs.lemmas.List.Elements.{All-nil, All-cons, All-head, All-tail}
use Rattle.area_graph.specs.Costs.{at_costs}
use Rattle.design_problem.specs.declared.form.Row.{Row}
use Rattle.design_problem.specs.declared.tree.Entry.{Entry}
use Rattle.design_problem.specs.Problems.{DesignProblem, IsProblem}
use Rattle.design_problem.specs.Forms.{Form, dot, form_at, value_for_costs, value_at}
use Rattle.design_problem.specs.Boxes.{IsInBox, capped}
use Rattle.design_problem.specs.Rows.{AreBestCosts, IsFit, IsRow, box_of, forms_of_rows, greatest_cost}
use Rattle.design_problem.specs.Trees.{IsClosed, IsSoundTree}
use Rattle.design_problem.proofs.OpenPlaces.{earnest_tree_sound}
use Rattle.design_problem.proofs.ProblemTrees.{fit_meets, le_greatest}
use Rattle.design_problem.proofs.TreeLaws.{closed_tree_none}
use Rattle.printed_rows.proofs.MetForms.{Met, meets_all}
use Rattle.least_total.specs.declared.rounds.TotalTree.{TotalTree}
use Rattle.least_total.specs.Totals.{form_of_total, total}
use Rattle.least_total.specs.Bounded.{forms_with_total, with_form}
use Rattle.least_total.specs.BoundedLaws.{minus_sum, sum_more}
use Rattle.least_total.specs.Rounds.{IsFitWithin, IsKeptBelowTotal, IsRefutedWithin}

-- at most as much, place by place
sum_le : (ls ws : List ℕ) → length ls ≡ length ws → ((k : ℕ) → k < length ws → slice_index ls k ≤ slice_index ws k) → sum ls ≤ sum ws
sum_le [] [] same below = omega arith
sum_le [] (w ∷ ws) same below = absurd (omega arith)
sum_le (l ∷ ls) [] same below = absurd (omega arith)
sum_le (l ∷ ls) (w ∷ ws) same below =
    let here : l ≤ w = below 0 (omega arith) in
    let rest = sum_le ls ws (omega arith) (λ k k_in. below (suc k) (omega arith)) in
    omega (arith, sum_more l ls, sum_more w ws)

-- fit costs have at least the total of the lower bounds
pub from_lows : (p : DesignProblem) (w : List ℕ) → IsFit p w → total p.low ≤ total w
from_lows p w fit = sum_le p.low w fit.within.low_count fit.within.above

-- and such costs lie in the box
pub in_capped : (p : DesignProblem) (cap : ℕ) (w : List ℕ) → IsFitWithin p cap w → IsInBox (capped (box_of p) cap) w
in_capped p cap w fit =
    let inside = fit.0.within in
    record {
      low_count = inside.low_count;
      high_count = length-map p.high (λ h. min h cap) ∙ inside.high_count;
      above = inside.above;
      below = λ k k_in.
          let cut = get_or-map (λ h. min h cap) p.high k 0 0 (omega (arith, inside.high_count)) in
          let high = inside.below k k_in in
          let most = le_greatest w k k_in in
          omega (arith, cut, fit.1);
    }

-- The form of the total at costs.

form_value : (most s : ℕ) (d : ℤ) → (d +ℤ pos s) ≡ pos 0 → s ≤ most → pos 0 ≤ℤ (pos most +ℤ d)
form_value most s d same small = omega (arith, ints)

-- costs of a total of at most `most` meet it
pub total_met : (p : DesignProblem) (most : ℕ) (w : List ℕ) → length p.low ≡ length w → total w ≤ most → pos 0 ≤ℤ value_for_costs (form_of_total p most) w
total_met p most w count small = form_value most (sum w) (dot (replicate (length p.low) (negsuc 0)) w) (minus_sum (length p.low) w (sym count)) small

value_small : (most s : ℕ) (d : ℤ) → (d +ℤ pos s) ≡ pos 0 → pos 0 ≤ℤ ((pos most *ℤ pos 1) +ℤ d) → s ≤ most
value_small most s d same met = omega (arith, ints)

-- and those that meet it have such a total
pub total_small : (p : DesignProblem) (most : ℕ) (w : List ℕ) → length p.low ≡ length w → pos 0 ≤ℤ value_at (form_of_total p most) (at_costs w) → total w ≤ most
total_small p most w count met = value_small most (sum w) (dot (replicate (length p.low) (negsuc 0)) w) (minus_sum (length p.low) w (sym count)) met

-- Trees that bound totals.

rows_met : (p : DesignProblem) (rows : List Row) (w : List ℕ) → IsProblem p → All (IsRow p) rows → IsFit p w → All (Met w) (forms_of_rows p rows)
rows_met p rows w kept true_rows fit k d k_in =
    let met = fit_meets p rows w kept true_rows fit k in
    subst (Met w) (get_same (forms_of_rows p rows) k k_in d) met
  where
    get_same : (fs : List Form) (k : ℕ) → k < length fs → (d : Form) → form_at fs k ≡ slice_index_or fs k d
    get_same [] k k_in d = absurd (omega arith)
    get_same (f ∷ fs) zero k_in d = refl
    get_same (f ∷ fs) (suc k) k_in d = get_same fs k (omega arith) d

take_all_of : {X : Type 0} (P : X → Type 0) (xs : List X) (x : X) (k : ℕ) → All P xs → P x → All P (take k xs ++ x ∷ drop k xs)
take_all_of P xs x zero all here = All-cons P x xs here all
take_all_of P [] x (suc k) all here = All-cons P x [] here (All-nil P)
take_all_of P (y ∷ xs) x (suc k) all here = All-cons P y (take k xs ++ x ∷ drop k xs) (All-head P y xs all) (take_all_of P xs x k (All-tail P y xs all) here)

pub forms_met : (P : Form → Type 0) (fs : List Form) (f : Form) (before : Option ℕ) → All P fs → P f → All P (with_form before f fs)
forms_met P fs f None all here = all
forms_met P fs f (Some k) all here = take_all_of P fs f k all here

-- a closed tree leaves no costs of the box that meet its forms
pub none_left : (p : DesignProblem) (cap : ℕ) (forms : List Form) (tree : List Entry) (w : List ℕ) →
    IsSoundTree forms (capped (box_of p) cap) tree → IsClosed tree → IsFitWithin p cap w → All (Met w) forms → ⊥
none_left p cap forms tree w sound closed fit met =
    closed_tree_none forms (capped (box_of p) cap) tree sound closed w (in_capped p cap w fit) (meets_all forms w met)

-- a closed tree by the forms that were known: fit costs within the cap have a greater total than the bound
pub refuted_bounds : (p : DesignProblem) (top nodes cap most : ℕ) (t : TotalTree) → IsProblem p →
    IsRefutedWithin p top nodes cap most t → (w : List ℕ) → IsFitWithin p cap w → most < total w
refuted_bounds p top nodes cap most t kept refuted w fit =
    elim (cases_lt most (total w)) [
      | inl above ↦ above
      | inr within ↦
          (let forms = forms_with_total p most t.rows.items t.before in
          let met : All (Met w) forms = forms_met (Met w) (forms_of_rows p t.rows.items) (form_of_total p most) t.before
          (rows_met p t.rows.items w kept refuted.tree.placed.are_rows fit.0)
          (total_met p most w fit.0.within.low_count within) in
          absurd (none_left p cap forms t.tree w
          (earnest_tree_sound _ top forms (capped (box_of p) cap) t.tree refuted.tree.tree.earnest)
          refuted.closed fit met))
    ]

-- what is kept bounds the total of fit costs within the cap
pub kept_bounds : (p : DesignProblem) (top nodes cap least : ℕ) (kept : Option TotalTree) → IsProblem p →
    IsKeptBelowTotal p top nodes cap least kept → (w : List ℕ) → IsFitWithin p cap w → least ≤ total w
kept_bounds p top nodes cap least None problem floor w fit = let low = from_lows p w fit.0 in omega (arith, floor)
kept_bounds p top nodes cap least (Some t) problem kept w fit =
    let above = refuted_bounds p top nodes cap kept.0 t problem kept.2 w fit in
    omega (arith, kept.1)

-- best costs have one greatest cost
pub best_within : (p : DesignProblem) (w other : List ℕ) → AreBestCosts p w → AreBestCosts p other → IsFitWithin p (greatest_cost w) other
best_within p w other best other_best = (other_best.fit, other_best.least w best.fit)
