-- The entries that come next, by one form or by a tableau.
use Rattle.std.proofs.Common.{◌≡◌, ℕ, zero, suc, ◌^◌, ◌<◌, refl, sym, subst, List, [], ◌∷◌, length, take, drop, arith, take-append-drop}
use Rattle.std.specs.Prelude.{pos, ◌<ℤ◌, All}
use Rattle.area_graph.specs.declared.Point.{Point}
use Rattle.design_problem.specs.Forms.{Form}
use Rattle.design_problem.specs.declared.boxes.CostBox.{CostBox}
use Rattle.design_problem.specs.declared.tree.WideAt.{WideAt}
use Rattle.design_problem.specs.declared.tree.Entry.{Entry}
use Rattle.design_problem.specs.declared.tree.Entry.TheVariants.{Tighten, Split, Halve, Refute, Undone}
use Rattle.design_problem.specs.Forms.{form_at}
use Rattle.design_problem.specs.Boxes.{IsBox, greatest}
use Rattle.design_problem.specs.Steps.{IsStepTooWide}
use Rattle.design_problem.specs.Earnest.{IsLeastPoint, OpenPlace}
use Rattle.design_problem.proofs.Renumbering.{too_wide_kept}
use Rattle.form_search.specs.declared.held_tableau.HeldTableau.{HeldTableau}
use Rattle.cut_advisors.specs.declared.candidate.Candidate.{Candidate}
use Rattle.form_search.specs.Points.{IsFractional}
use Rattle.form_search.specs.Tables.{IsHeld, IsPrintedWide}
use Rattle.form_search.specs.NextEntries.{IsNextEntry, IsNextRow, IsSplitAt}
use Rattle.form_search.proofs.CostPoints.{candidate_cuts, candidate_splits, refutes_one}

-- the Refute by one form
pub next_refute : (forms : List Form) (row : ℕ) (place : OpenPlace) (form : Form) (costs : CostBox) (entry : Entry) →
    row < length forms → form_at forms row ≡ form → costs ≡ place.box → greatest form costs <ℤ pos 0 →
    entry ≡ Refute ((row, 1) ∷ []) → IsNextRow forms place entry
next_refute forms row place form costs entry row_in same there negative is =
    let here : greatest (form_at forms row) place.box <ℤ pos 0 =
    subst (λ (b : CostBox). greatest (form_at forms row) b <ℤ pos 0) there (subst (λ (f : Form). greatest f costs <ℤ pos 0) (sym same) negative) in
    subst (IsNextRow forms place) (sym is) (refutes_one forms row place.box row_in here, ((some, small), omega arith))
  where
    some : (let ps : List (ℕ × ℕ) = (row, 1) ∷ [] in ps) ≡ [] → ⊥
    some e = cc

    small : All {X = ℕ × ℕ} (λ part. part.1 < 10 ^ 31) ((row, 1) ∷ [])
    small zero d k_in = omega arith
    small (suc k) d k_in = absurd (omega arith)

-- an entry by one form may come next, whatever is accepted
pub row_next : (accepted : Point → Type 0) (top : ℕ) (forms : List Form) (place : OpenPlace) (entry : Entry) →
    IsNextRow forms place entry → IsNextEntry accepted top forms place entry
row_next accepted top forms place (Tighten var side value row) next = record { sound = next.0; earnest = next.1; short = (tt, tt); closed = refl }
row_next accepted top forms place (Split var value) next = absurd next
row_next accepted top forms place (Halve var value wide) next = absurd next
row_next accepted top forms place (Refute parts) next = record { sound = next.0; earnest = tt; short = next.1; closed = refl }
row_next accepted top forms place Undone next = absurd next

pub all_take : (P : Form → Type 0) (n : ℕ) (forms : List Form) → All P forms → All P (take n forms)
all_take P zero forms all k d k_in = absurd (omega arith)
all_take P (suc n) [] all k d k_in = absurd (omega arith)
all_take P (suc n) (f ∷ forms) all zero d k_in = all 0 f (omega arith)
all_take P (suc n) (f ∷ forms) all (suc k) d k_in = all_take P n forms (λ i e i_in. all (suc i) e (omega (arith, i_in))) k d (omega arith)

-- a step that is too wide with the forms that a tableau holds is too wide with all forms
pub printed_held : (top n : ℕ) (box : CostBox) (forms : List Form) (table : HeldTableau) (wide : WideAt) →
    IsHeld top n forms table → table.tableau.costs ≡ box →
    IsPrintedWide table.tableau.top table.tableau.costs table.tableau.rows wide → IsPrintedWide top box forms wide
printed_held top n box forms table wide is_held costs printed = record {
  too_wide =
      subst (λ (fs : List Form). IsStepTooWide top box fs wide) (take-append-drop is_held.taken forms)
      (too_wide_kept top box (take is_held.taken forms) (drop is_held.taken forms) wide
      (subst (λ (fs : List Form). IsStepTooWide top box fs wide) is_held.rows
      (subst (λ (b : CostBox). IsStepTooWide top b table.tableau.rows wide) costs
      (subst (λ (t : ℕ). IsStepTooWide t table.tableau.costs table.tableau.rows wide) is_held.same_top printed.too_wide))));
  left = printed.left;
  right = printed.right;
  some = printed.some;
}

-- the Split at a candidate of the least accepted point
pub next_split : (accepted : Point → Type 0) (top n : ℕ) (forms : List Form) (place : OpenPlace) (point : Point)
    (candidate : Candidate) → IsBox n place.box → IsLeastPoint accepted place.box point →
    IsFractional place.box point candidate → IsNextEntry accepted top forms place (Split candidate.var candidate.floor)
next_split accepted top n forms place point candidate kept least fractional = record {
  sound = candidate_cuts n place.box point candidate kept least.inside fractional;
  earnest = candidate_splits accepted place.box point candidate least fractional;
  short = (tt, tt);
  closed = refl;
}

pub next_split_at : (accepted : Point → Type 0) (top n : ℕ) (forms : List Form) (place : OpenPlace) (point : Point)
    (entry : Entry) → IsBox n place.box → IsLeastPoint accepted place.box point → IsSplitAt place.box point entry →
    IsNextEntry accepted top forms place entry
next_split_at accepted top n forms place point entry kept least split =
    subst (IsNextEntry accepted top forms place) (sym split.same) (next_split accepted top n forms place point split.candidate kept least split.fractional)
