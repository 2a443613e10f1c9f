-- Rounds of a relaxation: the forms fit the box, the tableau that is kept holds the first forms of a pool that grew, and
-- each new form is one that was missing.
use Rattle.std.proofs.Common.{◌≡◌, ℕ, ◌<◌, refl, sym, ◌∙◌, subst, inl, inr, List, ◌++◌, length, Option, None, Some, Ok, arith}
use Rattle.std.specs.Prelude.{All, Contains, Result, Err, IfOk, IfSome}
use Rattle.std.proofs.lemmas.List.{length-append, take-append-le}
use Rattle.std.proofs.lemmas.List.Elements.{Contains-append_cases}
use Rattle.area_graph.specs.declared.Point.{Point}
use Rattle.design_problem.specs.Forms.{Form}
use Rattle.design_problem.specs.declared.boxes.CostBox.{CostBox}
use Rattle.fraction_table.specs.Tableaus.{FitsBox}
use Rattle.form_search.specs.declared.relaxation.Relaxed.{Relaxed}
use Rattle.form_search.specs.declared.held_tableau.HeldTableau.{HeldTableau}
use Rattle.form_search.specs.Sources.{Grows, IsTrueForm}
use Rattle.form_search.specs.Points.{IsCostsBox}
use Rattle.form_search.specs.Tables.{IsHeld, IsRelaxation, IsRoundTold, IsTableauKept, StandsAt}
use Rattle.form_search.specs.NextEntries.{HasNew}
use Rattle.form_search.proofs.CostPoints.{low_values}
use Rattle.form_search.proofs.MissingForms.{missing, missing_falls}

-- true forms fit a box of costs
pub fit_box : (n : ℕ) (accepted : Point → Type 0) (box : CostBox) (forms : List Form) → IsCostsBox n box →
    All (IsTrueForm n accepted) forms → All (FitsBox box) forms
fit_box n accepted box forms kept hold k d k_in =
    let form = hold k d k_in in
    record {
      count = form.count ∙ sym kept.is_box.low_count;
      sizes = form.sizes;
      corner = form.values box.low kept.is_box.low_count (low_values n box kept);
    }

-- a tableau holds the first forms of a pool with more forms too
pub held_more : (top n : ℕ) (old new more : List Form) (table : HeldTableau) → new ≡ old ++ more → IsHeld top n old table → IsHeld top n new table
held_more top n old new more table same held = subst (λ (forms : List Form). IsHeld top n forms table) (sym same) (record {
  same_top = held.same_top;
  noted_top = held.noted_top;
  width = held.width;
  noted_width = held.noted_width;
  taken = held.taken;
  few = let longer = length-append old more in let few = held.few in omega arith;
  rows = held.rows ∙ sym (take-append-le held.taken old more held.few);
  all = held.all;
})

-- so does one that is kept
pub kept_more : (old new more : List Form) (kept : Option HeldTableau) → new ≡ old ++ more → IsTableauKept old kept → IsTableauKept new kept
kept_more old new more None same is = tt
kept_more old new more (Some table) same is = held_more table.top table.variables old new more table same is

-- and one that stands over a box stands there with more forms
pub stands_more : (top : ℕ) (box : CostBox) (old new more : List Form) (table : HeldTableau) → new ≡ old ++ more →
    StandsAt top box old table → StandsAt top box new table
stands_more top box old new more table same stands = record {
  over = record { is_held = held_more top (length box.low) old new more table same stands.over.is_held; costs = stands.over.costs };
  going = stands.going;
}

-- what a round comes to where the tableau stands over the box, by what the source answers
pub round_told : {E : Type 0} (accepted : Point → Type 0) (top : ℕ) (box : CostBox) (old new more : List Form) (point : Point)
    (table : HeldTableau) (result : Result (Option Relaxed) E) → new ≡ old ++ more → StandsAt top box old table →
    IfOk result (λ found. IfSome found (IsRelaxation accepted top box new point)) → (result ≡ Ok None → HasNew old new) →
    IfOk result (IsRoundTold accepted top box old new point table)
round_told accepted top box old new more point table (Ok None) same stands told has_new =
    record { has_new = has_new refl; stands = stands_more top box old new more table same stands }
round_told accepted top box old new more point table (Ok (Some relaxed)) same stands told has_new =
    record { relaxation = told; is_held = (stands_more top box old new more table same stands).over.is_held }
round_told accepted top box old new more point table (Err e) same stands told has_new = tt

-- it stands there by its own top
pub stands_own : (top : ℕ) (box : CostBox) (forms : List Form) (table : HeldTableau) → StandsAt top box forms table → StandsAt table.tableau.top box forms table
stands_own top box forms table stands = subst (λ (t : ℕ). StandsAt t box forms table) (sym stands.over.is_held.same_top) stands

-- what it was started for is its own
pub held_own : (top n : ℕ) (forms : List Form) (table : HeldTableau) → IsHeld top n forms table → IsHeld table.top table.variables forms table
held_own top n forms table held =
    subst (λ (t : ℕ). IsHeld t table.variables forms table) (sym held.noted_top)
    (subst (λ (m : ℕ). IsHeld top m forms table) (sym held.noted_width) held)

-- what a call brought is a true form
pub new_true : (IsTrue : Form → Type 0) (old new : List Form) (form : Form) → Grows IsTrue old new → Contains new form → (Contains old form → ⊥) → IsTrue form
new_true IsTrue old new form grows is_new not_old =
    elim (Contains-append_cases old grows.more form (subst (λ (forms : List Form). Contains forms form) grows.same is_new)) [
      | inl before ↦ absurd (not_old before)
      | inr later ↦ subst IsTrue later.2 (grows.more_true later.0 form later.1)
    ]

-- so fewer possible forms are missing
pub new_falls : (IsTrue : Form → Type 0) (possible_forms old new : List Form) →
    ((form : Form) → IsTrue form → Contains possible_forms form) → Grows IsTrue old new → HasNew old new →
    missing possible_forms new < missing possible_forms old
new_falls IsTrue possible_forms old new listed grows has =
    missing_falls possible_forms old new has.form grows.more grows.same
    (listed has.form (new_true IsTrue old new has.form grows has.is_new has.not_old)) has.is_new has.not_old
