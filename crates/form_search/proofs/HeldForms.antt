-- A tableau that is kept while the work on it goes on: rows join those that it holds, and it is solved.
use Rattle.std.proofs.Common.{◌≡◌, ℕ, ◌+◌, ◌<◌, ◌≤◌, refl, sym, ◌∙◌, ap, subst, inl, inr, List, [], ◌∷◌, ◌++◌, length, take, get_or, Ok, arith}
use Rattle.std.specs.Prelude.{Result, Err, IfErr, IfOk, OnOk}
use Rattle.std.proofs.lemmas.List.{take_all, take_more}
use Rattle.wide_fraction.specs.declared.steps.Wide.{Wide}
use Rattle.area_graph.specs.declared.Point.{Point}
use Rattle.design_problem.specs.Forms.{Form}
use Rattle.design_problem.specs.declared.boxes.CostBox.{CostBox}
use Rattle.design_problem.specs.declared.tree.Member.{Member}
use Rattle.design_problem.specs.Steps.{IsStepTooWide}
use Rattle.fraction_table.specs.declared.stage.SimplexStop.{SimplexStop}
use Rattle.fraction_table.specs.declared.stage.SimplexStop.TheVariants.{TooWide, OutOfMemory}
use Rattle.fraction_table.specs.declared.stage.Stage.{Stage}
use Rattle.fraction_table.specs.declared.stage.Stage.TheVariants.{Stopped}
use Rattle.fraction_table.specs.Tableaus.{Held, IsGoing, IsRowRefused, IsTableauStopped, wide_at}
use Rattle.exact_simplex.specs.Actives.{TableauState, held_by}
use Rattle.form_search.specs.declared.held_tableau.HeldTableau.{HeldTableau}
use Rattle.form_search.specs.declared.held_tableau.Least.{Least}
use Rattle.form_search.specs.Tables.{IsHeld, IsHeldOver, IsLeastTold, IsStepTold, KeepsForms, KeepsRows, StandsAt}

-- what holds whatever a result is
pub on_ok_anyway : {T E P : Type 0} (result : Result T E) → P → OnOk result P
on_ok_anyway (Ok x) is = is
on_ok_anyway (Err e) is = tt

-- all forms are held
pub all_rows : (top : ℕ) (box : CostBox) (forms : List Form) (table : HeldTableau) → StandsAt top box forms table →
    table.held ≡ length forms → table.tableau.rows ≡ forms
all_rows top box forms table stands all =
    let held = stands.over.is_held in
    let taken : held.taken ≡ length forms = held.all stands.going ∙ all in
    held.rows ∙ take_all held.taken forms (omega (arith, taken))

-- one more form is held
row_over : (top : ℕ) (box : CostBox) (forms : List Form) (old new : HeldTableau) (row : ℕ) (d : Form)
    (basis : List Member) (stage : Stage) → StandsAt top box forms old → old.held ≡ row → row < length forms →
    held_by new.tableau ≡ record {
      top = old.tableau.top;
      costs = old.tableau.costs;
      rows = old.tableau.rows ++ get_or forms row d ∷ [];
      basis = basis;
      stage = stage;
    } → new.top ≡ old.top → new.variables ≡ old.variables → (IsGoing stage → new.held ≡ row + 1) → IsHeldOver top box forms new
row_over top box forms old new row d basis stage stands at row_in is noted_top noted_width held =
    let before = stands.over.is_held in
    let taken : before.taken ≡ row = before.all stands.going ∙ at in
    let costs : new.tableau.costs ≡ old.tableau.costs = ap (λ (h : Held). h.costs) is in
    record {
      is_held = record {
        same_top = ap (λ (h : Held). h.top) is ∙ before.same_top;
        noted_top = noted_top ∙ before.noted_top;
        width = ap (λ (b : CostBox). length b.low) costs ∙ before.width;
        noted_width = noted_width ∙ before.noted_width;
        taken = row + 1;
        few = omega (arith, row_in);
        rows = ap (λ (h : Held). h.rows) is
            ∙ ap (λ (fs : List Form). fs ++ get_or forms row d ∷ []) (before.rows ∙ ap (λ (n : ℕ). take n forms) taken)
            ∙ sym (take_more forms row d row_in);
        all = λ goes. sym (held (subst IsGoing (ap (λ (h : Held). h.stage) is) goes));
      };
      costs = costs ∙ stands.over.costs;
    }

pub row_held : (top : ℕ) (box : CostBox) (forms : List Form) (old new : HeldTableau) (row : ℕ) (d : Form)
    (basis : List Member) (stage : Stage) → StandsAt top box forms old → old.held ≡ row → row < length forms → IsGoing stage →
    held_by new.tableau ≡ record {
      top = old.tableau.top;
      costs = old.tableau.costs;
      rows = old.tableau.rows ++ get_or forms row d ∷ [];
      basis = basis;
      stage = stage;
    } → new.held ≡ row + 1 → new.top ≡ old.top → new.variables ≡ old.variables → StandsAt top box forms new
row_held top box forms old new row d basis stage stands at row_in going is held noted_top noted_width = record {
  over = row_over top box forms old new row d basis stage stands at row_in is noted_top noted_width (λ goes. held);
  going = subst IsGoing (sym (ap (λ (h : Held). h.stage) is)) going;
}

-- a tableau that is solved keeps its forms
pub solved_keeps : (old new : TableauState) (basis : List Member) (stage : Stage) →
    held_by new ≡ record { top = old.top; costs = old.costs; rows = old.rows; basis = basis; stage = stage } → KeepsRows old new
solved_keeps old new basis stage is = record {
  top = ap (λ (h : Held). h.top) is;
  costs = ap (λ (h : Held). h.costs) is;
  rows = ap (λ (h : Held). h.rows) is;
}

-- so does one that a step stopped
pub stopped_keeps : (old new : TableauState) (wide : Wide) → IsTableauStopped (held_by old) old.rows (held_by new) wide → KeepsRows old new
stopped_keeps old new wide (inl same) = solved_keeps old new old.basis old.stage same.1
stopped_keeps old new wide (inr stops) = solved_keeps old new new.basis (Stopped wide) stops.new_is

-- and the step is too wide there, where none had stopped it before
pub stopped_told : (old new : TableauState) (wide : Wide) → IsGoing old.stage →
    IsTableauStopped (held_by old) old.rows (held_by new) wide → IsStepTooWide new.top old.costs new.rows (wide_at wide new.basis)
stopped_told old new wide going (inl same) = absurd (subst IsGoing same.0 going)
stopped_told old new wide going (inr stops) =
    let keeps = stopped_keeps old new wide (inr stops) in
    subst (λ (t : ℕ). IsStepTooWide t old.costs new.rows (wide_at wide new.basis)) (sym keeps.top)
    (subst (λ (fs : List Form). IsStepTooWide old.top old.costs fs (wide_at wide new.basis)) (sym keeps.rows) stops.too_wide)

-- what is told of the forms that are held now is told of those that were held before
pub told_before : {E : Type 0} (old new : TableauState) (point : Point) (result : Result Least E) → KeepsRows old new →
    IfOk result (IsLeastTold new.top new.costs new.rows point) → IfOk result (IsLeastTold old.top old.costs old.rows point)
told_before old new point result keeps told =
    subst (λ (t : ℕ). IfOk result (IsLeastTold t old.costs old.rows point)) keeps.top
    (subst (λ (b : CostBox). IfOk result (IsLeastTold new.top b old.rows point)) keeps.costs
    (subst (λ (fs : List Form). IfOk result (IsLeastTold new.top new.costs fs point)) keeps.rows told))

pub step_before : {T : Type 0} (old new : TableauState) (result : Result T SimplexStop) → KeepsRows old new →
    IfErr result (IsStepTold new.costs new.rows new) → IfErr result (IsStepTold old.costs old.rows new)
step_before old new result keeps told =
    subst (λ (b : CostBox). IfErr result (IsStepTold b old.rows new)) keeps.costs
    (subst (λ (fs : List Form). IfErr result (IsStepTold new.costs fs new)) keeps.rows told)

-- what is told of the forms that are held is told of all, where all are held
pub told_all : {E : Type 0} (top : ℕ) (box : CostBox) (forms : List Form) (table : HeldTableau) (point : Point)
    (result : Result Least E) → StandsAt top box forms table → table.held ≡ length forms →
    IfOk result (IsLeastTold table.tableau.top table.tableau.costs table.tableau.rows point) →
    IfOk result (IsLeastTold top box forms point)
told_all top box forms table point result stands all told =
    subst (λ (t : ℕ). IfOk result (IsLeastTold t box forms point)) stands.over.is_held.same_top
    (subst (λ (b : CostBox). IfOk result (IsLeastTold table.tableau.top b forms point)) stands.over.costs
    (subst (λ (fs : List Form). IfOk result (IsLeastTold table.tableau.top table.tableau.costs fs point))
    (all_rows top box forms table stands all) told))

pub step_all : {T : Type 0} (top : ℕ) (box : CostBox) (forms : List Form) (table : HeldTableau) (now : TableauState)
    (result : Result T SimplexStop) → StandsAt top box forms table → table.held ≡ length forms →
    IfErr result (IsStepTold table.tableau.costs table.tableau.rows now) → IfErr result (IsStepTold box forms now)
step_all top box forms table now result stands all told =
    subst (λ (b : CostBox). IfErr result (IsStepTold b forms now)) stands.over.costs
    (subst (λ (fs : List Form). IfErr result (IsStepTold table.tableau.costs fs now)) (all_rows top box forms table stands all) told)

-- a tableau that keeps its forms holds the pool's first ones as before
pub kept_over : (top : ℕ) (box : CostBox) (forms : List Form) (old new : HeldTableau) → StandsAt top box forms old →
    KeepsForms old new → IsHeldOver top box forms new
kept_over top box forms old new stands kept =
    let held = stands.over.is_held in
    record {
      is_held = record {
        same_top = kept.tableau.top ∙ held.same_top;
        noted_top = kept.noted_top ∙ held.noted_top;
        width = ap (λ (b : CostBox). length b.low) kept.tableau.costs ∙ held.width;
        noted_width = kept.noted_width ∙ held.noted_width;
        taken = held.taken;
        few = held.few;
        rows = kept.tableau.rows ∙ held.rows;
        all = λ goes. held.all stands.going ∙ sym kept.held;
      };
      costs = kept.tableau.costs ∙ stands.over.costs;
    }

-- a row that is refused leaves the forms before it, and maybe its own
pub refused_over : (top : ℕ) (box : CostBox) (forms : List Form) (old new : HeldTableau) (row : ℕ) (d : Form) (stop : SimplexStop) →
    StandsAt top box forms old → old.held ≡ row → row < length forms →
    IsRowRefused (held_by old.tableau) (get_or forms row d) (held_by new.tableau) stop → new.held ≡ old.held →
    new.top ≡ old.top → new.variables ≡ old.variables → IsHeldOver top box forms new
refused_over top box forms old new row d OutOfMemory stands at row_in same held noted_top noted_width =
    kept_over top box forms old new stands (record {
      tableau = solved_keeps old.tableau new.tableau old.tableau.basis old.tableau.stage same;
      held = held;
      noted_top = noted_top;
      noted_width = noted_width;
    })
refused_over top box forms old new row d (TooWide wide) stands at row_in (inl same, basis) held noted_top noted_width =
    absurd (subst IsGoing same.0 stands.going)
refused_over top box forms old new row d (TooWide wide) stands at row_in (inr stops, basis) held noted_top noted_width =
    row_over top box forms old new row d new.tableau.basis (Stopped wide) stands at row_in stops.new_is noted_top noted_width
    (λ going. absurd going)

-- and its step is too wide there
pub refused_told : (top : ℕ) (box : CostBox) (forms : List Form) (old : HeldTableau) (new : TableauState) (row : Form)
    (stop : SimplexStop) → StandsAt top box forms old → IsRowRefused (held_by old.tableau) row (held_by new) stop →
    IsStepTold box forms new stop
refused_told top box forms old new row OutOfMemory stands same = tt
refused_told top box forms old new row (TooWide wide) stands (inl same, basis) = absurd (subst IsGoing same.0 stands.going)
refused_told top box forms old new row (TooWide wide) stands (inr stops, basis) =
    let is = stops.new_is in
    subst (λ (b : CostBox). IsStepTooWide new.top b new.rows (wide_at wide new.basis)) stands.over.costs
    (subst (λ (t : ℕ). IsStepTooWide t old.tableau.costs new.rows (wide_at wide new.basis)) (sym (ap (λ (h : Held). h.top) is))
    (subst (λ (fs : List Form). IsStepTooWide old.tableau.top old.tableau.costs fs (wide_at wide new.basis))
    (sym (ap (λ (h : Held). h.rows) is)) stops.too_wide))

-- what a tableau that stands over a box tells of a list is told of the box and of the pool that the list is
pub told_at : (top : ℕ) (box : CostBox) (forms : List Form) (table : HeldTableau) (read : List Form) (point : Point)
    (told is : Least) → StandsAt top box forms table → read ≡ forms → told ≡ is →
    IsLeastTold top table.tableau.costs read point told → IsLeastTold top box forms point is
told_at top box forms table read point told is stands same said tells =
    subst (λ (l : Least). IsLeastTold top box forms point l) said
    (subst (λ (fs : List Form). IsLeastTold top box fs point told) same
    (subst (λ (b : CostBox). IsLeastTold top b read point told) stands.over.costs tells))

-- so is what it holds
pub held_at : (top : ℕ) (box : CostBox) (forms : List Form) (old new : HeldTableau) (read : List Form) →
    StandsAt top box forms old → read ≡ forms → IsHeldOver top old.tableau.costs read new → IsHeld top (length box.low) forms new
held_at top box forms old new read stands same held =
    subst (λ (b : CostBox). IsHeld top (length b.low) forms new) stands.over.costs
    (subst (λ (fs : List Form). IsHeld top (length old.tableau.costs.low) fs new) same held.is_held)
