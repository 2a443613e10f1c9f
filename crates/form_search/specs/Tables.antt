-- What a tableau that is kept holds, and what it tells of a box. No public clause cites it.
use Rattle.std.specs.Prelude.{◌≡◌, ◌≢◌, ℕ, ◌+◌, ◌^◌, ◌<◌, ◌≤◌, List, [], length, take, Option, Some, None}
use Rattle.area_graph.specs.declared.Point.{Point}
use Rattle.design_problem.specs.Forms.{Form, AreMet}
use Rattle.design_problem.specs.declared.boxes.CostBox.{CostBox}
use Rattle.design_problem.specs.declared.tree.WideAt.{WideAt}
use Rattle.design_problem.specs.Boxes.{Refutes}
use Rattle.design_problem.specs.Steps.{IsStepTooWide}
use Rattle.design_problem.specs.Earnest.{IsLeastPoint}
use Rattle.design_problem.specs.Text.{IsPrintedRatio}
use Rattle.fraction_table.specs.Tableaus.{IsGoing, wide_at}
use Rattle.fraction_table.specs.declared.stage.SimplexStop.{SimplexStop}
use Rattle.fraction_table.specs.declared.stage.SimplexStop.TheVariants.{TooWide as StepTooWide, OutOfMemory}
use Rattle.exact_simplex.specs.Actives.{TableauState}
use Rattle.form_search.specs.declared.held_tableau.HeldTableau.{HeldTableau}
use Rattle.form_search.specs.declared.held_tableau.Least.{Least}
use Rattle.form_search.specs.declared.held_tableau.Least.TheVariants.{Point as AtPoint, Refuted, Wide}
use Rattle.form_search.specs.declared.relaxation.Relaxed.{Relaxed}
use Rattle.form_search.specs.declared.relaxation.Relaxed.TheVariants.{Accepted, Refuted as NoneIsMet, Wide as TooWide}
use Rattle.form_search.specs.Points.{IsLeastOf}
use Rattle.form_search.specs.NextEntries.{HasNew}

-- A tableau in n variables that holds the first forms of the pool; where a step has stopped it, maybe one more than it
-- counts.
pub record IsHeld (top n : ℕ) (forms : List Form) (table : HeldTableau) : Type 0 where
  pub same_top : table.tableau.top ≡ top
  pub noted_top : table.top ≡ top
  pub width : length table.tableau.costs.low ≡ n
  pub noted_width : table.variables ≡ n
  pub taken : ℕ
  pub few : taken ≤ length forms
  pub rows : table.tableau.rows ≡ take taken forms
  pub all : IsGoing table.tableau.stage → taken ≡ table.held

-- the tableau that is kept beside a pool, if there is one, holds the pool's first forms
abbrev pub IsTableauKept : List Form → Option HeldTableau → Type 0
IsTableauKept forms None = Unit {0}
IsTableauKept forms (Some table) = IsHeld table.top table.variables forms table

-- a tableau that is kept stands over this box, with the first forms of the pool
pub record IsHeldOver (top : ℕ) (box : CostBox) (forms : List Form) (table : HeldTableau) : Type 0 where
  pub is_held : IsHeld top (length box.low) forms table
  pub costs : table.tableau.costs ≡ box

-- a tableau that is kept stands over this box, with the first forms of the pool, and no step has stopped it
pub record StandsAt (top : ℕ) (box : CostBox) (forms : List Form) (table : HeldTableau) : Type 0 where
  pub over : IsHeldOver top box forms table
  pub going : IsGoing table.tableau.stage

-- a tableau stays over its box, with the forms that it holds
pub record KeepsRows (old new : TableauState) : Type 0 where
  pub top : new.top ≡ old.top
  pub costs : new.costs ≡ old.costs
  pub rows : new.rows ≡ old.rows

-- a held tableau keeps its rows, how many forms it holds, and for which size of numbers and how many variables it was
-- started
pub record KeepsForms (old new : HeldTableau) : Type 0 where
  pub tableau : KeepsRows old.tableau new.tableau
  pub held : new.held ≡ old.held
  pub noted_top : new.top ≡ old.top
  pub noted_width : new.variables ≡ old.variables

-- a step that is too wide, as it is printed
pub record IsPrintedWide (top : ℕ) (box : CostBox) (forms : List Form) (wide : WideAt) : Type 0 where
  pub too_wide : IsStepTooWide top box forms wide
  pub left : IsPrintedRatio wide.left
  pub right : IsPrintedRatio wide.right
  pub some : wide.basis ≢ []

-- multipliers that refute the box, of few forms
pub record RefutesBy (box : CostBox) (forms : List Form) (parts : List (ℕ × ℕ)) : Type 0 where
  pub refutes : Refutes forms parts box
  pub few : length parts ≤ length box.low + 1

-- what the tableau tells: the least point of the box that meets the forms, multipliers, or a step that is too wide
abbrev pub IsLeastTold : ℕ → CostBox → List Form → Point → Least → Type 0
IsLeastTold top box forms point AtPoint = IsLeastPoint (AreMet forms) box point × (point.scale < 2 ^ 100)
IsLeastTold top box forms point (Refuted parts) = RefutesBy box forms parts
IsLeastTold top box forms point (Wide wide) = IsPrintedWide top box forms wide

-- the step that stopped the work is too wide at the tableau's basis, with the forms that it holds
abbrev pub IsStepTold : CostBox → List Form → TableauState → SimplexStop → Type 0
IsStepTold box forms tableau (StepTooWide wide) = IsStepTooWide tableau.top box tableau.rows (wide_at wide tableau.basis)
IsStepTold box forms tableau OutOfMemory = Unit {0}

-- what the relaxation of a box comes to: its least accepted point, multipliers that refute it, or a step that is too
-- wide
abbrev pub IsRelaxation : (Point → Type 0) → ℕ → CostBox → List Form → Point → Relaxed → Type 0
IsRelaxation accepted top box forms point Accepted = IsLeastOf accepted box point
IsRelaxation accepted top box forms point (NoneIsMet parts) = RefutesBy box forms parts
IsRelaxation accepted top box forms point (TooWide wide) = IsPrintedWide top box forms wide

-- the relaxation has come to its end, and the tableau that it leaves holds the pool's first forms
pub record IsRelaxedWith (accepted : Point → Type 0) (top : ℕ) (box : CostBox) (forms : List Form) (point : Point)
    (table : HeldTableau) (relaxed : Relaxed) : Type 0 where
  pub relaxation : IsRelaxation accepted top box forms point relaxed
  pub is_held : IsHeld top (length box.low) forms table

-- new forms came, and the tableau stands over the box with them
pub record StandsWithNew (top : ℕ) (box : CostBox) (old new : List Form) (table : HeldTableau) : Type 0 where
  pub has_new : HasNew old new
  pub stands : StandsAt top box new table

-- what one round of a relaxation comes to: the relaxation's end, or a further round with new forms
abbrev pub IsRoundTold : (Point → Type 0) → ℕ → CostBox → List Form → List Form → Point → HeldTableau → Option Relaxed → Type 0
IsRoundTold accepted top box old new point table None = StandsWithNew top box old new table
IsRoundTold accepted top box old new point table (Some relaxed) = IsRelaxedWith accepted top box new point table relaxed
