-- What a tableau holds, and what its calls may answer and leave.
use Rattle.std.specs.Prelude.{◌≡◌, ℕ, suc, ◌+◌, ◌^◌, ◌<◌, ◌≤◌, ◌⊎◌, List, [], ◌∷◌, ◌++◌, ℤ, pos, ◌-ℤ◌, nat_abs, map, length, take, drop, slice_get, slice_index, All, Any, Some}
use Rattle.cost_base.specs.Lists.{numbers_from}
use Rattle.cost_base.specs.declared.StepName.{StepName}
use Rattle.cost_base.specs.declared.StepName.TheVariants.{Add, Sub, Mul}
use Rattle.whole_numbers.specs.Fractions.{Fraction, whole, times, numbers_of_step}
use Rattle.wide_fraction.specs.declared.steps.Wide.{Wide}
use Rattle.area_graph.specs.declared.Point.{Point}
use Rattle.design_problem.specs.declared.form.Form.{Form}
use Rattle.design_problem.specs.declared.boxes.CostBox.{CostBox}
use Rattle.design_problem.specs.declared.tree.Member.{Member}
use Rattle.design_problem.specs.declared.tree.Member.TheVariants.{Low, High, Row}
use Rattle.design_problem.specs.declared.tree.WideAt.{WideAt}
use Rattle.design_problem.specs.Forms.{value_for_costs, AreMet}
use Rattle.design_problem.specs.Boxes.{IsPointOf}
use Rattle.design_problem.specs.Basis.{HasEntries, IsFormOf, entry, low_member}
use Rattle.design_problem.specs.Steps.{IsStepTooWide, ratio_of}
use Rattle.fraction_table.specs.declared.stage.Stage.{Stage}
use Rattle.fraction_table.specs.declared.stage.Stage.TheVariants.{Open, Ended, Stopped}
use Rattle.fraction_table.specs.declared.stage.Solved.{Solved}
use Rattle.fraction_table.specs.declared.stage.Solved.TheVariants.{Feasible, Refuted}
use Rattle.fraction_table.specs.declared.stage.SimplexStop.{SimplexStop}
use Rattle.fraction_table.specs.declared.stage.SimplexStop.TheVariants.{TooWide, OutOfMemory}

-- what contracts see of a tableau: the greatest size of a number, the box, the forms of the rows as they were added,
-- the members of the basis, and how far the work on it is
pub record Held : Type 0 where
  pub top : ℕ
  pub costs : CostBox
  pub rows : List Form
  pub basis : List Member
  pub stage : Stage

-- the form of a row that a tableau over the box takes
pub record FitsBox (costs : CostBox) (row : Form) : Type 0 where
  pub count : length row.coefficients ≡ length costs.low
  pub sizes : All (λ c. nat_abs c ≤ 2 ^ 26) row.coefficients
  pub corner : nat_abs (value_for_costs row costs.low) < 2 ^ 27

-- the basis at the start: x - low for each variable
abbrev pub starting : CostBox → List Member
starting costs = map (low_member costs) (numbers_from 0 (length costs.low))

-- no step has stopped the tableau
abbrev pub IsGoing : Stage → Type 0
IsGoing Open = Unit {0}
IsGoing (Ended solved) = Unit {0}
IsGoing (Stopped wide) = ⊥

-- a step that is too wide, with the basis at which it is due
abbrev pub wide_at : Wide → List Member → WideAt
wide_at wide basis = record { step = wide.step; left = ratio_of wide.left; right = ratio_of wide.right; basis = basis }

-- A call stopped a tableau: its step is too wide, at the basis that the call leaves.
pub record CallStops (old : Held) (rows : List Form) (new : Held) (wide : Wide) : Type 0 where
  pub going : IsGoing old.stage
  pub new_is : new ≡ record { top = old.top; costs = old.costs; rows = rows; basis = new.basis; stage = Stopped wide }
  pub too_wide : IsStepTooWide old.top old.costs rows (wide_at wide new.basis)

-- A call of a tableau told a step that is too wide: where one had stopped the tableau before, it stays as it was and
-- that step is told again; else the call stopped it.
abbrev pub IsTableauStopped : Held → List Form → Held → Wide → Type 0
IsTableauStopped old rows new wide = ((old.stage ≡ Stopped wide) × (new ≡ old)) ⊎ CallStops old rows new wide

-- what a call leaves that was to add a row and failed: a stopped tableau, or the one before where memory was wanting
abbrev pub IsRowRefused : Held → Form → Held → SimplexStop → Type 0
IsRowRefused old row new (TooWide wide) = IsTableauStopped old (old.rows ++ row ∷ []) new wide × (new.basis ≡ old.basis)
IsRowRefused old row new OutOfMemory = new ≡ old

-- a call that changes nothing failed: it told a step that is too wide at the present basis, or memory was wanting
abbrev pub IsTableauTold : Held → SimplexStop → Type 0
IsTableauTold held (TooWide wide) = IsStepTooWide held.top held.costs held.rows (wide_at wide held.basis)
IsTableauTold held OutOfMemory = Unit {0}

-- what a tableau found: some rational point of the box meets the rows, or, where a form is refuted, none does
abbrev pub IsSolved : CostBox → List Form → Solved → Type 0
IsSolved costs rows Feasible = (point : Point) × (IsPointOf costs point × AreMet rows point)
IsSolved costs rows (Refuted form) = (point : Point) → IsPointOf costs point → AreMet rows point → ⊥

-- a refuted form's number is one of those of the box's forms: x - low and high - x for each variable, and the rows
abbrev pub IsAmongForms : CostBox → List Form → Solved → Type 0
IsAmongForms costs rows Feasible = Unit {0}
IsAmongForms costs rows (Refuted form) = form < length costs.low + length costs.low + length rows

-- a member with the bound of another box
abbrev pub moved_member : CostBox → Member → Member
moved_member costs (Low var bound) = Low var (slice_index costs.low var)
moved_member costs (High var bound) = High var (slice_index costs.high var)
moved_member costs (Row row) = Row row

-- the basis with the bounds of another box
abbrev pub moved_basis : CostBox → List Member → List Member
moved_basis costs basis = map (moved_member costs) basis

-- the box of which so many low and high bounds have moved
abbrev pub between : CostBox → CostBox → ℕ → ℕ → CostBox
between old new lows highs =
    record { low = take lows new.low ++ drop lows old.low; high = take highs new.high ++ drop highs old.high }

-- a bound that moves: the box before, the bound's form there, and by how much that falls
pub record Shift : Type 0 where
  pub costs : CostBox
  pub member : Member
  pub fall : ℤ

-- the move of a variable's lower bound, once all bounds of the variables before it have moved
abbrev pub low_shift : CostBox → CostBox → ℕ → Shift
low_shift old new var =
    record {
      costs = between old new var var;
      member = Low var (slice_index old.low var);
      fall = pos (slice_index new.low var) -ℤ pos (slice_index old.low var);
    }

-- the move of a variable's upper bound, once its lower bound and all bounds of the variables before it have moved
abbrev pub high_shift : CostBox → CostBox → ℕ → Shift
high_shift old new var =
    record {
      costs = between old new (suc var) var;
      member = High var (slice_index old.high var);
      fall = pos (slice_index old.high var) -ℤ pos (slice_index new.high var);
    }

-- The steps of a shift: its form's constant falls; or, where the form is in the basis, the others' constants rise.
pub data IsShiftStep (rows : List Form) (basis : List Member) (shift : Shift) : StepName → Fraction → Fraction → Type 0 where
  constant : (es : List Fraction) → HasEntries shift.costs rows (moved_basis shift.costs basis) shift.member es →
      IsShiftStep rows basis shift Sub (entry es 0) (whole shift.fall)
  product : (j : ℕ) (f : Member) (fs : List Fraction) → slice_get (moved_basis shift.costs basis) j ≡ Some shift.member →
      IsFormOf shift.costs rows f → HasEntries shift.costs rows (moved_basis shift.costs basis) f fs →
      IsShiftStep rows basis shift Mul (entry fs (suc j)) (whole shift.fall)
  sum : (j : ℕ) (f : Member) (fs : List Fraction) → slice_get (moved_basis shift.costs basis) j ≡ Some shift.member →
      IsFormOf shift.costs rows f → HasEntries shift.costs rows (moved_basis shift.costs basis) f fs →
      IsShiftStep rows basis shift Add (entry fs 0) (times (entry fs (suc j)) (whole shift.fall))

-- a step of the move to another box makes a whole number that passes the top
pub record IsWideMove (old : Held) (costs : CostBox) : Type 0 where
  pub var : ℕ
  pub var_in : var < length costs.low
  pub step : StepName
  pub left : Fraction
  pub right : Fraction
  pub is_step : IsShiftStep old.rows old.basis (low_shift old.costs costs var) step left right
      ⊎ IsShiftStep old.rows old.basis (high_shift old.costs costs var) step left right
  pub passes : Any (λ n. old.top < n) (numbers_of_step step left right)

-- a tableau over another box with the same rows and this basis
abbrev pub rebased : Held → CostBox → List Member → Held
rebased old costs basis = record { top = old.top; costs = costs; rows = old.rows; basis = basis; stage = Open }

-- The basis keeps its members, with the new bounds; only where a step of the move is too wide is it the starting one.
abbrev pub IsRebased : Held → CostBox → Held → Type 0
IsRebased old costs new =
    (new ≡ rebased old costs (moved_basis costs old.basis)) ⊎ (IsWideMove old costs × (new ≡ rebased old costs (starting costs)))
