-- What a table keeps while its bounds move, and what a move makes of its lines.
use Rattle.std.specs.Prelude.{◌≡◌, ◌≢◌, ℕ, suc, ◌<◌, List, [], ℤ, pos, ◌-ℤ◌, Option, None, Some, map, length, slice_index, slice_index_or, slice_set, Any}
use Rattle.cost_base.specs.declared.StepName.{StepName}
use Rattle.cost_base.specs.declared.StepName.TheVariants.{Add, Mul, Sub}
use Rattle.whole_numbers.specs.Fractions.{Fraction, numbers_of_step, minus, plus, times, whole}
use Rattle.wide_fraction.specs.declared.steps.Wide.{Wide}
use Rattle.design_problem.specs.declared.form.Form.{Form}
use Rattle.design_problem.specs.declared.boxes.CostBox.{CostBox}
use Rattle.design_problem.specs.declared.tree.Member.{Member}
use Rattle.design_problem.specs.declared.tree.Member.TheVariants.{Low, High}
use Rattle.design_problem.specs.Basis.{entry}
use Rattle.fraction_table.specs.declared.table.Table.{Table}
use Rattle.fraction_lines.specs.TableLines.{IsWideStep, nothing}
use Rattle.fraction_lines.specs.Turns.{AreTableLines}
use Rattle.fraction_table.specs.Tableaus.{IsShiftStep, Shift, moved_basis}
use Rattle.fraction_table.specs.ValidTables.{HasRoom, members_of_box}

-- the box has so many lower bounds, and as many upper ones
pub record HasBoundCounts (count : ℕ) (costs : CostBox) : Type 0 where
  pub low_count : length costs.low ≡ count
  pub high_count : length costs.high ≡ count

-- a form that is less by a number
abbrev pub fallen : Form → ℤ → Form
fallen f fall = record { constant = f.constant -ℤ fall; coefficients = f.coefficients }

-- the column of a member in the basis, if it is there
abbrev pub IsColumnOf : List Member → Member → Option ℕ → Type 0
IsColumnOf basis member None = (k : ℕ) → k < length basis → slice_index_or basis k (Low 0 0) ≢ member
IsColumnOf basis member (Some column) = (column < length basis) × (slice_index_or basis column (Low 0 0) ≡ member)

-- the line with its entry in the column, times the fall, put to the constant
abbrev pub raised_line : ℕ → Fraction → List Fraction → List Fraction
raised_line column fall line = slice_set line 0 (plus (entry line 0) (times (entry line (suc column)) fall))

-- The lines after a bound's form fell: the constant of its own line falls, where it isn't in the basis; else those of
-- all others rise.
abbrev pub shifted_lines : Option ℕ → ℕ → Fraction → List (List Fraction) → List (List Fraction)
shifted_lines None own fall lines =
    slice_set lines own (slice_set (slice_index_or lines own []) 0 (minus (entry (slice_index_or lines own []) 0) fall))
shifted_lines (Some column) own fall lines =
    slice_set (map (raised_line column fall) lines) own (slice_set (slice_index_or (map (raised_line column fall) lines) own []) 0 nothing)

-- the steps by which a line's constant rises
pub data IsRaiseStep (line : List Fraction) (column : ℕ) (fall : Fraction) : StepName → Fraction → Fraction → Type 0 where
  product : IsRaiseStep line column fall Mul (entry line (suc column)) fall
  sum : IsRaiseStep line column fall Add (entry line 0) (times (entry line (suc column)) fall)

-- a step by which some line's constant rises makes a whole number that passes the top
pub record RaisesWide (top : ℕ) (lines : List (List Fraction)) (column : ℕ) (fall : Fraction) (wide : Wide) : Type 0 where
  pub line : ℕ
  pub line_in : line < length lines
  pub is_wide : IsWideStep top (IsRaiseStep (slice_index_or lines line []) column fall) wide.step wide.left wide.right

-- a step by which the lines are shifted makes a whole number that passes the top
abbrev pub ShiftsWide : ℕ → Option ℕ → ℕ → Fraction → List (List Fraction) → Wide → Type 0
ShiftsWide top None own fall lines wide =
    (wide ≡ record { step = Sub; left = entry (slice_index_or lines own []) 0; right = fall }) ×
    Any (λ n. top < n) (numbers_of_step wide.step wide.left wide.right)
ShiftsWide top (Some column) own fall lines wide = RaisesWide top lines column fall wide

-- the basis with another member in the column, if there is one
abbrev pub put_at : Option ℕ → Member → List Member → List Member
put_at None member basis = basis
put_at (Some column) member basis = slice_set basis column member

-- the lines and the basis of a table after a bound moved: its form falls, or the constants of the other lines rise
pub record IsTableShifted (old new : Table) (own : ℕ) (before after : Member) (fall : ℤ) : Type 0 where
  pub column : Option ℕ
  pub found : IsColumnOf old.basis.items before column
  pub basis : new.basis.items ≡ put_at column after old.basis.items
  pub lines : new.lines.items ≡ shifted_lines column own (whole fall) old.lines.items

-- A step by which a bound moves is too wide.
pub record IsShiftedWide (old : Table) (own : ℕ) (before : Member) (fall : ℤ) (wide : Wide) : Type 0 where
  pub column : Option ℕ
  pub found : IsColumnOf old.basis.items before column
  pub is_wide : ShiftsWide old.top column own (whole fall) old.lines.items wide

-- how many lines a table has, how wide they are, and that its lists have room
pub record HasShape (t : Table) : Type 0 where
  pub high : length t.costs.high ≡ length t.costs.low
  pub basis : length t.basis.items ≡ length t.costs.low
  pub lines : AreTableLines t.top (suc (length t.costs.low)) t.lines.items
  pub many : length t.lines.items ≡ length (members_of_box t.costs (length t.rows.items))
  pub room : HasRoom t

-- the two tables have one top, the same rows, and as many variables
pub record KeepsTableLines (old new : Table) : Type 0 where
  pub top : new.top ≡ old.top
  pub rows : new.rows.items ≡ old.rows.items
  pub width : length new.costs.low ≡ length old.costs.low

-- the table has moved to these bounds
pub record IsMoved (old : Table) (costs : CostBox) (new : Table) : Type 0 where
  pub costs_are : new.costs ≡ costs
  pub basis : new.basis.items ≡ moved_basis costs old.basis.items

-- a step of the shift makes a whole number that passes the top
abbrev pub IsWideShift : Table → Shift → Wide → Type 0
IsWideShift t shift wide =
    IsShiftStep t.rows.items t.basis.items shift wide.step wide.left wide.right × Any (λ n. t.top < n) (numbers_of_step wide.step wide.left wide.right)

-- the shift of a lower bound of the table to this bound
abbrev pub low_shift_of : Table → ℕ → ℕ → Shift
low_shift_of t var bound =
    record { costs = t.costs; member = Low var (slice_index t.costs.low var); fall = pos bound -ℤ pos (slice_index t.costs.low var) }

-- the shift of an upper bound of the table to this bound
abbrev pub high_shift_of : Table → ℕ → ℕ → Shift
high_shift_of t var bound =
    record { costs = t.costs; member = High var (slice_index t.costs.high var); fall = pos (slice_index t.costs.high var) -ℤ pos bound }

-- the two tables differ in their lines alone
pub record KeepsAllButLines (old new : Table) : Type 0 where
  pub top : new.top ≡ old.top
  pub costs : new.costs ≡ old.costs
  pub rows : new.rows ≡ old.rows
  pub basis : new.basis ≡ old.basis
  pub quotients : new.quotients ≡ old.quotients
  pub scratch : new.scratch ≡ old.scratch
