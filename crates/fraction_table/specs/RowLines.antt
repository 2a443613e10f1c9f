-- The line of a row that is added, and what a table holds when it is there.
use Rattle.std.specs.Prelude.{◌≡◌, ℕ, suc, ◌<◌, List, [], ◌∷◌, ◌++◌, length, vec_capacity, vec_len}
use Rattle.whole_numbers.specs.Fractions.{Fraction}
use Rattle.wide_fraction.specs.declared.steps.Wide.{Wide}
use Rattle.design_problem.specs.declared.form.Form.{Form}
use Rattle.design_problem.specs.declared.boxes.CostBox.{CostBox}
use Rattle.design_problem.specs.Basis.{entry}
use Rattle.design_problem.specs.Steps.{start_of_sum}
use Rattle.fraction_table.specs.declared.table.Table.{Table}
use Rattle.fraction_lines.specs.Entries.{IsPassing}
use Rattle.fraction_lines.specs.Sums.{IsSumStep, sum_of_terms}
use Rattle.fraction_lines.specs.TableLines.{AreTableNumbers, blank_line}
use Rattle.fraction_table.specs.Tableaus.{FitsBox}

-- the sum of a form's terms at a place, by the lines of x - low for each variable
abbrev pub sum_at_place : CostBox → Form → List (List Fraction) → ℕ → Fraction
sum_at_place costs form lines place = sum_of_terms (start_of_sum costs form place) form.coefficients lines place

-- the line of a row that is added: numbers of the table, and at each place the sum of the form's terms there
pub record IsAddedLine (top : ℕ) (costs : CostBox) (form : Form) (lines : List (List Fraction)) (line : List Fraction) : Type 0 where
  pub long : length line ≡ suc (length costs.low)
  pub sums : (place : ℕ) → place < suc (length costs.low) → entry line place ≡ sum_at_place costs form lines place
  pub numbers : AreTableNumbers top line

-- a form that fits the box, with a line of zeros
pub record IsBlankLine (costs : CostBox) (form : Form) (line : List Fraction) : Type 0 where
  pub fits : FitsBox costs form
  pub blank : line ≡ blank_line (length costs.low)

-- a step by which a form's terms are summed up at some place makes a whole number that passes the top
pub record IsRowStep (top : ℕ) (costs : CostBox) (form : Form) (lines : List (List Fraction)) (wide : Wide) : Type 0 where
  pub place : ℕ
  pub place_in : place < suc (length costs.low)
  pub step : IsSumStep (start_of_sum costs form place) form.coefficients lines place wide
  pub passes : IsPassing top wide

-- the lists of a table have room for one more form and one more line
pub record HasPlace (t : Table) : Type 0 where
  pub rows : vec_len t.rows < vec_capacity t.rows
  pub lines : vec_len t.lines < vec_capacity t.lines

-- the two tables have one top, one box and the same lists; the room of their lists may differ
pub record HoldsSame (old new : Table) : Type 0 where
  pub top : new.top ≡ old.top
  pub costs : new.costs ≡ old.costs
  pub rows : new.rows.items ≡ old.rows.items
  pub basis : new.basis.items ≡ old.basis.items
  pub lines : new.lines.items ≡ old.lines.items
  pub quotients : new.quotients ≡ old.quotients
  pub scratch : new.scratch ≡ old.scratch

-- the new table holds what the old one held, and one row more behind its rows
pub record HoldsRow (old : Table) (form : Form) (new : Table) : Type 0 where
  pub top : new.top ≡ old.top
  pub costs : new.costs ≡ old.costs
  pub rows : new.rows.items ≡ old.rows.items ++ form ∷ []
  pub basis : new.basis.items ≡ old.basis.items
  pub quotients : new.quotients ≡ old.quotients
  pub scratch : length new.scratch ≡ length old.scratch
