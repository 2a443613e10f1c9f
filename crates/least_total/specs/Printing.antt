-- What is printed: the form of the total is moved behind those of the rows, and then unused rows are left out. No
-- public clause cites it.
use Rattle.std.specs.Prelude.{◌≡◌, ℕ, List, [], ◌∷◌, ◌++◌, map, length, Option, None, Some}
use Rattle.design_problem.specs.Forms.{Form}
use Rattle.design_problem.specs.declared.form.Row.{Row}
use Rattle.design_problem.specs.declared.tree.Entry.{Entry}
use Rattle.design_problem.specs.Problems.{DesignProblem}
use Rattle.design_problem.specs.Rows.{form_of_row}
use Rattle.printed_rows.specs.NewNumbers.{IsTreePrinted}
use Rattle.least_total.specs.declared.printing.PoolForm.{PoolForm}
use Rattle.least_total.specs.declared.printing.PoolForm.TheVariants.{OfRow, OfTotal}
use Rattle.least_total.specs.declared.printing.PrintedTotal.{PrintedTotal}
use Rattle.least_total.specs.declared.rounds.TotalTree.{TotalTree}
use Rattle.least_total.specs.Totals.{form_of_total}
use Rattle.least_total.specs.Moving.{moved_entry}

-- the form that a number of the pool has: that of a row, or that of the total
abbrev pub pool_form : DesignProblem → ℕ → PoolForm → Form
pool_form p most (OfRow row) = form_of_row p row
pool_form p most OfTotal = form_of_total p most

-- the forms of the rows, and behind them that of the total
abbrev pub with_total_last : List Row → List PoolForm
with_total_last rows = map OfRow rows ++ OfTotal ∷ []

-- the rows among the forms of a pool: all forms but that of the total
abbrev pub rows_in : List PoolForm → List Row
rows_in [] = []
rows_in (OfRow row ∷ forms) = row ∷ rows_in forms
rows_in (OfTotal ∷ forms) = rows_in forms

-- the tree once the form of the total has been moved behind so many others, if it stands elsewhere
abbrev pub moved_from : Option ℕ → ℕ → List Entry → List Entry
moved_from None others tree = tree
moved_from (Some place) others tree = map (moved_entry place others) tree

-- the printed rows are those that the tree names, in their order, and it names them and the form of the total by new
-- numbers
pub record IsPrintedLast (t : TotalTree) (printed : PrintedTotal) : Type 0 where
  pub kept : List PoolForm
  pub is_printed : IsTreePrinted (with_total_last t.rows.items) (moved_from t.before (length t.rows.items) t.tree) kept printed.tree
  pub rows : printed.rows.items ≡ rows_in kept
