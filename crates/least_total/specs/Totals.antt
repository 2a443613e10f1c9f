-- Totals of costs, the least total among the best costs, and the form that bounds a total.
use Rattle.std.specs.Prelude.{◌≡◌, ℕ, ◌≤◌, ◌⊎◌, List, [], ◌∷◌, ◌++◌, pos, negsuc, ◌≤ℤ◌, length, replicate}
use Rattle.std.specs.List.{sum}
use Rattle.area_graph.specs.declared.Point.{Point}
use Rattle.design_problem.specs.Forms.{Form, value_at}
use Rattle.design_problem.specs.declared.form.Row.{Row}
use Rattle.design_problem.specs.Problems.{DesignProblem}
use Rattle.design_problem.specs.Rows.{AreBestCosts, LeadsEach, forms_of_rows}
use Rattle.design_problem.specs.Earnest.{IsFormOfRow}

-- the total of costs: their sum over the variables, a shared variable once
abbrev pub total : List ℕ → ℕ
total w = sum w

-- costs that are best (no fit costs have a smaller greatest cost), and no best costs have a smaller total
pub record HasLeastTotal (p : DesignProblem) (w : List ℕ) : Type 0 where
  pub best : AreBestCosts p w
  pub least : (other : List ℕ) → AreBestCosts p other → total w ≤ total other

-- the form of the total in n variables: `most` minus the sum of all variables
abbrev pub total_form : ℕ → ℕ → Form
total_form n most = record { constant = pos most; coefficients = replicate n (negsuc 0) }

-- the form of the total of a problem's costs
abbrev pub form_of_total : DesignProblem → ℕ → Form
form_of_total p most = total_form (length p.low) most

-- the forms that a printed tree names: those of the rows, and behind them that of the total
abbrev pub forms_within : DesignProblem → ℕ → List Row → List Form
forms_within p most rows = forms_of_rows p rows ++ form_of_total p most ∷ []

-- a point is accepted: each wanted path leads there by the scale, and the form of the total is at least 0
pub record LeadsWithin (p : DesignProblem) (most : ℕ) (point : Point) : Type 0 where
  pub leads : LeadsEach p point
  pub within : pos 0 ≤ℤ value_at (form_of_total p most) point

-- a form of the problem of costs below a bound of the total: that of a row, or the total's
abbrev pub IsFormWithin : DesignProblem → ℕ → Form → Type 0
IsFormWithin p most form = IsFormOfRow p form ⊎ (form ≡ form_of_total p most)
