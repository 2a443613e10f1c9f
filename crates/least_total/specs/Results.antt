-- What is answered: costs of the least total, or that the budget was used up.
use Rattle.std.specs.Prelude.{◌≡◌, ℕ, ◌+◌, ◌<◌, ◌≤◌, List, Some}
use Rattle.design_problem.specs.declared.answer.Costs.{Costs}
use Rattle.design_problem.specs.declared.answer.Verdict.TheVariants.{Optimal}
use Rattle.design_problem.specs.declared.form.Row.{Row}
use Rattle.design_problem.specs.declared.tree.Entry.{Entry}
use Rattle.design_problem.specs.Problems.{DesignProblem, IsProblemOnGraph}
use Rattle.design_problem.specs.Boxes.{capped}
use Rattle.design_problem.specs.Rows.{AreBestCosts, IsRow, box_of, greatest_cost}
use Rattle.design_problem.specs.Trees.{IsClosed}
use Rattle.design_problem.specs.Answers.{AnswerParts, CostLinesOf, IsValid}
use Rattle.design_problem.specs.Text.{row_line}
use Rattle.cost_branching.specs.Pools.{Differ}
use Rattle.printed_rows.specs.FittingTexts.{FitText}
use Rattle.printed_rows.specs.PrintedTrees.{IsPrintedOver, IsUndecidedOver}
use Rattle.printed_rows.specs.Sheets.{IsSheet}
use Rattle.least_total.specs.declared.finding.TotalEvidence.{TotalEvidence}
use Rattle.least_total.specs.declared.finding.TotalEvidence.TheVariants.{Floor, Tree}
use Rattle.least_total.specs.declared.finding.Total.{Total}
use Rattle.least_total.specs.declared.finding.Total.TheVariants.{Least, Undecided}
use Rattle.least_total.specs.Totals.{HasLeastTotal, IsFormWithin, LeadsWithin, forms_within, total}

-- the valid answer with other costs: best ones, with which it is valid again
pub record IsRecosted (p : DesignProblem) (old new : AnswerParts) (w : List ℕ) : Type 0 where
  pub valid : IsValid p new
  pub best : AreBestCosts p w
  pub costs : Costs
  pub printed : new.costs ≡ Some costs
  pub names : CostLinesOf w p.vars costs.lines
  pub tells : new.verdict ≡ Optimal (greatest_cost w)
  pub verdict : new.verdict ≡ old.verdict
  pub floor : new.floor ≡ old.floor
  pub rows : new.rows ≡ old.rows
  pub proof : new.proof ≡ old.proof

-- a printed tree over the box at a cap in which the form of the total has this bound: the forms are those of the rows,
-- and behind them that of the total
abbrev pub IsPrintedWithin : DesignProblem → ℕ → ℕ → ℕ → ℕ → List Row → List Entry → Type 0
IsPrintedWithin p top nodes cap most rows tree =
    IsPrintedOver (LeadsWithin p most) (IsFormWithin p most) top nodes (forms_within p most rows) (capped (box_of p) cap) tree

-- a printed tree, in which the form of the total has a bound, that used up the budget: it has an Undone and exactly N
-- entries
abbrev pub IsUndecidedTotal : DesignProblem → ℕ → ℕ → ℕ → ℕ → List Row → List Entry → Type 0
IsUndecidedTotal p top nodes cap most rows tree =
    IsUndecidedOver (LeadsWithin p most) (IsFormWithin p most) top nodes (forms_within p most rows) (capped (box_of p) cap) tree

-- the rows and the entries of a tree are a sheet, in which the form of the total stands behind those of the rows
abbrev pub IsTotalSheet : DesignProblem → List Row → List Entry → Type 0
IsTotalSheet p rows tree = IsSheet (IsRow p) Differ 1 rows tree

-- why no fit costs within the cap have a total below the least: that is the total of the lower bounds, or a closed tree
-- over the box at the cap refutes the bound below it
abbrev pub ShowsLeastTotal : DesignProblem → ℕ → ℕ → ℕ → ℕ → TotalEvidence → Type 0
ShowsLeastTotal p top nodes cap least Floor = least ≡ total p.low
ShowsLeastTotal p top nodes cap least (Tree rows tree) =
    (most : ℕ) × (most + 1 ≡ least) × IsTotalSheet p rows.items tree × IsPrintedWithin p top nodes cap most rows.items tree
    × IsClosed tree × FitText row_line cap rows.items tree

-- a problem, a budget and a cap whose trees fit a text
pub record CanPrintTotals (p : DesignProblem) (nodes cap : ℕ) : Type 0 where
  pub kept : IsProblemOnGraph p
  pub from_lows : greatest_cost p.low ≤ cap
  pub small : cap ≤ 65535
  pub budget : nodes ≤ 10000000

-- what is answered: costs of the least total, with a proof; or better ones than before, or these, and a bound at which
-- the budget was used up
abbrev pub IsTotalAnswer : DesignProblem → ℕ → ℕ → AnswerParts → Total → Type 0
IsTotalAnswer p top nodes old (Least answer sum proof) =
    (w : List ℕ) × IsRecosted p old answer w × (sum ≡ total w) × HasLeastTotal p w × ShowsLeastTotal p top nodes (greatest_cost w) (total w) proof
IsTotalAnswer p top nodes old (Undecided answer sum bound rows tree) =
    (w : List ℕ) × IsRecosted p old answer w × (sum ≡ total w) × (total p.low ≤ bound) × (bound < total w) × IsTotalSheet p rows.items tree
    × IsUndecidedTotal p top nodes (greatest_cost w) bound rows.items tree × FitText row_line (greatest_cost w) rows.items tree
