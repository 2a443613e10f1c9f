-- The laws of this crate, each the contract of a function of `laws`.
use Rattle.std.specs.Prelude.{◌≡◌, ℕ, ◌+◌, ◌*◌, ◌≤◌, ◌≤ℤ◌, ◌↔◌, List, pos, All, Contains}
use Rattle.area_graph.specs.declared.Point.{Point}
use Rattle.area_graph.specs.Area.{Area}
use Rattle.area_graph.specs.Paths.{Ends, IsPathOf}
use Rattle.area_graph.specs.Costs.{at_costs, cost}
use Rattle.design_problem.specs.Problems.{DesignProblem, IsProblem}
use Rattle.design_problem.specs.Forms.{value_for_costs}
use Rattle.design_problem.specs.Boxes.{IsInBox, points}
use Rattle.design_problem.specs.Rows.{box_of}
use Rattle.design_problem.specs.declared.tree.Entry.{Entry}
use Rattle.design_problem.specs.declared.tree.Entry.TheVariants.{Undone}
use Rattle.design_problem.specs.Trees.{entry_count}
use Rattle.design_problem.specs.Earnest.{IsEarnestOver}
use Rattle.design_problem.specs.Answers.{whole_box}
use Rattle.set_reader.specs.SpreadSets.{AreSetsOf}
use Rattle.spread_sets.specs.declared.spread.SetRow.{SetRow}
use Rattle.spread_sets.specs.declared.spread.Spread.{Spread}
use Rattle.spread_sets.specs.declared.spread.Spread.TheVariants.{Fit, Impossible, Undecided}
use Rattle.spread_sets.specs.Spreads.{IsFormOfSetRow, IsSetRow, IsSpreadFit, SharesEach, all_sets, ends_in, form_of_set_row, forms_of_set_rows, paths_of}
use Rattle.spread_sets.specs.Answers.{IsSpreadFound}

-- the forms of all rows of the sets are at least 0 at the costs
abbrev pub MeetsSetRows : DesignProblem → List (List ℕ) → List ℕ → Type 0
MeetsSetRows p sets w = (row : SetRow) → IsSetRow p sets row → pos 0 ≤ℤ value_for_costs (form_of_set_row p row) w

-- costs within the bounds are spread-fit exactly where the form of each row of the sets is at least 0
abbrev pub SpreadMeansMet : Type 0
SpreadMeansMet =
    (p : DesignProblem) (lines : List (List ℕ)) (w : List ℕ) → IsProblem p → AreSetsOf p lines → IsInBox (box_of p) w →
    IsSpreadFit p (all_sets p lines) w ↔ MeetsSetRows p (all_sets p lines) w

-- a simple path of the request, and none costs less
pub record IsCheapestPath (g : Area) (point : Point) (ends : Ends) (es : List ℕ) : Type 0 where
  pub path : IsPathOf g ends es
  pub none_less : (others : List ℕ) → IsPathOf g ends others → cost g point es ≤ cost g point others

-- under spread-fit costs the cheapest paths between the ends of a set are exactly its members
abbrev pub CheapestAreMembers : Type 0
CheapestAreMembers =
    (p : DesignProblem) (lines : List (List ℕ)) (w set es : List ℕ) → IsProblem p → AreSetsOf p lines →
    IsSpreadFit p (all_sets p lines) w → Contains (all_sets p lines) set
    → IsCheapestPath p.graph (at_costs w) (ends_in p set) es ↔ Contains (paths_of p set) es

-- spread-fit costs, or there are none
abbrev pub IsSpreadFoundSettled : Spread → Type 0
IsSpreadFoundSettled (Fit w) = Unit {0}
IsSpreadFoundSettled (Impossible rows tree) = Unit {0}
IsSpreadFoundSettled (Undecided rows tree) = ⊥

-- The budget can't be used up: no earnest tree over the box at the greatest bound, by the sets of these lines and the
-- paths in no line, has an undone entry and exactly as many entries as the budget.
abbrev pub IsSufficientForSpread : DesignProblem → List (List ℕ) → ℕ → ℕ → Type 0
IsSufficientForSpread p lines top nodes =
    (rows : List SetRow) (tree : List Entry) → All (IsSetRow p (all_sets p lines)) rows →
    IsEarnestOver (SharesEach p (all_sets p lines)) (IsFormOfSetRow p (all_sets p lines)) top (forms_of_set_rows p rows) (whole_box p) tree →
    Contains tree Undone → entry_count tree ≡ nodes → ⊥

-- where the budget can't be used up, what is found is spread-fit costs, or that there are none
abbrev pub SpreadSettlesIfSufficient : Type 0
SpreadSettlesIfSufficient =
    (p : DesignProblem) (lines : List (List ℕ)) (top nodes : ℕ) (found : Spread) → IsSufficientForSpread p lines top nodes →
    IsSpreadFound p lines top nodes found → IsSpreadFoundSettled found

-- a budget of twice as many entries as the box at the greatest bound has points, less one, can't be used up
abbrev pub SpreadSufficientIfLarge : Type 0
SpreadSufficientIfLarge =
    (p : DesignProblem) (lines : List (List ℕ)) (top nodes : ℕ) → IsProblem p → 2 * points (whole_box p) ≤ nodes + 1 →
    IsSufficientForSpread p lines top nodes
