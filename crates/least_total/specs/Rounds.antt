-- What a round finds: a search over the box at a cap, with a bound of the total; and what is known of the least total.
-- No public clause cites it.
use Rattle.std.specs.Prelude.{◌≡◌, ℕ, ◌+◌, ◌^◌, ◌<◌, ◌≤◌, List, length, All, AllPairs, Contains, Option, None, Some}
use Rattle.design_problem.specs.declared.boxes.CostBox.{CostBox}
use Rattle.design_problem.specs.declared.form.Row.{Row}
use Rattle.design_problem.specs.declared.tree.Entry.TheVariants.{Undone}
use Rattle.design_problem.specs.Problems.{DesignProblem}
use Rattle.design_problem.specs.Boxes.{capped}
use Rattle.design_problem.specs.Rows.{IsFit, IsRow, box_of, greatest_cost}
use Rattle.design_problem.specs.Trees.{IsClosed, entry_count}
use Rattle.form_search.specs.Finds.{IsSearchResult}
use Rattle.design_problem.specs.SearchTrees.{IsSearchTree}
use Rattle.cost_branching.specs.Pools.{Differ}
use Rattle.least_total.specs.declared.rounds.Sought.{Sought}
use Rattle.least_total.specs.declared.rounds.TotalTree.{TotalTree}
use Rattle.least_total.specs.declared.rounds.Round.{Round}
use Rattle.least_total.specs.declared.rounds.Round.TheVariants.{Costs, Refuted, Undecided}
use Rattle.least_total.specs.declared.so_far.SoFar.{SoFar}
use Rattle.least_total.specs.declared.finding.Narrowed.{Narrowed}
use Rattle.least_total.specs.Totals.{LeadsWithin, total}
use Rattle.least_total.specs.Bounded.{IsPlaceIn, forms_with_total}

-- rows of the problem, none twice, and a place of the form of the total among their forms
pub record ArePlaced (p : DesignProblem) (rows : List Row) (before : Option ℕ) : Type 0 where
  pub are_rows : All (IsRow p) rows
  pub once : AllPairs Differ rows
  pub place : IsPlaceIn (length rows) before

-- what a search over a box with a bound of the total found, by the forms of the rows and that of the total at its place
pub record IsTotalSought (p : DesignProblem) (top nodes most : ℕ) (box : CostBox) (sought : Sought) : Type 0 where
  pub placed : ArePlaced p sought.rows.items sought.before
  pub found : IsSearchResult (LeadsWithin p most) top nodes (forms_with_total p most sought.rows.items sought.before) box sought.found

-- a tree over the box at a cap, by the forms of rows and that of the total among them
pub record IsTreeWithin (p : DesignProblem) (top cap most : ℕ) (t : TotalTree) : Type 0 where
  pub placed : ArePlaced p t.rows.items t.before
  pub tree : IsSearchTree (LeadsWithin p most) top (forms_with_total p most t.rows.items t.before) (capped (box_of p) cap) t.tree

-- a closed tree of at most N entries over the box at a cap, by the forms of rows and that of the total
pub record IsRefutedWithin (p : DesignProblem) (top nodes cap most : ℕ) (t : TotalTree) : Type 0 where
  pub tree : IsTreeWithin p top cap most t
  pub closed : IsClosed t.tree
  pub few : entry_count t.tree ≤ nodes

-- a tree over the box at a cap, by the forms of rows and that of the total, with an Undone and exactly N entries
pub record IsUndecidedWithin (p : DesignProblem) (top nodes cap most : ℕ) (t : TotalTree) : Type 0 where
  pub tree : IsTreeWithin p top cap most t
  pub undone : Contains t.tree Undone
  pub used_up : entry_count t.tree ≡ nodes

-- fit costs whose greatest is at most the cap
abbrev pub IsFitWithin : DesignProblem → ℕ → List ℕ → Type 0
IsFitWithin p cap w = IsFit p w × (greatest_cost w ≤ cap)

-- what a round finds: fit costs within the cap of a total of at most `most`, a closed tree, or one that used up the
-- budget
abbrev pub IsRound : DesignProblem → ℕ → ℕ → ℕ → ℕ → Round → Type 0
IsRound p top nodes cap most (Costs w) = IsFitWithin p cap w × (total w ≤ most)
IsRound p top nodes cap most (Refuted t) = IsRefutedWithin p top nodes cap most t
IsRound p top nodes cap most (Undecided t) = IsUndecidedWithin p top nodes cap most t

-- the kept tree is closed at the bound below the least total; without one that is the total of the lower bounds
abbrev pub IsKeptBelowTotal : DesignProblem → ℕ → ℕ → ℕ → ℕ → Option TotalTree → Type 0
IsKeptBelowTotal p top nodes cap least None = least ≡ total p.low
IsKeptBelowTotal p top nodes cap least (Some t) = (most : ℕ) × (most + 1 ≡ least) × IsRefutedWithin p top nodes cap most t

-- costs within the cap, their total, and what bounds the least total from below
pub record IsTotalSoFar (p : DesignProblem) (top nodes cap : ℕ) (s : SoFar) : Type 0 where
  pub fit : IsFitWithin p cap s.costs
  pub total_is : s.total ≡ total s.costs
  pub small : s.total < 2 ^ 26
  pub from_lows : total p.low ≤ s.least
  pub ordered : s.least ≤ s.total
  pub kept : IsKeptBelowTotal p top nodes cap s.least s.kept

-- a bound between the ends at which the budget was used up, if there is one; where there is none, the ends are equal
abbrev pub EndsAt : DesignProblem → ℕ → ℕ → ℕ → SoFar → Option (ℕ × TotalTree) → Type 0
EndsAt p top nodes cap s None = s.total ≤ s.least
EndsAt p top nodes cap s (Some (most, t)) = (s.least ≤ most) × (most < s.total) × IsUndecidedWithin p top nodes cap most t

-- what the rounds come to: costs within the cap, and bounds on the least total that are equal or that the budget left
-- apart
pub record IsNarrowed (p : DesignProblem) (top nodes cap : ℕ) (n : Narrowed) : Type 0 where
  pub so_far : IsTotalSoFar p top nodes cap n.so_far
  pub ends : EndsAt p top nodes cap n.so_far n.undecided
