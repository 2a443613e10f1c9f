-- What is decided at a cap.
use Rattle.std.specs.Prelude.{◌≡◌, ℕ, ◌≤◌, List, Contains}
use Rattle.design_problem.specs.declared.tree.Entry.{Entry}
use Rattle.design_problem.specs.declared.tree.Entry.TheVariants.{Undone}
use Rattle.design_problem.specs.Problems.{DesignProblem}
use Rattle.design_problem.specs.Boxes.{IsInBox, capped}
use Rattle.design_problem.specs.Rows.{IsFit, LeadsEach, box_of, forms_of_rows}
use Rattle.design_problem.specs.Trees.{IsClosed, entry_count}
use Rattle.design_problem.specs.SearchTrees.{IsSearchTree}
use Rattle.form_search.specs.declared.found.Found.{Found}
use Rattle.form_search.specs.declared.found.Found.TheVariants.{Costs, Refuted, Undecided}
use Rattle.cost_branching.specs.Pools.{Pooled}

-- a tree over the box of the problem at the cap, by the pool's rows: earnest, with relaxed points for its Splits
abbrev pub IsTreeAt : DesignProblem → ℕ → ℕ → Pooled → List Entry → Type 0
IsTreeAt p top cap pool tree = IsSearchTree (LeadsEach p) top (forms_of_rows p pool.rows) (capped (box_of p) cap) tree

-- What is decided at a cap: fit costs of at most the cap; a closed tree of at most N entries; or, where the budget was
-- used up, a tree with an Undone and exactly N entries.
abbrev pub IsDecided : DesignProblem → ℕ → ℕ → ℕ → Pooled → Found → Type 0
IsDecided p top nodes cap pool (Costs w) = IsFit p w × IsInBox (capped (box_of p) cap) w
IsDecided p top nodes cap pool (Refuted tree) = IsTreeAt p top cap pool tree × IsClosed tree × (entry_count tree ≤ nodes)
IsDecided p top nodes cap pool (Undecided tree) = IsTreeAt p top cap pool tree × Contains tree Undone × (entry_count tree ≡ nodes)
