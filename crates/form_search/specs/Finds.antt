-- What a search finds.
use Rattle.std.specs.Prelude.{◌≡◌, ℕ, ◌≤◌, List, Contains}
use Rattle.area_graph.specs.declared.Point.{Point}
use Rattle.area_graph.specs.Costs.{at_costs}
use Rattle.design_problem.specs.Forms.{Form}
use Rattle.design_problem.specs.declared.boxes.CostBox.{CostBox}
use Rattle.design_problem.specs.declared.tree.Entry.TheVariants.{Undone}
use Rattle.design_problem.specs.Boxes.{IsInBox}
use Rattle.design_problem.specs.SearchTrees.{IsSearchTree}
use Rattle.design_problem.specs.Trees.{IsClosed, entry_count}
use Rattle.form_search.specs.declared.found.Found.{Found}
use Rattle.form_search.specs.declared.found.Found.TheVariants.{Costs, Refuted, Undecided}

-- What a search over a box finds: costs of the box that are accepted; a closed tree of at most N entries; or, where the
-- budget was used up, a tree with an Undone and exactly N entries.
abbrev pub IsSearchResult : (Point → Type 0) → ℕ → ℕ → List Form → CostBox → Found → Type 0
IsSearchResult accepted top nodes forms box (Costs w) = IsInBox box w × accepted (at_costs w)
IsSearchResult accepted top nodes forms box (Refuted tree) = IsSearchTree accepted top forms box tree × IsClosed tree × (entry_count tree ≤ nodes)
IsSearchResult accepted top nodes forms box (Undecided tree) = IsSearchTree accepted top forms box tree × Contains tree Undone × (entry_count tree ≡ nodes)
