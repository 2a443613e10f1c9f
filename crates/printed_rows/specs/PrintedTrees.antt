-- Trees that are printed.
use Rattle.std.specs.Prelude.{◌≡◌, ℕ, ◌≤◌, List, Contains}
use Rattle.area_graph.specs.declared.Point.{Point}
use Rattle.design_problem.specs.declared.form.Form.{Form}
use Rattle.design_problem.specs.declared.boxes.CostBox.{CostBox}
use Rattle.design_problem.specs.declared.form.Row.{Row}
use Rattle.design_problem.specs.declared.tree.Entry.{Entry}
use Rattle.design_problem.specs.declared.tree.Entry.TheVariants.{Undone}
use Rattle.design_problem.specs.declared.answer.CapTree.{CapTree}
use Rattle.design_problem.specs.Problems.{DesignProblem}
use Rattle.design_problem.specs.Boxes.{capped}
use Rattle.design_problem.specs.Rows.{LeadsEach, box_of, forms_of_rows}
use Rattle.design_problem.specs.Trees.{entry_count}
use Rattle.design_problem.specs.Earnest.{IsEarnestOver, IsFormOfRow}
use Rattle.design_problem.specs.OpenPlaces.{UndoneLast}

-- a tree that is printed: earnest over the box, no other entry after an Undone, and at most N entries
pub record IsPrintedOver (accepts : Point → Type 0) (IsTrueForm : Form → Type 0) (top nodes : ℕ) (forms : List Form)
    (box : CostBox) (tree : List Entry) : Type 0 where
  pub earnest : IsEarnestOver accepts IsTrueForm top forms box tree
  pub last : UndoneLast tree
  pub few : entry_count tree ≤ nodes

-- a tree that used up the budget: it has an Undone and exactly N entries
pub record IsUndecidedOver (accepts : Point → Type 0) (IsTrueForm : Form → Type 0) (top nodes : ℕ) (forms : List Form)
    (box : CostBox) (tree : List Entry) : Type 0 where
  pub printed : IsPrintedOver accepts IsTrueForm top nodes forms box tree
  pub undone : Contains tree Undone
  pub used_up : entry_count tree ≡ nodes

-- a tree of a problem over the box at its cap: a point is accepted where each wanted path leads by the scale, and a
-- form is true where it is that of a row
abbrev pub IsPrintedTree : DesignProblem → ℕ → ℕ → List Row → CapTree → Type 0
IsPrintedTree p top nodes rows t = IsPrintedOver (LeadsEach p) (IsFormOfRow p) top nodes (forms_of_rows p rows) (capped (box_of p) t.cap) t.tree

-- a tree of a problem over the box at its cap that used up its budget: it has an Undone and exactly N entries
abbrev pub IsUndecidedTree : DesignProblem → ℕ → ℕ → List Row → CapTree → Type 0
IsUndecidedTree p top nodes rows t = IsUndecidedOver (LeadsEach p) (IsFormOfRow p) top nodes (forms_of_rows p rows) (capped (box_of p) t.cap) t.tree
