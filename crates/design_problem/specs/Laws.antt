-- The laws of this crate, each the contract of a function of `laws`.
use Rattle.std.specs.Prelude.{◌≢◌, ℕ, ◌≤ℤ◌, ◌↔◌, List, pos, length, All}
use Rattle.area_graph.specs.Area.{Area}
use Rattle.area_graph.specs.Paths.{IsPathOf}
use Rattle.design_problem.specs.declared.form.Form.{Form}
use Rattle.design_problem.specs.declared.boxes.CostBox.{CostBox}
use Rattle.design_problem.specs.declared.tree.Entry.{Entry}
use Rattle.design_problem.specs.Problems.{DesignProblem, IsProblem, request_ends}
use Rattle.design_problem.specs.Forms.{value_for_costs, Meets}
use Rattle.design_problem.specs.Boxes.{IsInBox, greatest}
use Rattle.design_problem.specs.Trees.{IsSoundTree, IsClosed}
use Rattle.design_problem.specs.BranchingTrees.{IsTreeOver}
use Rattle.design_problem.specs.Rows.{IsFit, box_of, form_between}

-- no costs of the box meet the forms
abbrev pub HasNone : List Form → CostBox → Type 0
HasNone forms box = (w : List ℕ) → IsInBox box w → Meets forms w → ⊥

-- a closed sound tree over a box: no costs of the box meet the forms
abbrev pub ClosedTreesLeaveNone : Type 0
ClosedTreesLeaveNone = (forms : List Form) (box : CostBox) (tree : List Entry) → IsSoundTree forms box tree → IsClosed tree → HasNone forms box

-- a form's value at costs of a box is at most its greatest value over the box
abbrev pub GreatestBounds : Type 0
GreatestBounds = (f : Form) (box : CostBox) (w : List ℕ) → IsInBox box w → value_for_costs f w ≤ℤ greatest f box

-- a form's value at costs is at least 0
abbrev pub IsMet : Area → List ℕ → List ℕ → List ℕ → Type 0
IsMet g w wanted rival = pos 0 ≤ℤ value_for_costs (form_between g (length w) wanted rival) w

-- the costs are within the bounds, and the form of each row is at least 0
pub record MeetsBoundsAndRows (p : DesignProblem) (w : List ℕ) : Type 0 where
  pub within : IsInBox (box_of p) w
  pub rows : All (λ r. (rival : List ℕ) → IsPathOf p.graph (request_ends r) rival → rival ≢ r.path.edges → IsMet p.graph w r.path.edges rival) p.requests

-- costs are fit exactly where they are within the bounds and the form of each row is at least 0
abbrev pub FitMeansMet : Type 0
FitMeansMet = (p : DesignProblem) (w : List ℕ) → IsProblem p → IsFit p w ↔ MeetsBoundsAndRows p w

-- a list of entries is sound over a box exactly where it is the preorder of a sound tree with subtrees
abbrev pub TreesAreTrees : Type 0
TreesAreTrees = (forms : List Form) (box : CostBox) (entries : List Entry) → IsSoundTree forms box entries ↔ IsTreeOver forms box entries
