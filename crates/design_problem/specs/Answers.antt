-- Answers as values, and valid answers.
use Rattle.std.specs.Prelude.{◌≡◌, ℕ, ◌+◌, ◌<◌, ◌≤◌, max, fold, List, length, slice_index, All, Option, None, Some, []}
use Rattle.std.specs.List.{AllZip}
use Rattle.design_problem.specs.declared.answer.Verdict.{Verdict}
use Rattle.design_problem.specs.declared.answer.Verdict.TheVariants.{Optimal, Impossible}
use Rattle.design_problem.specs.declared.answer.Costs.{Costs}
use Rattle.design_problem.specs.declared.answer.CostLine.{CostLine}
use Rattle.design_problem.specs.declared.answer.Floor.{Floor}
use Rattle.design_problem.specs.declared.answer.Floor.TheVariants.{Absent, Empty, Var}
use Rattle.design_problem.specs.declared.answer.CapTree.{CapTree}
use Rattle.design_problem.specs.declared.form.Row.{Row}
use Rattle.design_problem.specs.declared.problem.VarName.{VarName}
use Rattle.design_problem.specs.Problems.{DesignProblem}
use Rattle.design_problem.specs.Boxes.{capped}
use Rattle.design_problem.specs.Trees.{IsSoundTree, IsClosed}
use Rattle.design_problem.specs.Rows.{IsFit, IsRow, box_of, forms_of_rows, greatest_cost}
use Rattle.design_problem.specs.declared.boxes.CostBox.{CostBox}

-- an answer: its verdict, costs, floor, rows, the tree that proves it, and a tree that isn't finished
pub record AnswerParts : Type 0 where
  pub verdict : Verdict
  pub costs : Option Costs
  pub floor : Floor
  pub rows : List Row
  pub proof : Option CapTree
  pub undecided : Option CapTree

-- the cost lines name these free interfaces, each once, in order, and give each the cost of its variable
abbrev pub CostLinesOf : List ℕ → List VarName → List CostLine → Type 0
CostLinesOf costs names lines =
    AllZip (λ name line. (line.router ≡ name.router) × (line.interface ≡ name.interface) × (line.cost ≡ slice_index costs name.var)) names lines

-- a closed sound tree over the box at its cap, and no lower bound above the cap
pub record Proves (p : DesignProblem) (rows : List Row) (cap : ℕ) (proof : CapTree) : Type 0 where
  pub at_cap : proof.cap ≡ cap
  pub no_higher : All (λ low. low ≤ cap) p.low
  pub sound : IsSoundTree (forms_of_rows p rows) (capped (box_of p) cap) proof.tree
  pub closed : IsClosed proof.tree

-- exactly one of floor and proof shows that no fit costs have a smaller greatest cost
abbrev pub ShowsLeastGreatest : DesignProblem → List Row → ℕ → Floor → Option CapTree → Type 0
ShowsLeastGreatest p rows k Absent (Some proof) = (cap : ℕ) × (cap + 1 ≡ k) × Proves p rows cap proof
ShowsLeastGreatest p rows k Absent None = ⊥
ShowsLeastGreatest p rows k Empty None = length p.low ≡ 0
ShowsLeastGreatest p rows k (Var v) None = (v < length p.low) × (slice_index p.low v ≡ k)
ShowsLeastGreatest p rows k Empty (Some proof) = ⊥
ShowsLeastGreatest p rows k (Var v) (Some proof) = ⊥

-- the costs fit, are printed as the cost lines say, and the greatest of them is k
pub record GivesCosts (p : DesignProblem) (k : ℕ) (costs : Costs) : Type 0 where
  pub values : List ℕ
  pub names : CostLinesOf values p.vars costs.lines
  pub fit : IsFit p values
  pub greatest : greatest_cost values ≡ k
  pub printed : costs.greatest ≡ k

-- the greatest bound of a problem: the greatest of its variables' upper bounds, 0 where there is none
abbrev pub greatest_bound : DesignProblem → ℕ
greatest_bound p = fold max 0 p.high

-- what the verdict claims: fit costs with least greatest cost, or a proof at the greatest bound that none are fit
abbrev pub ClaimHolds : DesignProblem → List Row → Verdict → Option Costs → Floor → Option CapTree → Type 0
ClaimHolds p rows (Optimal k) (Some costs) floor proof = GivesCosts p k costs × ShowsLeastGreatest p rows k floor proof
ClaimHolds p rows Impossible None Absent (Some proof) = Proves p rows (greatest_bound p) proof
ClaimHolds p rows _ _ _ _ = ⊥

-- a valid answer to a problem
pub record IsValid (p : DesignProblem) (a : AnswerParts) : Type 0 where
  pub rows : All (IsRow p) a.rows
  pub finished : a.undecided ≡ None
  pub claim : ClaimHolds p a.rows a.verdict a.costs a.floor a.proof

-- the box of the problem at the cap of its greatest bound
abbrev pub whole_box : DesignProblem → CostBox
whole_box p = capped (box_of p) (greatest_bound p)

-- the cost lines of an answer's costs
abbrev pub lines_in : Option Costs → List CostLine
lines_in None = []
lines_in (Some costs) = costs.lines
