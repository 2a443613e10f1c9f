-- What trees and answers prove of a problem, and how large trees are. Each is the contract of a function of `laws`.
use Rattle.std.specs.Prelude.{◌≡◌, ℕ, ◌+◌, ◌*◌, ◌^◌, ◌<◌, ◌≤◌, ◌↔◌, List, [], ◌∷◌, ◌++◌, length, All, Contains, sum_by, Option, Some, nat_abs}
use Rattle.design_problem.specs.declared.form.Form.{Form}
use Rattle.design_problem.specs.declared.boxes.CostBox.{CostBox}
use Rattle.design_problem.specs.declared.form.Row.{Row}
use Rattle.design_problem.specs.declared.tree.Entry.{Entry}
use Rattle.design_problem.specs.declared.tree.Entry.TheVariants.{Tighten, Split, Halve, Refute, Undone}
use Rattle.design_problem.specs.declared.answer.Costs.{Costs}
use Rattle.design_problem.specs.declared.answer.Floor.{Floor}
use Rattle.design_problem.specs.declared.answer.CapTree.{CapTree}
use Rattle.design_problem.specs.declared.answer.Verdict.{Verdict}
use Rattle.design_problem.specs.declared.answer.Verdict.TheVariants.{Optimal, Impossible, Undecided}
use Rattle.design_problem.specs.Problems.{DesignProblem, IsProblem}
use Rattle.design_problem.specs.Forms.{value_for_costs, weighted, size_of_form}
use Rattle.design_problem.specs.Boxes.{IsBox, IsInBox, capped, points, greatest}
use Rattle.design_problem.specs.Trees.{IsSoundTree, IsClosed, IsSingleTree, entry_count}
use Rattle.design_problem.specs.BranchingTrees.{BranchingTree, preorder}
use Rattle.design_problem.specs.Earnest.{IsEarnestFor}
use Rattle.design_problem.specs.Rows.{IsFit, AreBestCosts, IsRow, box_of, forms_of_rows, greatest_cost}
use Rattle.design_problem.specs.Answers.{AnswerParts, Proves, ShowsLeastGreatest, GivesCosts, IsValid, CostLinesOf, greatest_bound}

-- the greatest value is the value at some costs of the box
abbrev pub GreatestReached : Type 0
GreatestReached = (n : ℕ) (f : Form) (box : CostBox) → IsBox n box → (w : List ℕ) × IsInBox box w × (value_for_costs f w ≡ greatest f box)

-- a closed sound tree over the box at a cap, of true rows: fit costs have a greatest cost above the cap
abbrev pub TreesBoundCosts : Type 0
TreesBoundCosts = (p : DesignProblem) (rows : List Row) (cap : ℕ) (tree : List Entry) → IsProblem p →
    All (IsRow p) rows → IsSoundTree (forms_of_rows p rows) (capped (box_of p) cap) tree → IsClosed tree →
    (w : List ℕ) → IsFit p w → cap < greatest_cost w

-- no costs are fit
abbrev pub HasNoFit : DesignProblem → Type 0
HasNoFit p = (w : List ℕ) → IsFit p w → ⊥

-- a closed sound tree over the box at the greatest bound leaves no fit costs
abbrev pub TreesLeaveNoFit : Type 0
TreesLeaveNoFit = (p : DesignProblem) (rows : List Row) (proof : CapTree) → IsProblem p → All (IsRow p) rows →
    Proves p rows (greatest_bound p) proof → HasNoFit p

-- a floor, or a proof at the cap below: no fit costs have a smaller greatest cost than the printed ones
abbrev pub LeastIsShown : Type 0
LeastIsShown = (p : DesignProblem) (rows : List Row) (k : ℕ) (costs : Costs) (floor : Floor) (proof : Option CapTree) →
    IsProblem p → All (IsRow p) rows → GivesCosts p k costs → ShowsLeastGreatest p rows k floor proof → (w : List ℕ) →
    IsFit p w → k ≤ greatest_cost w

-- the printed costs are best, and k is their greatest
pub record GivesBest (p : DesignProblem) (k : ℕ) (printed : Option Costs) : Type 0 where
  pub costs : Costs
  pub is_printed : printed ≡ Some costs
  pub values : List ℕ
  pub names : CostLinesOf values p.vars costs.lines
  pub best : AreBestCosts p values
  pub greatest : greatest_cost values ≡ k

-- what a verdict claims is true
abbrev pub IsTrueVerdict : DesignProblem → Verdict → Option Costs → Type 0
IsTrueVerdict p (Optimal k) costs = GivesBest p k costs
IsTrueVerdict p Impossible costs = HasNoFit p
IsTrueVerdict p (Undecided cap) costs = ⊥

-- a valid optimal answer has best costs, and a valid impossible answer leaves no fit costs
abbrev pub ValidAnswersHold : Type 0
ValidAnswersHold = (p : DesignProblem) (a : AnswerParts) → IsProblem p → IsValid p a → IsTrueVerdict p a.verdict a.costs

-- how many entries a sound tree over a box has
pub record HasFewEntries (box : CostBox) (tree : List Entry) : Type 0 where
  pub count : entry_count tree + 1 ≤ 2 * points box
  pub undecided : Contains tree Undone → entry_count tree + 2 ≤ 2 * points box

-- a sound tree over a box has fewer entries than twice the box's whole points
abbrev pub TreesAreSmall : Type 0
TreesAreSmall = (n : ℕ) (forms : List Form) (box : CostBox) (tree : List Entry) → IsBox n box → IsSoundTree forms box tree → HasFewEntries box tree

-- how many entries have two subtrees
abbrev pub cut_count : List Entry → ℕ
cut_count [] = 0
cut_count (Tighten var side value row ∷ entries) = cut_count entries
cut_count (Split var value ∷ entries) = 1 + cut_count entries
cut_count (Halve var value wide ∷ entries) = 1 + cut_count entries
cut_count (Refute parts ∷ entries) = cut_count entries
cut_count (Undone ∷ entries) = cut_count entries

-- of the entries of an earnest tree in n variables many have two subtrees: with an Undone at least (N - 2n)/(4n + 2) of
-- N
pub record HasManyCuts (n : ℕ) (tree : List Entry) : Type 0 where
  pub count : entry_count tree ≤ 2 * n + 1 + (4 * n + 2) * cut_count tree
  pub undecided : Contains tree Undone → entry_count tree ≤ 2 * n + (4 * n + 2) * cut_count tree

-- an earnest tree of a problem has many entries with two subtrees
abbrev pub EarnestTreesCut : Type 0
EarnestTreesCut = (p : DesignProblem) (top : ℕ) (rows : List Row) (box : CostBox) (tree : List Entry) →
    IsEarnestFor p top rows box tree → HasManyCuts (length box.low) tree

-- a sound tree's entries are one whole tree
abbrev pub SoundTreesAreSingle : Type 0
SoundTreesAreSingle = (forms : List Form) (box : CostBox) (tree : List Entry) → IsSoundTree forms box tree → IsSingleTree tree

-- the entries are those of some tree in preorder
pub record IsPreorder (entries : List Entry) : Type 0 where
  pub tree : BranchingTree
  pub same : preorder tree ≡ entries

-- a list is one whole tree exactly where it is the preorder of a tree
abbrev pub SingleTreesArePreorders : Type 0
SingleTreesArePreorders = (entries : List Entry) → IsSingleTree entries ↔ IsPreorder entries

-- trees with one preorder are one tree
abbrev pub PreordersDecide : Type 0
PreordersDecide = (t u : BranchingTree) → preorder t ≡ preorder u → t ≡ u

-- what is one tree is none with more entries behind it
abbrev pub SingleTreesEnd : Type 0
SingleTreesEnd = (entries more : List Entry) → IsSingleTree entries → IsSingleTree (entries ++ more) → more ≡ []

-- a form's value at costs of at most 65,535 is within its size
abbrev pub SizesBoundValues : Type 0
SizesBoundValues = (f : Form) (w : List ℕ) → All (λ x. x < 2 ^ 16) w → nat_abs (value_for_costs f w) ≤ size_of_form f

-- a weighted sum of small forms, of multipliers of sum below 2^100, fits 127 bits
abbrev pub WeightedSumsFit : Type 0
WeightedSumsFit = (forms : List Form) (parts : List (ℕ × ℕ)) → All (λ f. size_of_form f < 2 ^ 27) forms →
    sum_by (λ part. part.1) parts < 2 ^ 100 → size_of_form (weighted forms parts) < 2 ^ 127
