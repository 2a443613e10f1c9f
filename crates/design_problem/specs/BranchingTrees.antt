-- Branching trees with their subtrees, and their entries in preorder.
use Rattle.std.specs.Prelude.{◌≡◌, ℕ, ◌+◌, List, [], ◌∷◌, ◌++◌}
use Rattle.design_problem.specs.declared.form.Form.{Form}
use Rattle.design_problem.specs.declared.boxes.CostBox.{CostBox}
use Rattle.design_problem.specs.declared.tree.Side.{Side}
use Rattle.design_problem.specs.declared.tree.WideAt.{WideAt}
use Rattle.design_problem.specs.declared.tree.Entry.{Entry}
use Rattle.design_problem.specs.declared.tree.Entry.TheVariants.{Tighten, Split, Halve, Refute, Undone}
use Rattle.design_problem.specs.Boxes.{Refutes, with_low, with_high}
use Rattle.design_problem.specs.Trees.{tightened, TightensAt, CutsAt}

-- a tree with its subtrees
pub data BranchingTree : Type 0 where
  tighten : ℕ → Side → ℕ → ℕ → BranchingTree → BranchingTree
  split : ℕ → ℕ → BranchingTree → BranchingTree → BranchingTree
  halve : ℕ → ℕ → WideAt → BranchingTree → BranchingTree → BranchingTree
  refute : List (ℕ × ℕ) → BranchingTree
  undone : BranchingTree

-- the entries of a tree, each before those of its subtrees
abbrev pub preorder : BranchingTree → List Entry
preorder (tighten i side v row t) = Tighten i side v row ∷ preorder t
preorder (split i v t u) = Split i v ∷ (preorder t ++ preorder u)
preorder (halve i v wide t u) = Halve i v wide ∷ (preorder t ++ preorder u)
preorder (refute parts) = Refute parts ∷ []
preorder undone = Undone ∷ []

-- a tree is sound over a box where its head is and its subtrees are over their boxes
abbrev pub SoundOver : List Form → CostBox → BranchingTree → Type 0
SoundOver forms box (tighten i side v row t) = TightensAt forms box side i v row × SoundOver forms (tightened box side i v) t
SoundOver forms box (split i v t u) = CutsAt box i v × SoundOver forms (with_high box i v) t × SoundOver forms (with_low box i (v + 1)) u
SoundOver forms box (halve i v wide t u) = CutsAt box i v × SoundOver forms (with_high box i v) t × SoundOver forms (with_low box i (v + 1)) u
SoundOver forms box (refute parts) = Refutes forms parts box
SoundOver forms box undone = Unit {0}

-- the entries are those of a sound tree over the box
pub record IsTreeOver (forms : List Form) (box : CostBox) (entries : List Entry) : Type 0 where
  pub tree : BranchingTree
  pub same : preorder tree ≡ entries
  pub sound : SoundOver forms box tree
