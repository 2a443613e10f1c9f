-- Trees that a search gives.
use Rattle.std.specs.Prelude.{ℕ, ◌+◌, ◌≤◌, List, length, All}
use Rattle.area_graph.specs.declared.Point.{Point}
use Rattle.design_problem.specs.Forms.{Form}
use Rattle.design_problem.specs.declared.boxes.CostBox.{CostBox}
use Rattle.design_problem.specs.declared.tree.Entry.{Entry}
use Rattle.design_problem.specs.declared.tree.Entry.TheVariants.{Tighten, Split, Halve, Refute, Undone}
use Rattle.design_problem.specs.Earnest.{IsEarnestTree}
use Rattle.design_problem.specs.OpenPlaces.{UndoneLast}
use Rattle.design_problem.specs.Text.{FitsEntry}

-- a Refute names at most one form more than there are variables
abbrev pub HasFewParts : ℕ → Entry → Type 0
HasFewParts n (Tighten var side value row) = Unit {0}
HasFewParts n (Split var value) = Unit {0}
HasFewParts n (Halve var value wide) = Unit {0}
HasFewParts n (Refute parts) = length parts ≤ n + 1
HasFewParts n Undone = Unit {0}

-- what each entry of a search's tree keeps, in n variables: it fits the text of an answer, and names few forms
abbrev pub IsShort : ℕ → Entry → Type 0
IsShort n entry = FitsEntry entry × HasFewParts n entry

-- a tree that a search gives: it is earnest over the box, with accepted points for relaxed ones; no other entry comes
-- after an Undone, and its entries are short
pub record IsSearchTree (accepted : Point → Type 0) (top : ℕ) (forms : List Form) (box : CostBox) (tree : List Entry) : Type 0 where
  pub earnest : IsEarnestTree accepted top forms box tree
  pub last : UndoneLast tree
  pub short : All (IsShort (length box.low)) tree
