-- The open boxes of a tree: the box that the next entry speaks of, and those that wait behind it. They are told by one
-- box and a stack of the ends that were changed.
use Rattle.std.specs.Prelude.{◌≡◌, ℕ, ◌+◌, ◌<◌, List, [], ◌∷◌, length, reverse, All}
use Rattle.design_problem.specs.declared.boxes.CostBox.{CostBox}
use Rattle.design_problem.specs.declared.open_boxes.Change.{Change}
use Rattle.design_problem.specs.declared.open_boxes.Change.TheVariants.{Low, High, Second}
use Rattle.design_problem.specs.Boxes.{with_low, with_high}

-- the open boxes of a tree: the present one, and those that wait behind it
pub record OpenBoxes : Type 0 where
  pub present : CostBox
  pub behind : List CostBox

-- the boxes that wait behind a box, by the changes that are put back, the last one first
abbrev pub waiting : CostBox → List Change → List CostBox
waiting box [] = []
waiting box (Low var was ∷ changes) = waiting (with_low box var was) changes
waiting box (High var was ∷ changes) = waiting (with_high box var was) changes
waiting box (Second var value was ∷ changes) = with_low (with_high box var was) var (value + 1) ∷ waiting (with_high box var was) changes

-- the open boxes that a box and its changed ends tell
abbrev pub open_boxes_of : CostBox → List Change → OpenBoxes
open_boxes_of box changes = record { present = box; behind = waiting box (reverse changes) }

-- a change is of one of n variables, and a value after that of a cut is a cost
abbrev pub IsChange : ℕ → Change → Type 0
IsChange n (Low var was) = var < n
IsChange n (High var was) = var < n
IsChange n (Second var value was) = (var < n) × (value < 65535)

-- the box has as many upper ends as lower ones, and the changes are of its variables
pub record IsStack (box : CostBox) (changes : List Change) : Type 0 where
  pub counts : length box.low ≡ length box.high
  pub known : All (IsChange (length box.low)) changes
