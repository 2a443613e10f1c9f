-- What a tree that is built keeps: one box and a stack of changed ends for the open places, and marks for what was
-- tightened.
use Rattle.std.specs.Prelude.{◌≡◌, ℕ, ◌+◌, ◌<◌, ◌≤◌, ◌↔◌, Bool, true, false, List, [], ◌∷◌, map, length, reverse, slice_index, All, Contains}
use Rattle.design_problem.specs.declared.tree.Side.{Side}
use Rattle.design_problem.specs.declared.tree.Side.TheVariants.{Low as LowSide, High as HighSide}
use Rattle.design_problem.specs.declared.tree.Entry.{Entry}
use Rattle.design_problem.specs.declared.tree.Entry.TheVariants.{Tighten, Split, Halve, Refute, Undone}
use Rattle.design_problem.specs.declared.boxes.CostBox.{CostBox}
use Rattle.design_problem.specs.declared.marks.Marks.{Marks}
use Rattle.design_problem.specs.Stack.{OpenBoxes}
use Rattle.design_problem.specs.Earnest.{OpenPlace}
use Rattle.design_problem.specs.OpenPlaces.{fresh}

-- the variables and sides of the Tightens that come last, by the entries from the last on
abbrev pub last_run : List Entry → List (ℕ × Side)
last_run [] = []
last_run (Tighten var side value row ∷ entries) = (var, side) ∷ last_run entries
last_run (Split var value ∷ entries) = []
last_run (Halve var value wide ∷ entries) = []
last_run (Refute parts ∷ entries) = []
last_run (Undone ∷ entries) = []

-- the variables and sides that were tightened since the last entry of another kind
abbrev pub run_of : List Entry → List (ℕ × Side)
run_of entries = last_run (reverse entries)

-- the boxes that are open, the present one first; none where none is
abbrev pub opened : Bool → OpenBoxes → List CostBox
opened false boxes = []
opened true boxes = boxes.present ∷ boxes.behind

-- the open places of a tree that is built, the present one first; none where none is open
abbrev pub places_of : Bool → OpenBoxes → List Entry → List OpenPlace
places_of false boxes entries = []
places_of true boxes entries = record { box = boxes.present; since = run_of entries } ∷ map fresh boxes.behind

-- a side's mark of a variable is above what has begun exactly where the variable was tightened there since
abbrev pub AreSideMarks : Side → ℕ → List (ℕ × Side) → List ℕ → Type 0
AreSideMarks side begun run marks = (var : ℕ) → var < length marks → (begun < slice_index marks var) ↔ Contains run (var, side)

-- what the marks keep: for each variable and side, whether it was tightened since the last cut
pub record KeepsMarks (n : ℕ) (entries : List Entry) (marks : Marks) : Type 0 where
  pub low_count : length marks.low.items ≡ n
  pub high_count : length marks.high.items ≡ n
  pub low_small : All (λ mark. mark ≤ length entries) marks.low.items
  pub high_small : All (λ mark. mark ≤ length entries) marks.high.items
  pub begun : marks.begun + length (run_of entries) ≡ length entries
  pub low_marks : AreSideMarks LowSide marks.begun (run_of entries) marks.low.items
  pub high_marks : AreSideMarks HighSide marks.begun (run_of entries) marks.high.items

-- what a tree that is built keeps: each open box is of as many variables as the marks are
pub record KeepsBuilder (entries : List Entry) (is_open : Bool) (boxes : OpenBoxes) (marks : Marks) : Type 0 where
  pub counts : All (λ box. length box.low ≡ length marks.low.items) (opened is_open boxes)
  pub marked : KeepsMarks (length marks.low.items) entries marks
