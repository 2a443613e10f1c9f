-- Earnest trees: no box is cut before exact reasoning over all points has shown nothing more.
use Rattle.std.specs.Prelude.{◌≡◌, ℕ, ◌+◌, ◌*◌, ◌<◌, ◌⊎◌, List, [], ◌∷◌, ◌++◌, pos, ◌≤ℤ◌, map, slice_index, All, Contains}
use Rattle.area_graph.specs.declared.Point.{Point}
use Rattle.design_problem.specs.declared.form.Form.{Form}
use Rattle.design_problem.specs.declared.boxes.CostBox.{CostBox}
use Rattle.design_problem.specs.declared.tree.Side.{Side}
use Rattle.design_problem.specs.declared.tree.Entry.{Entry}
use Rattle.design_problem.specs.declared.tree.Entry.TheVariants.{Tighten, Split, Halve, Refute, Undone}
use Rattle.design_problem.specs.Forms.{form_at}
use Rattle.design_problem.specs.Boxes.{greatest, with_low, with_high, IsPointOf}
use Rattle.design_problem.specs.Trees.{SoundAt, IsSoundTree, subboxes}
use Rattle.design_problem.specs.Steps.{IsStepTooWide}
use Rattle.design_problem.specs.declared.form.Row.{Row}
use Rattle.design_problem.specs.Problems.{DesignProblem}
use Rattle.design_problem.specs.Rows.{IsRow, LeadsEach, form_of_row, forms_of_rows}

-- the first list comes before the second in lexicographic order, at a number that is less
abbrev pub LexLess : List ℕ → List ℕ → Type 0
LexLess [] ys = ⊥
LexLess (x ∷ xs) [] = ⊥
LexLess (x ∷ xs) (y ∷ ys) = (x < y) ⊎ ((x ≡ y) × LexLess xs ys)

-- one point comes before another: at the first variable where they differ it has the lesser value
abbrev pub Before : Point → Point → Type 0
Before p q = LexLess (map (λ x. x * q.scale) p.values) (map (λ y. y * p.scale) q.values)

-- an accepted point of the box before which none comes
pub record IsLeastPoint (accepts : Point → Type 0) (box : CostBox) (point : Point) : Type 0 where
  pub inside : IsPointOf box point
  pub accepted : accepts point
  pub least : (other : Point) → IsPointOf box other → accepts other → Before other point → ⊥

-- the least accepted point of the box is fractional there, between v and v + 1
pub record SplitsFraction (accepts : Point → Type 0) (box : CostBox) (var v : ℕ) : Type 0 where
  pub point : Point
  pub least : IsLeastPoint accepts box point
  pub above : v * point.scale < slice_index point.values var
  pub below : slice_index point.values var < (v + 1) * point.scale

-- an open box, with the variables and sides that were tightened since the last entry with two subtrees
pub record OpenPlace : Type 0 where
  pub box : CostBox
  pub since : List (ℕ × Side)

-- the part of the box at the new bound itself
abbrev pub at_bound : CostBox → ℕ → ℕ → CostBox
at_bound box var value = with_low (with_high box var value) var value

-- an earnest entry: a Tighten goes as far as its form can, once since a cut; a cut is at a fraction or a wide step
abbrev pub EarnestAt : (Point → Type 0) → ℕ → List Form → OpenPlace → Entry → Type 0
EarnestAt accepts top rows place (Tighten var side value row) =
    (pos 0 ≤ℤ greatest (form_at rows row) (at_bound place.box var value)) × (Contains place.since (var, side) → ⊥)
EarnestAt accepts top rows place (Split var value) = SplitsFraction accepts place.box var value
EarnestAt accepts top rows place (Halve var value wide) = IsStepTooWide top place.box rows wide
EarnestAt accepts top rows place (Refute parts) = Unit {0}
EarnestAt accepts top rows place Undone = Unit {0}

-- what was tightened since the last cut, after an entry
abbrev pub since_after : List (ℕ × Side) → Entry → List (ℕ × Side)
since_after since (Tighten var side value row) = (var, side) ∷ since
since_after since (Split var value) = []
since_after since (Halve var value wide) = []
since_after since (Refute parts) = []
since_after since Undone = []

-- the open places of an entry's subtrees
abbrev pub subplaces : OpenPlace → Entry → List OpenPlace
subplaces place e = map (λ box. record { box = box; since = since_after place.since e }) (subboxes place.box e)

-- the entries are earnest trees over the open places, one for each, in order
abbrev pub Earnest : (Point → Type 0) → ℕ → List Form → List OpenPlace → List Entry → Type 0
Earnest accepts top rows [] [] = Unit {0}
Earnest accepts top rows (place ∷ places) [] = ⊥
Earnest accepts top rows [] (e ∷ entries) = ⊥
Earnest accepts top rows (place ∷ places) (e ∷ entries) =
    SoundAt rows place.box e × EarnestAt accepts top rows place e × Earnest accepts top rows (subplaces place e ++ places) entries

-- the entries are one earnest tree over the box
abbrev pub IsEarnestTree : (Point → Type 0) → ℕ → List Form → CostBox → List Entry → Type 0
IsEarnestTree accepts top rows box tree = Earnest accepts top rows (record { box = box; since = [] } ∷ []) tree

-- A tree over true forms: sound over these forms, and earnest with some further true ones. A step that is too wide may
-- need forms that stand in no entry and no basis of the tree.
pub record IsEarnestOver (accepts : Point → Type 0) (IsTrueForm : Form → Type 0) (top : ℕ) (forms : List Form)
    (box : CostBox) (tree : List Entry) : Type 0 where
  pub sound : IsSoundTree forms box tree
  pub more : List Form
  pub more_true : All IsTrueForm more
  pub earnest : IsEarnestTree accepts top (forms ++ more) box tree

-- the form is that of a row of the problem
pub record IsFormOfRow (p : DesignProblem) (form : Form) : Type 0 where
  pub row : Row
  pub is_row : IsRow p row
  pub same : form_of_row p row ≡ form

-- an earnest tree of a problem: a point is accepted where each wanted path leads by the scale, and a form is true where
-- it is that of a row
abbrev pub IsEarnestFor : DesignProblem → ℕ → List Row → CostBox → List Entry → Type 0
IsEarnestFor p top rows box tree = IsEarnestOver (LeadsEach p) (IsFormOfRow p) top (forms_of_rows p rows) box tree
