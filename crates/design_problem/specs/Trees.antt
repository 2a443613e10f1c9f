-- Branching trees over a box, as the list of their entries in preorder: a Tighten has one subtree, a Split and a
-- Halve two, a Refute and an Undone none. So the next entry speaks of the first box that is still open.
use Rattle.std.specs.Prelude.{◌≡◌, ℕ, zero, suc, ◌+◌, ◌-◌, ◌<◌, ◌≤◌, List, [], ◌∷◌, ◌++◌, pos, ◌<ℤ◌, length, slice_index, Bool, true, false, if◌then◌else◌}
use Rattle.design_problem.specs.declared.form.Form.{Form}
use Rattle.design_problem.specs.declared.boxes.CostBox.{CostBox}
use Rattle.design_problem.specs.declared.tree.Side.{Side}
use Rattle.design_problem.specs.declared.tree.Side.TheVariants.{Low, High}
use Rattle.design_problem.specs.declared.tree.Entry.{Entry}
use Rattle.design_problem.specs.declared.tree.Entry.TheVariants.{Tighten, Split, Halve, Refute, Undone}
use Rattle.design_problem.specs.Forms.{form_at}
use Rattle.design_problem.specs.Boxes.{greatest, Refutes, with_low, with_high}

-- the box without the part at the named side that a Tighten removes
abbrev pub tightened : CostBox → Side → ℕ → ℕ → CostBox
tightened box Low var value = with_low box var value
tightened box High var value = with_high box var value

-- the part of the box that a Tighten removes
abbrev pub removed : CostBox → Side → ℕ → ℕ → CostBox
removed box Low var value = with_high box var (value - 1)
removed box High var value = with_low box var (value + 1)

-- the new bound makes the range smaller, and not empty
abbrev pub IsSmaller : CostBox → Side → ℕ → ℕ → Type 0
IsSmaller box Low var value = (slice_index box.low var < value) × (value ≤ slice_index box.high var)
IsSmaller box High var value = (slice_index box.low var ≤ value) × (value < slice_index box.high var)

-- a Tighten is sound: its new bound is within the range, and its row's form is negative over the part that it removes
pub record TightensAt (forms : List Form) (box : CostBox) (side : Side) (var value row : ℕ) : Type 0 where
  pub var_known : var < length box.low
  pub smaller : IsSmaller box side var value
  pub row_known : row < length forms
  pub refuted : greatest (form_at forms row) (removed box side var value) <ℤ pos 0

-- a cut is sound: the value lies in the range, and below its upper end
pub record CutsAt (box : CostBox) (var value : ℕ) : Type 0 where
  pub var_known : var < length box.low
  pub above : slice_index box.low var ≤ value
  pub below : value < slice_index box.high var

-- an entry is sound at its box
abbrev pub SoundAt : List Form → CostBox → Entry → Type 0
SoundAt forms box (Tighten var side value row) = TightensAt forms box side var value row
SoundAt forms box (Split var value) = CutsAt box var value
SoundAt forms box (Halve var value wide) = CutsAt box var value
SoundAt forms box (Refute parts) = Refutes forms parts box
SoundAt forms box Undone = Unit {0}

-- the boxes of an entry's subtrees
abbrev pub subboxes : CostBox → Entry → List CostBox
subboxes box (Tighten var side value row) = tightened box side var value ∷ []
subboxes box (Split var value) = with_high box var value ∷ with_low box var (value + 1) ∷ []
subboxes box (Halve var value wide) = with_high box var value ∷ with_low box var (value + 1) ∷ []
subboxes box (Refute parts) = []
subboxes box Undone = []

-- the entries are sound trees over the open boxes, one for each, in order
abbrev pub Sound : List Form → List CostBox → List Entry → Type 0
Sound forms [] [] = Unit {0}
Sound forms (box ∷ boxes) [] = ⊥
Sound forms [] (entry ∷ entries) = ⊥
Sound forms (box ∷ boxes) (entry ∷ entries) =
    SoundAt forms box entry × Sound forms (subboxes box entry ++ boxes) entries

-- a sound tree over one box
abbrev pub IsSoundTree : List Form → CostBox → List Entry → Type 0
IsSoundTree forms box tree = Sound forms (box ∷ []) tree

-- whether an entry is an Undone
abbrev pub is_undone : Entry → Bool
is_undone Undone = true
is_undone (Tighten var side value row) = false
is_undone (Split var value) = false
is_undone (Halve var value wide) = false
is_undone (Refute parts) = false

-- no entry is an Undone
abbrev pub IsClosed : List Entry → Type 0
IsClosed [] = Unit {0}
IsClosed (entry ∷ entries) = (is_undone entry ≡ false) × IsClosed entries

-- how many entries a tree has: its Tightens, Splits, Halves and Refutes
abbrev pub entry_count : List Entry → ℕ
entry_count [] = 0
entry_count (entry ∷ entries) = (if is_undone entry then 0 else 1) + entry_count entries

-- how many subtrees an entry has
abbrev pub subtree_count : Entry → ℕ
subtree_count (Tighten var side value row) = 1
subtree_count (Split var value) = 2
subtree_count (Halve var value wide) = 2
subtree_count (Refute parts) = 0
subtree_count Undone = 0

-- the list is exactly so many whole trees
abbrev pub AreSeveralTrees : ℕ → List Entry → Type 0
AreSeveralTrees zero [] = Unit {0}
AreSeveralTrees (suc n) [] = ⊥
AreSeveralTrees zero (entry ∷ entries) = ⊥
AreSeveralTrees (suc n) (entry ∷ entries) = AreSeveralTrees (subtree_count entry + n) entries

-- the list is the entries of exactly one tree
abbrev pub IsSingleTree : List Entry → Type 0
IsSingleTree entries = AreSeveralTrees 1 entries
