-- A branching tree while it grows: its entries so far, in preorder, and the places that are still open.
use Rattle.std.specs.Prelude.{◌≡◌, ℕ, ◌<◌, ◌≤◌, List, [], ◌∷◌, ◌++◌, length, replicate, slice_index, All, AllPairs}
use Rattle.area_graph.specs.declared.Point.{Point}
use Rattle.design_problem.specs.declared.form.Form.{Form}
use Rattle.design_problem.specs.declared.form.Row.{Row}
use Rattle.design_problem.specs.declared.boxes.CostBox.{CostBox}
use Rattle.design_problem.specs.declared.tree.Entry.{Entry}
use Rattle.design_problem.specs.declared.tree.Entry.TheVariants.{Undone}
use Rattle.design_problem.specs.Problems.{DesignProblem}
use Rattle.design_problem.specs.Rows.{IsRow}
use Rattle.design_problem.specs.Trees.{SoundAt, IsClosed}
use Rattle.design_problem.specs.Earnest.{OpenPlace, EarnestAt, subplaces}

-- after these entries in preorder, each sound and earnest at its place, just the last list of places is still open
abbrev pub LeavesPlacesOpen : (Point → Type 0) → ℕ → List Form → List OpenPlace → List Entry → List OpenPlace → Type 0
LeavesPlacesOpen accepts top forms places [] left = places ≡ left
LeavesPlacesOpen accepts top forms [] (entry ∷ entries) left = ⊥
LeavesPlacesOpen accepts top forms (place ∷ places) (entry ∷ entries) left =
    SoundAt forms place.box entry × EarnestAt accepts top forms place entry × LeavesPlacesOpen accepts top forms (subplaces place entry ++ places) entries left

-- a tree as it grows: its entries so far in preorder, and its open places
pub record Growing : Type 0 where
  pub entries : List Entry
  pub places : List OpenPlace

-- the open places after an entry at the first of these open places
abbrev pub places_after : List OpenPlace → Entry → List OpenPlace
places_after [] entry = []
places_after (place ∷ places) entry = subplaces place entry ++ places

-- the tree with one more entry
abbrev pub grown : Growing → Entry → Growing
grown tree entry = record { entries = tree.entries ++ entry ∷ []; places = places_after tree.places entry }

-- the place of a box at which nothing was tightened yet
abbrev pub fresh : CostBox → OpenPlace
fresh box = record { box = box; since = [] }

-- the first place, and an empty box where there is none
abbrev pub first_place : List OpenPlace → OpenPlace
first_place [] = fresh (record { low = []; high = [] })
first_place (place ∷ places) = place

-- a list of so many Undones
abbrev pub undones : ℕ → List Entry
undones n = replicate n Undone

-- no other entry comes after an Undone
pub record UndoneLast (entries : List Entry) : Type 0 where
  pub done : List Entry
  pub closed : IsClosed done
  pub undone : ℕ
  pub same : entries ≡ done ++ undones undone

-- a box whose ranges lie within those of another one
pub record IsSubbox (outer box : CostBox) : Type 0 where
  pub low_count : length box.low ≡ length outer.low
  pub high_count : length box.high ≡ length outer.high
  pub low : (k : ℕ) → k < length box.low → slice_index outer.low k ≤ slice_index box.low k
  pub high : (k : ℕ) → k < length box.high → slice_index box.high k ≤ slice_index outer.high k
