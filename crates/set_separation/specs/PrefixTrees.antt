-- The tree of the common prefixes of some paths: place 0 is the empty prefix, and each step leads from a place by an
-- edge to the place whose number is one above the step's.
use Rattle.std.specs.Prelude.{◌≡◌, ℕ, ◌+◌, ◌<◌, ◌≤◌, ◌⊎◌, List, [], ◌∷◌, ◌++◌, length, slice_index_or, All, Contains}
use Rattle.area_graph.specs.Area.{Area}
use Rattle.area_graph.specs.Paths.{Ends, IsPathOf}
use Rattle.set_separation.specs.declared.prefix_tree.Step.{Step}

-- what stands for a step past the end
abbrev pub no_step : Step
no_step = record { place = 0; edge = 0 }

-- the step of a number
abbrev pub step_at : List Step → ℕ → Step
step_at steps i = slice_index_or steps i no_step

-- step i leads from the place by the edge
pub record IsPrefixStep (steps : List Step) (place edge i : ℕ) : Type 0 where
  pub within : i < length steps
  pub from : (step_at steps i).place ≡ place
  pub by : (step_at steps i).edge ≡ edge

-- some step leads from the place by the edge
abbrev pub HasStep : List Step → ℕ → ℕ → Type 0
HasStep steps place edge = (i : ℕ) × IsPrefixStep steps place edge i

-- the prefix at a place, as its list of edges
abbrev pub prefix_of_place : List (List ℕ) → ℕ → List ℕ
prefix_of_place prefixes k = slice_index_or prefixes k []

-- the edges begin one of the paths
pub record BeginsOneOf (paths : List (List ℕ)) (es : List ℕ) : Type 0 where
  pub path : List ℕ
  pub listed : Contains paths path
  pub more : List ℕ
  pub same : path ≡ es ++ more

-- The steps make a tree whose places are prefixes of the wanted paths, no prefix at two places, and each prefix of the
-- paths that are done has its place.
pub record IsGrown (wanted done : List (List ℕ)) (steps : List Step) : Type 0 where
  pub prefixes : List (List ℕ)
  pub count : length prefixes ≡ length steps + 1
  pub root : prefix_of_place prefixes 0 ≡ []
  pub before : (i : ℕ) → i < length steps → (step_at steps i).place ≤ i
  pub grown : (i : ℕ) → i < length steps → prefix_of_place prefixes (i + 1) ≡ prefix_of_place prefixes (step_at steps i).place ++ (step_at steps i).edge ∷ []
  pub different : (k l : ℕ) → k ≤ length steps → l ≤ length steps → prefix_of_place prefixes k ≡ prefix_of_place prefixes l → k ≡ l
  pub begun : (k : ℕ) → k ≤ length steps → BeginsOneOf wanted (prefix_of_place prefixes k)
  pub passed : (path : List ℕ) → Contains done path → (k e : ℕ) (rest : List ℕ) → k ≤ length steps → path ≡ prefix_of_place prefixes k ++ e ∷ rest →
      HasStep steps k e

-- the tree of the prefixes of wanted paths of a request
pub record IsPrefixTree (g : Area) (ends : Ends) (wanted : List (List ℕ)) (steps : List Step) : Type 0 where
  pub grown : IsGrown wanted wanted steps
  pub paths : All (IsPathOf g ends) wanted

-- a path is on its way into the tree: its first edges have led to a place
pub record IsUnderway (wanted done : List (List ℕ)) (edges : List ℕ) (place : ℕ) (steps : List Step) : Type 0 where
  pub tree : IsGrown wanted done steps
  pub known : place ≤ length steps
  pub here : prefix_of_place tree.prefixes place ≡ edges
  pub passed : (k e : ℕ) (rest : List ℕ) → k ≤ length steps → edges ≡ prefix_of_place tree.prefixes k ++ e ∷ rest → HasStep steps k e

-- the place to which an edge leads from a place: by a step that was there, or by a new one at the end
abbrev pub IsPlaceAfter : List Step → List Step → ℕ → ℕ → ℕ → Type 0
IsPlaceAfter old new place edge next =
    ((new ≡ old) × ((i : ℕ) × IsPrefixStep old place edge i × (next ≡ i + 1)))
    ⊎ ((new ≡ old ++ record { place = place; edge = edge } ∷ []) × (HasStep old place edge → ⊥) × (next ≡ length old + 1))
