-- What a shelf gave and what a sink was handed between two of its states.
use Rattle.std.specs.Prelude.{◌≡◌, ℕ, ◌≤◌, ◌<◌, List, [], ◌∷◌, ◌++◌, take, length, Option, Result, Ok, Err}
use Rattle.cost_base.specs.declared.ShelfStop.{ShelfStop}
use Rattle.cost_base.specs.declared.ShelfStop.TheVariants.{Failed, TooLong, OutOfMemory}
use Rattle.cost_base.specs.Files.{count_of_name}
use Rattle.cost_base.specs.Outside.{IsFile, IsLonger}

-- a file that was asked for, up to so many bytes, and what came of it: its bytes, or why not
pub record Taken : Type 0 where
  pub name : List ℕ
  pub most : ℕ
  pub came : Result (List ℕ) ShelfStop

-- what came of a call that answered this and read these bytes
abbrev pub came_of : {T : Type 0} → Result T ShelfStop → List ℕ → Result (List ℕ) ShelfStop
came_of (Ok x) bytes = Ok bytes
came_of (Err stop) bytes = Err stop

-- what comes of a file of at most so many bytes is the file, and 'too long' comes of a longer one, where the shelf
-- tells it
abbrev pub IsToldAs : Option (List ℕ) → ℕ → Result (List ℕ) ShelfStop → Type 0
IsToldAs file most (Ok bytes) = IsFile file bytes × (length bytes ≤ most)
IsToldAs file most (Err TooLong) = IsLonger file most
IsToldAs file most (Err Failed) = Unit {0}
IsToldAs file most (Err OutOfMemory) = Unit {0}

-- all that came is true to what a shelf holds
abbrev pub AreTold : (List ℕ → Option (List ℕ)) → List Taken → Type 0
AreTold held [] = Unit {0}
AreTold held (taken ∷ more) = IsToldAs (held taken.name) taken.most taken.came × AreTold held more

-- the name of the file, where the call failed; no name where bytes came, the file was too long, or memory was wanting
abbrev pub failure : List ℕ → Result (List ℕ) ShelfStop → List (List ℕ)
failure name (Ok bytes) = []
failure name (Err TooLong) = []
failure name (Err Failed) = name ∷ []
failure name (Err OutOfMemory) = []

-- the names of the files that failed, one for each call
abbrev pub failures : List Taken → List (List ℕ)
failures [] = []
failures (taken ∷ more) = failure taken.name taken.came ++ failures more

-- exactly the counts of the files that failed rose
pub record CountsFailures (before now : List ℕ → ℕ) (came : List Taken) : Type 0 where
  pub failed : (name : List ℕ) → 0 < count_of_name (failures came) name → before name < now name
  pub kept : (name : List ℕ) → count_of_name (failures came) name ≡ 0 → now name ≡ before name

-- what a shelf gave that notes the name of each file that failed: it holds what it held, and what came is true to it
pub record HasGiven (held_before held_now : List ℕ → Option (List ℕ)) (noted_before noted_now : List (List ℕ)) (came : List Taken) : Type 0 where
  pub held : (name : List ℕ) → held_now name ≡ held_before name
  pub told : AreTold held_before came
  pub noted : noted_now ≡ noted_before ++ failures came

-- what a put hands over: the whole piece or, where it failed, a prefix of it
abbrev pub Hands : {T E : Type 0} → (List ℕ → Type 0) → List ℕ → Result T E → Type 0
Hands handed piece (Ok x) = handed piece
Hands handed piece (Err e) = (n : ℕ) × handed (take n piece)
