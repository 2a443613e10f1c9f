-- What words say one by one.
use Rattle.std.specs.Prelude.{ℕ, List, [], ◌∷◌, Option, Some, None}

-- something before others, where both are there
abbrev pub with_first : {X : Type 0} → Option X → Option (List X) → Option (List X)
with_first (Some x) (Some xs) = Some (x ∷ xs)
with_first _ _ = None

-- what each word says, where each of them says something
abbrev pub all_said : {X : Type 0} → (List ℕ → Option X) → List (List ℕ) → Option (List X)
all_said say [] = Some []
all_said say (word ∷ words) = with_first (say word) (all_said say words)
