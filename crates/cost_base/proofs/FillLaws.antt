-- Lists of things that calls made.
use Rattle.std.proofs.Common.{◌≡◌, ℕ, refl, List, [], ◌∷◌, ◌++◌, ap, sym, ◌∙◌, map, replicate, length, subst}
use Rattle.std.specs.Prelude.{All}
use Rattle.std.specs.List.{AppendsResults, FoldsTo}
use Rattle.cost_base.specs.Lists.{numbers_from}
use Rattle.cost_base.proofs.ListLemmas.{length-numbers_from}
use Rattle.std.proofs.lemmas.List.Elements.{All-cons, All-head, All-nil, All-tail}

-- each thing came of a call
each_made : {F X : Type 0} (step : F → X → F → Type 0) (first : F) (xs : List X) (last : F) → FoldsTo step first xs last →
    All (λ x. (before : F) × (after : F) × step before x after) xs
each_made {F} {X} step first [] last calls = All-nil (λ x. (before : F) × (after : F) × step before x after)
each_made {F} {X} step first (x ∷ xs) last calls =
    All-cons (λ y. (before : F) × (after : F) × step before y after) x xs (first, calls.0, calls.1)
    (each_made step calls.0 xs last calls.2)

pub all_made : {F X : Type 0} (step : F → X → F → Type 0) (first : F) (old new : List X) → old ≡ [] → AppendsResults step old new first →
    All (λ x. (before : F) × (after : F) × step before x after) new
all_made {F} {X} step first old new none calls =
    subst (λ (xs : List X). All (λ x. (before : F) × (after : F) × step before x after) xs)
    (sym (calls.2 ∙ ap (λ (xs : List X). xs ++ calls.0) none))
    (each_made step first calls.0 calls.1 calls.3)

-- things of which a view is always the same are alike
pub all_alike : {X Y : Type 0} (view : X → Y) (y : Y) (xs : List X) → All (λ x. view x ≡ y) xs → map view xs ≡ replicate (length xs) y
all_alike view y [] each = refl
all_alike view y (x ∷ xs) each =
    cc (All-head (λ z. view z ≡ y) x xs each, all_alike view y xs (All-tail (λ z. view z ≡ y) x xs each))

-- a function that always gives the same
pub map_same : {X Y : Type 0} (y : Y) (xs : List X) → map (λ x. y) xs ≡ replicate (length xs) y
map_same y [] = refl
map_same y (x ∷ xs) = ap (λ (ys : List _). y ∷ ys) (map_same y xs)

-- so many equal things are what such a function gives of so many numbers
pub filled_numbers : {Y : Type 0} (y : Y) (n : ℕ) → replicate n y ≡ map (λ k. y) (numbers_from 0 n)
filled_numbers y n = ap (λ (k : ℕ). replicate k y) (sym (length-numbers_from 0 n)) ∙ sym (map_same y (numbers_from 0 n))
