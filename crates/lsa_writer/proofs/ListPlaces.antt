-- Elements at places, and what tests find.
use Rattle.std.proofs.Common.{◌≡◌, ℕ, zero, suc, ◌+◌, ◌<◌, Bool, true, false, cond, ◌||◌, List, [], ◌∷◌, ◌++◌, Some, map, filter, refl, ap, ◌∙◌, arith, slice_get}
use Rattle.std.specs.Prelude.{flat_map}
use Rattle.std.specs.List.{list_any}
use Rattle.std.proofs.lemmas.Option.{none-some, same_Some, slice_get_within, get_or_from_slice_get}
use Rattle.std.proofs.lemmas.List.Folds.{list_any_at}
use Rattle.cost_base.specs.Lists.{numbers_from}

-- a test passes at a place
pub any_at : {X : Type 0} (test : X → Bool) (xs : List X) (k : ℕ) (x : X) → slice_get xs k ≡ Some x → test x ≡ true → list_any test xs ≡ true
any_at test xs k x at passes = list_any_at test xs k x (slice_get_within xs k x at) (ap test (get_or_from_slice_get xs k x x at) ∙ passes)

-- a test passes at an element that is kept
pub any_kept : {X : Type 0} (keep test : X → Bool) (xs : List X) (k : ℕ) (x : X) → slice_get xs k ≡ Some x →
    keep x ≡ true → test x ≡ true → list_any test (filter keep xs) ≡ true
any_kept keep test [] k x at kept passes = absurd (none-some x at)
any_kept keep test (y ∷ ys) zero x at kept passes =
    ap (λ b. list_any test (cond b (y ∷ filter keep ys) (filter keep ys))) (ap keep (same_Some y x at) ∙ kept)
    ∙ ap (λ b. b || list_any test (filter keep ys)) (ap test (same_Some y x at) ∙ passes)
any_kept keep test (y ∷ ys) (suc k) x at kept passes = with_head (keep y) (test y) (any_kept keep test ys k x at kept passes)
  where
    with_head : (a b : Bool) → list_any test (filter keep ys) ≡ true → list_any test (cond a (y ∷ filter keep ys) (filter keep ys)) ≡ true
    with_head true b later = or_true (test y) later
      where
        or_true : (c : Bool) → list_any test (filter keep ys) ≡ true → (c || list_any test (filter keep ys)) ≡ true
        or_true true h = refl
        or_true false h = h
    with_head false b later = later

-- the number at a place of numbers in a row
pub number_there : (a n k : ℕ) → k < n → slice_get (numbers_from a n) k ≡ Some (a + k)
number_there a zero k below = absurd (omega arith)
number_there a (suc n) zero below = ap Some (omega arith)
number_there a (suc n) (suc k) below = number_there (a + 1) n k (omega arith) ∙ ap Some (omega arith)

-- what stands at a place of two lists, one after the other
pub in_front : {X : Type 0} (xs ys : List X) (k : ℕ) (x : X) → slice_get xs k ≡ Some x → slice_get (xs ++ ys) k ≡ Some x
in_front [] ys k x at = absurd (none-some x at)
in_front (z ∷ xs) ys zero x at = at
in_front (z ∷ xs) ys (suc k) x at = in_front xs ys k x at

-- where all pass, all are kept; where none passes, none is
pub keeps_all : {X : Type 0} (keep : X → Bool) (xs : List X) → ((k : ℕ) (x : X) → slice_get xs k ≡ Some x → keep x ≡ true) → filter keep xs ≡ xs
keeps_all keep [] each = refl
keeps_all keep (x ∷ xs) each =
    ap (λ b. cond b (x ∷ filter keep xs) (filter keep xs)) (each 0 x refl) ∙ ap (λ ys. x ∷ ys) (keeps_all keep xs (λ k y at. each (suc k) y at))

pub keeps_none : {X : Type 0} (keep : X → Bool) (xs : List X) → ((k : ℕ) (x : X) → slice_get xs k ≡ Some x → keep x ≡ false) → filter keep xs ≡ []
keeps_none keep [] each = refl
keeps_none keep (x ∷ xs) each =
    ap (λ b. cond b (x ∷ filter keep xs) (filter keep xs)) (each 0 x refl) ∙ keeps_none keep xs (λ k y at. each (suc k) y at)

-- a flat map of one element each
pub flat_ones : {X Y : Type 0} (f : X → List Y) (g : X → Y) (xs : List X) →
    ((k : ℕ) (x : X) → slice_get xs k ≡ Some x → f x ≡ g x ∷ []) → flat_map f xs ≡ map g xs
flat_ones f g [] each = refl
flat_ones f g (x ∷ xs) each = ap (λ ys. ys ++ flat_map f xs) (each 0 x refl) ∙ ap (λ ys. g x ∷ ys) (flat_ones f g xs (λ k y at. each (suc k) y at))
