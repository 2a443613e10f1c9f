-- Tests of images, and places among them.
use Rattle.std.proofs.Common.{◌≡◌, ℕ, ◌+◌, List, [], ◌∷◌, ◌++◌, Bool, cond, true, false, refl, sym, ap, ◌∙◌, map, Some, None, length, not, ltb}
use Rattle.std.specs.List.{list_any, position_or_len}
use Rattle.std.specs.Prelude.{position}
use Rattle.std.proofs.lemmas.List.{map-append, length-map}
use Rattle.std.proofs.lemmas.List.Recursion.{is_position_or_len}
use Rattle.cost_base.proofs.ListLemmas.{list_any-map}

-- a place among images
place-map : {X Y : Type 0} (p : Y → Bool) (g : X → Y) (xs : List X) → position_or_len p (map g xs) ≡ position_or_len (λ x. p (g x)) xs
place-map {X} {Y} p g xs = is_position_or_len (λ (ys : List X). position_or_len p (map g ys)) (λ x. p (g x)) refl
    (λ x ys. cases (p (g x)) (position_or_len p (map g ys))) xs
  where
    cases : (b : Bool) (n : ℕ) → cond (not b) (1 + n) 0 ≡ cond b 0 (1 + n)
    cases true n = refl
    cases false n = refl

pub position-map : {X Y : Type 0} (p : Y → Bool) (g : X → Y) (xs : List X) → position (λ x. p (g x)) xs ≡ position p (map g xs)
position-map p g xs =
    ap (λ k. cond (ltb k (length xs)) (Some k) None) (sym (place-map p g xs))
    ∙ ap (λ n. cond (ltb (position_or_len p (map g xs)) n) (Some (position_or_len p (map g xs))) None) (sym (length-map xs g))

pub any-map : {X Y : Type 0} (p : Y → Bool) (g : X → Y) (xs : List X) → list_any (λ x. p (g x)) xs ≡ list_any p (map g xs)
any-map p g xs = sym (list_any-map p g xs)

-- images of elements, with one more where none passes
pub map-unless : {X Y : Type 0} (p : Y → Bool) (g : X → Y) (xs : List X) (x : X) →
    map g (cond (list_any (λ x. p (g x)) xs) xs (xs ++ x ∷ [])) ≡ cond (list_any p (map g xs)) (map g xs)
    (map g xs ++ g x ∷ [])
map-unless p g xs x = cases (list_any (λ x. p (g x)) xs) (list_any p (map g xs)) (any-map p g xs)
  where
    cases : (a b : Bool) → a ≡ b → map g (cond a xs (xs ++ x ∷ [])) ≡ cond b (map g xs) (map g xs ++ g x ∷ [])
    cases true true e = refl
    cases false false e = map-append g xs (x ∷ [])
    cases true false e = absurd (cc)
    cases false true e = absurd (cc)
