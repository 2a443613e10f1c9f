-- How far two lists are from each other, place by place.
use Rattle.std.proofs.Common.{◌≡◌, ℕ, zero, suc, ◌+◌, ◌<◌, refl, sym, ◌∙◌, ap, List, [], ◌∷◌, drop, length, arith}
use Rattle.std.specs.Prelude.{ℤ, pos, ◌+ℤ◌, ◌-ℤ◌, nat_abs, slice_index}
use Rattle.std.proofs.lemmas.Int.{ints}
use Rattle.table_kernel.specs.Moves.{distance_of}

-- how far they are from a place on
abbrev pub left_of : List ℕ → List ℕ → ℕ → ℕ
left_of xs ys i = distance_of (drop i xs) (drop i ys)

-- the place itself, and what is behind it
pub left_step : (xs ys : List ℕ) (i : ℕ) → i < length xs → i < length ys →
    left_of xs ys i ≡ nat_abs (pos (slice_index ys i) -ℤ pos (slice_index xs i)) + left_of xs ys (suc i)
left_step [] ys i i_in there = absurd (omega arith)
left_step (x ∷ xs) [] i i_in there = absurd (omega arith)
left_step (x ∷ xs) (y ∷ ys) zero i_in there = refl
left_step (x ∷ xs) (y ∷ ys) (suc i) i_in there = left_step xs ys i (omega arith) (omega arith)

far_none : (xs : List ℕ) → distance_of xs [] ≡ 0
far_none [] = refl
far_none (x ∷ xs) = refl

-- nothing is left past the end
pub none_left : (xs ys : List ℕ) (i : ℕ) → length xs ≡ i → left_of xs ys i ≡ 0
none_left [] ys zero i_is = refl
none_left [] ys (suc i) i_is = absurd (omega arith)
none_left (x ∷ xs) ys zero i_is = absurd (omega arith)
none_left (x ∷ xs) [] (suc i) i_is = far_none (drop i xs)
none_left (x ∷ xs) (y ∷ ys) (suc i) i_is = none_left xs ys i (omega arith)

-- a sum to which the difference of a place is put
pub distance_turn : (xs ys : List ℕ) (i : ℕ) (sum d a : ℤ) → i < length xs → i < length ys →
    (sum +ℤ pos (left_of xs ys i)) ≡ pos (distance_of xs ys) → d ≡ (pos (slice_index ys i) -ℤ pos (slice_index xs i)) →
    a ≡ pos (nat_abs d) → ((sum +ℤ a) +ℤ pos (left_of xs ys (i + 1))) ≡ pos (distance_of xs ys)
distance_turn xs ys i sum d a i_in there whole d_is a_is =
    let next : suc i ≡ i + 1 = omega arith in
    let step : left_of xs ys i ≡ nat_abs d + left_of xs ys (i + 1) =
    left_step xs ys i i_in there ∙ ap (λ z. nat_abs z + left_of xs ys (suc i)) (sym d_is) ∙ ap (λ k. nat_abs d + left_of xs ys k) next in
    let more : (sum +ℤ pos (nat_abs d + left_of xs ys (i + 1))) ≡ pos (distance_of xs ys) = ap (λ k. sum +ℤ pos k) (sym step) ∙ whole in
    omega (arith, ints)
