-- Rows that rise.
use Rattle.std.proofs.Common.{◌≡◌, ℕ, ◌-◌, ◌<◌, List, ◌∷◌, ◌++◌, length, get_or, true, false, ltb, arith, ap, length-append, inl, inr, refl}
use Rattle.std.specs.Prelude.{AllPairs, ◌⊎◌}
use Rattle.std.proofs.lemmas.Bool.{ltb-true, ltb-false}
use Rattle.std.proofs.lemmas.List.{get_or_append_left}
use Rattle.std.proofs.Math.Seq.{get_or-append_seam}

at_last : (k n : ℕ) → k < n → (k < n - 1) ⊎ (k ≡ n - 1)
at_last k n h = elim (ltb k (n - 1)) as (λ b. ltb k (n - 1) ≡ b → (k < n - 1) ⊎ (k ≡ n - 1))
    [ true ↦ λ e. inl (ltb-true k (n - 1) e) | false ↦ λ e. inr (omega (arith, ltb-false k (n - 1) e)) ] refl

-- a row behind the last one is behind all
pub rises_all : (parts : List (ℕ × ℕ)) (last : ℕ × ℕ) (row : ℕ) → AllPairs (λ a b. a.0 < b.0) parts →
    ((d : ℕ × ℕ) → last ≡ get_or parts (length parts - 1) d) → last.0 < row →
    (k : ℕ) (d : ℕ × ℕ) → k < length parts → (get_or parts k d).0 < row
rises_all parts last row pairs is below k d h =
    elim (at_last k (length parts) h) [
      | inl before ↦ omega (arith, pairs k (length parts - 1) d before (omega arith), ap (λ p. p.0) (is d))
      | inr here
          ↦ omega (arith, ap (λ i. (get_or parts i d).0) here, ap (λ p. p.0) (is d))
    ]

-- where parts go on with a row, each of them is before it
pub behind_all : (xs more : List (ℕ × ℕ)) (p : ℕ × ℕ) → AllPairs (λ a b. a.0 < b.0) (xs ++ p ∷ more) →
    (k : ℕ) (d : ℕ × ℕ) → k < length xs → (get_or xs k d).0 < p.0
behind_all xs more p pairs k d h =
    omega (
      arith,
      pairs k (length xs) d h (omega (arith, length-append xs (p ∷ more))),
      ap (λ q. q.0) (get_or_append_left xs (p ∷ more) d k h),
      ap (λ q. q.0) (get_or-append_seam xs p more d),
    )
