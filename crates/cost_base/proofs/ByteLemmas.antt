-- The test of same bytes: it decides whether two names are one.
use Rattle.std.proofs.Common.{◌≡◌, ◌≢◌, ℕ, refl, sym, ◌∙◌, List, Bool, true, false}
use Rattle.std.proofs.lemmas.Bool.{false_from_ne_true}
use Rattle.std.proofs.lemmas.Slice.Eq.{bytes_eq-Decides}
use Rattle.cost_base.specs.Lists.{same_bytes}

-- names with the same bytes are one name
pub same_bytes-true : (xs ys : List ℕ) → same_bytes xs ys ≡ true → xs ≡ ys
same_bytes-true xs ys same = (bytes_eq-Decides xs ys).0 same

-- one name has the same bytes
pub same_bytes-same : (xs ys : List ℕ) → xs ≡ ys → same_bytes xs ys ≡ true
same_bytes-same xs ys same = (bytes_eq-Decides xs ys).1 same

pub same_bytes-refl : (xs : List ℕ) → same_bytes xs xs ≡ true
same_bytes-refl xs = same_bytes-same xs xs refl

-- other names have other bytes
pub same_bytes-other : (xs ys : List ℕ) → xs ≢ ys → same_bytes xs ys ≡ false
same_bytes-other xs ys other = false_from_ne_true (same_bytes xs ys) (λ same. other (same_bytes-true xs ys same))

-- bytes compare the same either way round
pub same_bytes-swap : (xs ys : List ℕ) → same_bytes xs ys ≡ same_bytes ys xs
same_bytes-swap xs ys = cases (same_bytes xs ys) (same_bytes ys xs) refl refl
  where
    cases : (a b : Bool) → same_bytes xs ys ≡ a → same_bytes ys xs ≡ b → a ≡ b
    cases true b there back = sym (same_bytes-same ys xs (sym (same_bytes-true xs ys there))) ∙ back
    cases false true there back = sym there ∙ same_bytes-same xs ys (sym (same_bytes-true ys xs back))
    cases false false there back = refl
