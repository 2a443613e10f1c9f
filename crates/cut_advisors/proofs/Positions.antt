-- Positions that fit 32 bits.
use Rattle.std.proofs.Common.{◌≡◌, ℕ, ◌<◌, ◌≤◌, List, Bool, length, arith, refl, Option, Some, None}
use Rattle.std.specs.Prelude.{position, unwrap_or}
use Rattle.std.proofs.lemmas.List.Quantifiers.{position-Some}

module _ {X : Type 0} (p : X → Bool) (xs : List X) (bound : ℕ) (d : X) (enough : length xs ≤ bound) (some : 0 < bound) where
  below : (o : Option ℕ) → position p xs ≡ o → unwrap_or o 0 < bound
  below None e = some
  below (Some i) e = let h : i < length xs = (position-Some p xs i d e).0 in omega arith

  -- the first position, or 0, is below every bound of the length
  pub position_below : unwrap_or (position p xs) 0 < bound
  position_below = below (position p xs) refl
