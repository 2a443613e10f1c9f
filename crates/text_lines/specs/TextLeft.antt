-- A text that is read line by line.
use Rattle.std.specs.Prelude.{ℕ, List, Bool}

-- the bytes that are left, how many lines were read, whether the last of them ended with an LF, and the greatest length
-- of a line
pub record TextLeft : Type 0 where
  pub bytes : List ℕ
  pub read : ℕ
  pub ended : Bool
  pub longest : ℕ
