-- Marks at the columns of a line whose number isn't 0: a bit for each column, in words of 64.
use Rattle.std.specs.Prelude.{◌≡◌, ℕ, ◌+◌, ◌/◌, ◌%◌, List, pos, ℤ, length, slice_index_or}
use Rattle.std.specs.Int.{bit_at}
use Rattle.whole_numbers.specs.Lists.{number_at}

-- no mark stands at a column: its bit in the word of its 64 columns is 0
abbrev pub IsUnmarked : List ℕ → ℕ → Type 0
IsUnmarked marks c = bit_at (slice_index_or marks (c / 64) 0) (c % 64) ≡ 0

-- a column without a mark has the number 0, and there is a word of marks for each 64 columns, and one more
pub record AreNumbersMarked (numbers : List ℤ) (marks : List ℕ) : Type 0 where
  pub words : length marks ≡ length numbers / 64 + 1
  pub zeros : (c : ℕ) → IsUnmarked marks c → number_at numbers c ≡ pos 0
