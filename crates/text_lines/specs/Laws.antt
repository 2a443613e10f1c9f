-- The laws of this crate, each the contract of a function of `laws`.
use Rattle.std.specs.Prelude.{◌≡◌, ℕ, ◌≤◌, ◌<◌, ◌^◌, List, ◌∷◌, ◌++◌, length, Some, true, false, All}
use Rattle.std.specs.List.{join_with_byte}
use Rattle.cost_base.specs.Words.{IsOneWord}
use Rattle.cost_base.specs.Decimal.{decimal}
use Rattle.text_lines.specs.Lines.{lines, words, ends_line, with_ends, IsOneLine}
use Rattle.text_lines.specs.Numbers.{number}

-- a text of lines that each end with an LF has these lines
abbrev pub LinesReadBack : Type 0
LinesReadBack = (ls : List (List ℕ)) → All IsOneLine ls → lines (with_ends ls) ≡ ls

-- a text that follows a whole line, or an LF that ends the last one, adds its own lines
abbrev pub LinesAdd : Type 0
LinesAdd =
    ((a b : List ℕ) → ends_line a ≡ true → lines (a ++ b) ≡ lines a ++ lines b)
    × ((a b : List ℕ) → ends_line a ≡ false → lines (a ++ 10 ∷ b) ≡ lines a ++ lines b)

-- words with one space between each two are read back, also behind a space
abbrev pub WordsReadBack : Type 0
WordsReadBack =
    (ws : List (List ℕ)) → All IsOneWord ws → (words (join_with_byte 32 ws) ≡ ws) × (words (32 ∷ join_with_byte 32 ws) ≡ ws)

-- a printed number is one word, has at most as many digits as its bound, and is read back
abbrev pub NumbersReadBack : Type 0
NumbersReadBack =
    ((n : ℕ) → IsOneWord (decimal n))
    × ((k n : ℕ) → 1 ≤ k → n < 10 ^ k → length (decimal n) ≤ k)
    × ((n greatest : ℕ) → n ≤ greatest → greatest < 10 ^ 10 → number (decimal n) greatest ≡ Some n)
    × ((m n : ℕ) → decimal m ≡ decimal n → m ≡ n)
