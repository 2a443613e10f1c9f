-- Lines of words, and addresses among their words.
use Rattle.std.specs.Prelude.{ℕ, ◌/◌, ◌%◌, List, [], ◌∷◌, ◌++◌, codes}
use Rattle.std.specs.List.{join_with_byte}
use Rattle.cost_base.specs.Decimal.{decimal}

-- a line of words: one space between each two, and an LF behind them
abbrev pub line_of_words : List (List ℕ) → List ℕ
line_of_words words = join_with_byte 32 words ++ 10 ∷ []

-- a line with more words behind it, each after one space
abbrev pub with_words : List ℕ → List (List ℕ) → List ℕ
with_words line [] = line
with_words line (word ∷ words) = with_words (line ++ 32 ∷ word) words

-- an address or a router ID of 32 bits as a dotted quad: its four bytes in decimal, the highest first, with a dot
-- between each two
abbrev pub dotted_quad : ℕ → List ℕ
dotted_quad a =
    decimal (a / 16777216)
    ++ codes "." ++ decimal (a / 65536 % 256)
    ++ codes "." ++ decimal (a / 256 % 256)
    ++ codes "." ++ decimal (a % 256)
