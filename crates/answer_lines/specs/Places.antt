-- The first line of the text that a reader has left.
use Rattle.std.specs.Prelude.{◌≡◌, ℕ, ◌≤◌, List, ◌∷◌, ◌++◌, length}
use Rattle.text_lines.specs.Lines.{IsOneLine}
use Rattle.answer_lines.specs.Grammar.{TextPlace}
use Rattle.answer_lines.specs.Lawful.{IsLawful}

-- a text's first line, which ends with an LF, and what is left behind it
pub record IsFirstInText (bytes line left : List ℕ) : Type 0 where
  pub parts : bytes ≡ line ++ 10 ∷ left
  pub one : IsOneLine line
  pub short : length line ≤ 65536

-- a text has no first line of at most 65,536 bytes that ends with an LF
abbrev pub LacksFirst : List ℕ → Type 0
LacksFirst bytes = (line left : List ℕ) → IsFirstInText bytes line left → ⊥

-- no lawful line stands first in a text
abbrev pub LacksLawful : TextPlace → List ℕ → Type 0
LacksLawful place bytes = (line left : List ℕ) → bytes ≡ line ++ 10 ∷ left → IsOneLine line → IsLawful place line → ⊥

-- some lawful line at a place begins with these bytes
abbrev pub BeginsLawful : TextPlace → List ℕ → Type 0
BeginsLawful place rest = (more : List ℕ) × IsLawful place (rest ++ more)
