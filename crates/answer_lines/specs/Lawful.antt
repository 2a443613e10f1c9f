-- Lines that are lawful at a place, and what they lead to.
use Rattle.std.specs.Prelude.{◌≡◌, ℕ, ◌+◌, ◌≤◌, List, [], ◌∷◌, ◌++◌, length}
use Rattle.text_lines.specs.Lines.{with_ends}
use Rattle.answer_lines.specs.Grammar.{TextPlace, AtUnread, Next}

-- a line that is read has at most 65,536 bytes; one that nobody reads has any number of them
abbrev pub HasLineRoom : TextPlace → List ℕ → Type 0
HasLineRoom (AtUnread more) line = Unit {0}
HasLineRoom place line = length line ≤ 65536

-- a line is lawful at a place, and leads to the next one: it is in the grammar there, and not too long
pub record LineLeads (place : TextPlace) (line : List ℕ) (next : TextPlace) : Type 0 where
  pub is : Next place line next
  pub short : HasLineRoom place line

-- from a place these lines, each lawful where it stands, lead to another place
abbrev pub LeadOn : TextPlace → List (List ℕ) → TextPlace → Type 0
LeadOn place [] last = place ≡ last
LeadOn place (line ∷ lines) last = (next : TextPlace) × LineLeads place line next × LeadOn next lines last

-- the line is lawful at the place: it leads somewhere
abbrev pub IsLawful : TextPlace → List ℕ → Type 0
IsLawful place line = (next : TextPlace) × LineLeads place line next

-- from a place, lawful lines lead to another, with what is left behind them
pub record IsRead (from : TextPlace) (before : ℕ) (bytes : List ℕ) (lines : List (List ℕ)) (to : TextPlace) (after : ℕ) (left : List ℕ) : Type 0 where
  pub lead : LeadOn from lines to
  pub parts : bytes ≡ with_ends lines ++ left
  pub count : after ≡ before + length lines
