-- Refusals of texts that are no answer's.
use Rattle.std.specs.Prelude.{◌≡◌, ◌≢◌, ℕ, ◌+◌, ◌⊎◌, List, [], ◌∷◌, ◌++◌, length}
use Rattle.cost_base.specs.declared.refusal.Refusal.{Refusal}
use Rattle.cost_base.specs.declared.refusal.Refusal.TheVariants.{Refused, OutOfMemory}
use Rattle.text_lines.specs.Lines.{IsOneLine, with_ends}
use Rattle.answer_lines.specs.Grammar.{TextPlace, AfterEnd}
use Rattle.answer_lines.specs.Lawful.{LeadOn, IsLawful}
use Rattle.evidence_reader.specs.declared.fault.AnswerFault.{AnswerFault}
use Rattle.evidence_reader.specs.declared.fault.AnswerFault.TheVariants.{BadAnswerLine, EarlyEnd, AfterEnd as BehindEnd}

-- the numbers of the faults of an answer's text
abbrev pub text_fault_number : AnswerFault → ℕ
text_fault_number BadAnswerLine = 30
text_fault_number EarlyEnd = 31
text_fault_number BehindEnd = 32

-- a line with its LF that isn't lawful, or a last line without an LF that no lawful line begins with
abbrev pub IsBadLine : TextPlace → List ℕ → Type 0
IsBadLine place rest =
    ((line more : List ℕ) × (rest ≡ line ++ 10 ∷ more) × IsOneLine line × (IsLawful place line → ⊥))
    ⊎ ((rest ≢ []) × IsOneLine rest × ((more : List ℕ) → IsLawful place (rest ++ more) → ⊥))

-- no further line, or a last line without an LF that a lawful line begins with
abbrev pub IsEarlyEnd : TextPlace → List ℕ → Type 0
IsEarlyEnd place rest = (rest ≡ []) ⊎ (IsOneLine rest × (more : List ℕ) × IsLawful place (rest ++ more))

-- what is wrong with the text that is left at a place
pub data IsFault (place : TextPlace) (rest : List ℕ) : AnswerFault → Type 0 where
  bad_line : place ≢ AfterEnd → IsBadLine place rest → IsFault place rest BadAnswerLine
  early_end : place ≢ AfterEnd → IsEarlyEnd place rest → IsFault place rest EarlyEnd
  after_end : place ≡ AfterEnd → rest ≢ [] → IsFault place rest BehindEnd

-- from a place with so many lines before it, lawful lines lead as far as the fault, whose line is counted from 1
pub record IsTextRefused (from : TextPlace) (before : ℕ) (bytes : List ℕ) (kind : AnswerFault) (line : ℕ) : Type 0 where
  pub lines : List (List ℕ)
  pub place : TextPlace
  pub rest : List ℕ
  pub lead : LeadOn from lines place
  pub parts : bytes ≡ with_ends lines ++ rest
  pub line_is : line ≡ before + length lines + 1
  pub fault : IsFault place rest kind

-- read from a place on, bytes are off the grammar: their first line at fault is this one, and its fault has this number
pub record IsOffGrammar (from : TextPlace) (bytes : List ℕ) (told line : ℕ) : Type 0 where
  pub fault : AnswerFault
  pub refused : IsTextRefused from 0 bytes fault line
  pub number : told ≡ text_fault_number fault

-- a stop of a reader that begins at a place: a refusal is the text's own, and want of memory says nothing
abbrev pub IsReaderStop : TextPlace → ℕ → List ℕ → Refusal AnswerFault ℕ → Type 0
IsReaderStop from before bytes (Refused fault line) = IsTextRefused from before bytes fault line
IsReaderStop from before bytes OutOfMemory = Unit {0}
