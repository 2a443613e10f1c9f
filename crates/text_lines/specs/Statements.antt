-- Texts of statements: the first line that says something is the header, and each later one is a statement.
use Rattle.std.specs.Prelude.{◌≡◌, ℕ, ◌+◌, List, [], ◌∷◌, ◌++◌, ◌&&◌, nat_le, if◌then◌else◌, Bool, true, false, Option, Some, None, length, codes}
use Rattle.cost_base.specs.Lists.{first_of, same_bytes}
use Rattle.text_lines.specs.Lines.{lines, words, starts_comment}
use Rattle.text_lines.specs.LineFaults.{FaultyLine, fault_at, faults_by_line}
use Rattle.text_lines.specs.declared.statements.TextKind.{TextKind}

-- a line that says something, by its number and its words
pub record SaidLine : Type 0 where
  pub line : ℕ
  pub words : List (List ℕ)

-- the words that say something: none in a line that is blank or a comment
abbrev pub said_words : List (List ℕ) → List (List ℕ)
said_words [] = []
said_words (word ∷ words) = if starts_comment word then [] else word ∷ words

-- the line of number n with these words, where it says something
abbrev pub said_in_line : ℕ → List (List ℕ) → List SaidLine
said_in_line n [] = []
said_in_line n (word ∷ words) = record { line = n; words = word ∷ words } ∷ []

-- those of the lines from number n on that say something
abbrev pub said_from : ℕ → List (List ℕ) → List SaidLine
said_from n [] = []
said_from n (line ∷ more) = said_in_line n (said_words (words line)) ++ said_from (n + 1) more

-- the lines of a text that say something
abbrev pub said_lines : List (List ℕ) → List SaidLine
said_lines file = said_from 1 file

-- there is a header among the lines that say something: the first of them
abbrev pub has_header : List SaidLine → Bool
has_header [] = false
has_header (header ∷ statements) = true

-- the lines that say something behind the header
abbrev pub behind_header : List SaidLine → List SaidLine
behind_header [] = []
behind_header (header ∷ statements) = statements

-- the statements of a text
abbrev pub statements : List (List ℕ) → List SaidLine
statements file = behind_header (said_lines file)

-- the words of a line are the header of a text of this kind: `ospfcost KIND 1`
abbrev pub is_header : List ℕ → List (List ℕ) → Bool
is_header kind (name ∷ word ∷ version ∷ []) = same_bytes name (codes "ospfcost") && (same_bytes word kind && same_bytes version (codes "1"))
is_header kind _ = false

-- what a kind of text goes by: the word in its header, the fault of a line off the form, and the fault that a statement
-- of these words has behind other statements
pub record TextRules (F : Type 0) : Type 0 where
  pub kind : List ℕ
  pub bad_line : F
  pub fault_of : List SaidLine → List (List ℕ) → Option F

-- the rules of a kind of text whose statements are judged so
abbrev pub rules_of : {F : Type 0} → TextKind F → (List SaidLine → List (List ℕ) → Option F) → TextRules F
rules_of {F} kind fault_of = record { kind = kind.word.now; bad_line = kind.bad_line; fault_of = fault_of }

-- the fault of words that say something, behind lines that do: the first are to be the header
abbrev pub fault_of_said : {F : Type 0} → TextRules F → List SaidLine → List (List ℕ) → Option F
fault_of_said {F} rules [] words = if is_header rules.kind words then None else Some rules.bad_line
fault_of_said {F} rules (header ∷ statements) words = rules.fault_of statements words

-- the fault of a line, by its words that say something
abbrev pub fault_of_words : {F : Type 0} → TextRules F → List SaidLine → List (List ℕ) → Option F
fault_of_words {F} rules said [] = None
fault_of_words {F} rules said (word ∷ words) = fault_of_said rules said (word ∷ words)

-- the fault of a line of any length behind these lines
abbrev pub fault_of_line : {F : Type 0} → TextRules F → List (List ℕ) → List ℕ → Option F
fault_of_line {F} rules before line =
    if nat_le (length line) 65536 then fault_of_words rules (said_lines before) (said_words (words line)) else Some rules.bad_line

-- the fault of a text without a header: it stands behind the last line
abbrev pub header_faults : {F : Type 0} → TextRules F → List (List ℕ) → List (FaultyLine F)
header_faults {F} rules file = if has_header (said_lines file) then [] else fault_at (length file + 1) rules.bad_line ∷ []

-- the faults of a text, in the order of its lines
abbrev pub text_faults : {F : Type 0} → TextRules F → List (List ℕ) → List (FaultyLine F)
text_faults {F} rules file = faults_by_line (fault_of_line rules) [] file ++ header_faults rules file

-- the fault for which a text is refused
abbrev pub text_fault : {F : Type 0} → TextRules F → List ℕ → Option (FaultyLine F)
text_fault {F} rules bytes = first_of (text_faults rules (lines bytes))

-- a reader stands behind these lines that say something: it knows whether a header is among them, and took the
-- statements
pub record StandsBehind {R : Type 0} (took : R → List SaidLine → Type 0) (reader : R) (begun : Bool) (said : List SaidLine) : Type 0 where
  pub header : begun ≡ has_header said
  pub taken : took reader (behind_header said)
