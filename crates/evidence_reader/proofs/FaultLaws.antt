-- What is wrong with a text where no lawful line stands first.
use Rattle.std.proofs.Common.{◌≡◌, ◌≢◌, ℕ, ◌+◌, List, [], ◌∷◌, ◌++◌, length, Bool, true, false, eqb, refl, sym, ap, ◌∙◌, arith, inl, inr}
use Rattle.std.specs.Prelude.{◌⊎◌, IsTrue, ◌↔◌}
use Rattle.std.proofs.lemmas.Bool.{eqb-true, true≢false}
use Rattle.std.proofs.lemmas.List.{nil_from_length}
use Rattle.text_lines.specs.Lines.{IsOneLine}
use Rattle.answer_lines.specs.Grammar.{TextPlace, AfterEnd}
use Rattle.answer_lines.specs.Places.{LacksLawful, BeginsLawful}
use Rattle.evidence_reader.specs.declared.fault.AnswerFault.{AnswerFault}
use Rattle.evidence_reader.specs.declared.fault.AnswerFault.TheVariants.{BadAnswerLine, EarlyEnd}
use Rattle.evidence_reader.specs.Refusals.{IsFault, IsTextRefused, bad_line, early_end}

-- a fault of the text that is left is the refusal
pub refused_here : (place : TextPlace) (before : ℕ) (bytes : List ℕ) (kind : AnswerFault) → IsFault place bytes kind →
    IsTextRefused place before bytes kind (before + 1)
refused_here place before bytes kind fault =
    record { lines = []; place = place; rest = bytes; lead = refl; parts = refl; line_is = omega arith; fault = fault }

-- a first line that isn't lawful
pub bad_first : (place : TextPlace) (rest line more : List ℕ) → place ≢ AfterEnd → rest ≡ line ++ 10 ∷ more →
    IsOneLine line → LacksLawful place rest → IsFault place rest BadAnswerLine
bad_first place rest line more inside parts one lacks = bad_line inside (inl (line, more, parts, one, λ lawful. lacks line more parts one lawful))

-- a text without bytes, as a test says
empty_by : (s : List ℕ) (b : Bool) → b ≡ eqb (length s) 0 → b ≡ true → s ≡ []
empty_by s b test is = nil_from_length s (eqb-true (length s) 0 (sym test ∙ is))

-- a text with bytes, as a test says
pub some_by : (s : List ℕ) (b : Bool) → b ≡ eqb (length s) 0 → b ≡ false → s ≢ []
some_by s b test is none =
    let zero_long : eqb (length s) 0 ≡ true = ap (λ t. eqb (length t) 0) none in
    true≢false (sym zero_long ∙ sym test ∙ is)

-- nothing is left, or a last line without an LF that begins a lawful line
pub cut_off : (place : TextPlace) (rest : List ℕ) (empty begins : Bool) → place ≢ AfterEnd → IsOneLine rest →
    empty ≡ eqb (length rest) 0 → (IsTrue begins ↔ BeginsLawful place rest) →
    (empty ≡ true) ⊎ ((empty ≡ false) × (begins ≡ true)) → IsFault place rest EarlyEnd
cut_off place rest empty begins inside one test says (inl none) = early_end inside (inl (empty_by rest empty test none))
cut_off place rest empty begins inside one test says (inr some) =
    let more : BeginsLawful place rest = says.0 some.1 in
    early_end inside (inr (one, more.0, more.1))

-- a last line without an LF that begins no lawful line
pub bad_last : (place : TextPlace) (rest : List ℕ) (empty begins : Bool) → place ≢ AfterEnd → IsOneLine rest →
    empty ≡ eqb (length rest) 0 → (IsTrue begins ↔ BeginsLawful place rest) →
    empty ≡ false → begins ≡ false → IsFault place rest BadAnswerLine
bad_last place rest empty begins inside one test says some no_line =
    bad_line inside (inr (some_by rest empty test some, one, λ more lawful. true≢false (sym (says.1 (more, lawful)) ∙ no_line)))
