-- Laws of answers' texts.
use Rattle.std.specs.Prelude.{◌≡◌, ℕ, List}
use Rattle.design_problem.specs.Problems.{DesignProblem}
use Rattle.design_problem.specs.Answers.{AnswerParts, IsValid}
use Rattle.evidence_text.specs.AnswerValues.{IsAnswerValue}
use Rattle.design_problem.specs.Text.{FitsAnswer, answer_lines, text}
use Rattle.answer_lines.specs.Grammar.{TextPlace, AtHead, AfterEnd, Next}
use Rattle.answer_lines.specs.Lawful.{LeadOn}
use Rattle.evidence_reader.specs.declared.fault.AnswerFault.{AnswerFault}
use Rattle.evidence_reader.specs.Refusals.{IsTextRefused}

-- a line that is in the grammar at a place leads to one place
abbrev pub LinesLeadOnce : Type 0
LinesLeadOnce = (place : TextPlace) (line : List ℕ) (next other : TextPlace) → Next place line next → Next place line other → next ≡ other

-- the lines of an answer are lawful, one after another, and lead from the head behind the end
abbrev pub AnswersAreLawful : Type 0
AnswersAreLawful = (a : AnswerParts) → IsAnswerValue a → LeadOn AtHead (answer_lines a) AfterEnd

-- no answer's text is refused
abbrev pub AnswersAreRead : Type 0
AnswersAreRead = (a : AnswerParts) (kind : AnswerFault) (line : ℕ) → IsAnswerValue a → IsTextRefused AtHead 0 (text a) kind line → ⊥

-- answers with one text are one
abbrev pub OneAnswer : Type 0
OneAnswer = (a b : AnswerParts) → FitsAnswer a → FitsAnswer b → text a ≡ text b → a ≡ b

-- the bytes are no valid answer's text
abbrev pub IsNoValidText : DesignProblem → List ℕ → Type 0
IsNoValidText p bytes = (a : AnswerParts) → IsAnswerValue a → bytes ≡ text a → IsValid p a → ⊥

-- a text that is refused is no valid answer's
abbrev pub RefusedTextsAreInvalid : Type 0
RefusedTextsAreInvalid = (p : DesignProblem) (bytes : List ℕ) (kind : AnswerFault) (line : ℕ) → IsTextRefused AtHead 0 bytes kind line → IsNoValidText p bytes

-- the text of an answer that isn't valid is no valid answer's text
abbrev pub InvalidAnswersStayInvalid : Type 0
InvalidAnswersStayInvalid = (p : DesignProblem) (a : AnswerParts) → FitsAnswer a → (IsValid p a → ⊥) → IsNoValidText p (text a)
