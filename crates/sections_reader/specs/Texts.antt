-- The costs that a text says: an answer's, or what `total`, `spread` or `change` writes.
use Rattle.std.specs.Prelude.{◌≡◌, ℕ, List, [], ◌∷◌, ◌++◌, All, Option, None, Some, if◌then◌else◌}
use Rattle.cost_base.specs.Decimal.{decimal}
use Rattle.cost_base.specs.Lists.{first_of, same_bytes}
use Rattle.text_lines.specs.Lines.{lines, with_ends}
use Rattle.design_problem.specs.declared.answer.CostLine.{CostLine}
use Rattle.design_problem.specs.declared.answer.Costs.{Costs}
use Rattle.design_problem.specs.Answers.{AnswerParts}
use Rattle.design_problem.specs.Text.{cost_lines, text, FitsCostLine}
use Rattle.evidence_text.specs.AnswerValues.{IsAnswerValue}
use Rattle.answer_lines.specs.declared.other_text.OtherText.{OtherText}
use Rattle.answer_lines.specs.declared.other_text.OtherText.TheVariants.{Total, Spread, Change}
use Rattle.answer_lines.specs.Grammar.{TextPlace, AtHead, AtOtherHead, AfterEnd, IsSectionsEnd, answer_head, other_head, no_costs_line, costs_front}
use Rattle.answer_lines.specs.Lawful.{LeadOn}

-- the text that a first line is the head of, where it isn't an answer's
abbrev pub text_by_head : Option (List ℕ) → Option OtherText
text_by_head None = None
text_by_head (Some line) =
    if same_bytes line (other_head Total) then Some Total
    else (if same_bytes line (other_head Spread) then Some Spread else (if same_bytes line (other_head Change) then Some Change else None))

-- whose text it is, by its first line: an answer's, unless that is the head of another text
abbrev pub text_of_bytes : List ℕ → Option OtherText
text_of_bytes bytes = text_by_head (first_of (lines bytes))

-- the place at which the reading of a text begins
abbrev pub start_of_text : Option OtherText → TextPlace
start_of_text None = AtHead
start_of_text (Some text) = AtOtherHead text

-- the cost lines of an answer, where it has costs
abbrev pub lines_of_costs : Option Costs → Option (List CostLine)
lines_of_costs None = None
lines_of_costs (Some costs) = Some costs.lines

-- the bytes are the text of an answer with these cost lines, or without costs
pub record IsSaidByAnswer (bytes : List ℕ) (costs : Option (List CostLine)) : Type 0 where
  pub answer : AnswerParts
  pub spelled : bytes ≡ text answer
  pub value : IsAnswerValue answer
  pub costs_are : costs ≡ lines_of_costs answer.costs

-- the lines of another text before its costs: the head and the verdict, and in `total`'s text the head of the answer
abbrev pub top_lines : OtherText → List ℕ → List (List ℕ)
top_lines Total verdict = other_head Total ∷ answer_head ∷ verdict ∷ []
top_lines text verdict = other_head text ∷ verdict ∷ []

-- the line before the sections, with a number, and the sections; or the line that there are no costs
abbrev pub other_costs_lines : OtherText → ℕ → Option (List CostLine) → List (List ℕ)
other_costs_lines text number None = no_costs_line text ∷ []
other_costs_lines text number (Some costs) = (costs_front text ++ decimal number) ∷ cost_lines None costs

-- the cost lines, where there are some, can be printed
abbrev pub FitLines : Option (List CostLine) → Type 0
FitLines None = Unit {0}
FitLines (Some costs) = All FitsCostLine costs

-- the bytes are another text with these cost lines, or without costs. What its other lines say is not compared with
-- them.
pub record IsSaidByOther (text : OtherText) (bytes : List ℕ) (costs : Option (List CostLine)) : Type 0 where
  -- the verdict, the number before the sections, the line behind them, and all further lines: nobody reads those but
  -- `end`
  pub verdict : List ℕ
  pub number : ℕ
  pub behind : List ℕ
  pub unread : List (List ℕ)
  pub spelled : bytes ≡ with_ends (top_lines text verdict ++ (other_costs_lines text number costs ++ behind ∷ unread))
  pub lawful : LeadOn (AtOtherHead text) (top_lines text verdict ++ (other_costs_lines text number costs ++ behind ∷ unread)) AfterEnd
  pub ends : IsSectionsEnd text behind
  pub fit : FitLines costs

-- a text of a kind says these cost lines, or that there are no costs
abbrev pub IsSaidBy : Option OtherText → List ℕ → Option (List CostLine) → Type 0
IsSaidBy None bytes costs = IsSaidByAnswer bytes costs
IsSaidBy (Some text) bytes costs = IsSaidByOther text bytes costs

-- a text says these cost lines, or that there are no costs
abbrev pub SaysCosts : List ℕ → Option (List CostLine) → Type 0
SaysCosts bytes costs = IsSaidBy (text_of_bytes bytes) bytes costs

-- the place at which the reading of these bytes begins
abbrev pub start_of_bytes : List ℕ → TextPlace
start_of_bytes bytes = start_of_text (text_of_bytes bytes)
