-- Laws of the texts with costs.
use Rattle.std.specs.Prelude.{◌≡◌, ℕ, ◌≤◌, List, [], ◌∷◌, ◌++◌, All, Option, None, Some, length}
use Rattle.text_lines.specs.Lines.{with_ends}
use Rattle.design_problem.specs.AnswerRanges.{IsCost}
use Rattle.evidence_text.specs.Lines.{AreShort}
use Rattle.answer_lines.specs.declared.other_text.OtherText.{OtherText}
use Rattle.answer_lines.specs.Grammar.{AtUnread, AfterEnd, IsOtherVerdict, IsSectionsEnd, greatest_of_costs, inner_ends}
use Rattle.answer_lines.specs.Lawful.{LeadOn}
use Rattle.design_problem.specs.declared.answer.CostLine.{CostLine}
use Rattle.evidence_reader.specs.declared.fault.AnswerFault.{AnswerFault}
use Rattle.evidence_reader.specs.Refusals.{IsTextRefused}
use Rattle.design_problem.specs.Answers.{AnswerParts}
use Rattle.design_problem.specs.Text.{text}
use Rattle.evidence_text.specs.AnswerValues.{IsAnswerValue}
use Rattle.sections_reader.specs.Texts.{FitLines, SaysCosts, lines_of_costs, other_costs_lines, start_of_bytes, top_lines}

-- a text says one list of cost lines
abbrev pub CostsAreSaidOnce : Type 0
CostsAreSaidOnce = (bytes : List ℕ) (a b : Option (List CostLine)) → SaysCosts bytes a → SaysCosts bytes b → a ≡ b

-- a text that says costs, or that there are none, isn't refused
abbrev pub SaidCostsAreRead : Type 0
SaidCostsAreRead =
    (bytes : List ℕ) (costs : Option (List CostLine)) (fault : AnswerFault) (line : ℕ) → SaysCosts bytes costs →
    IsTextRefused (start_of_bytes bytes) 0 bytes fault line → ⊥

-- the cost lines of a text have names of one word and costs from 1, and there are no more of them than bytes
abbrev pub SaidCostsFit : Type 0
SaidCostsFit =
    ((bytes : List ℕ) (costs : Option (List CostLine)) → SaysCosts bytes costs → FitLines costs)
    × ((bytes : List ℕ) (costs : List CostLine) → SaysCosts bytes (Some costs) → length costs ≤ length bytes)

-- the text of an answer says the answer's costs
abbrev pub AnswersSayTheirCosts : Type 0
AnswersSayTheirCosts = (a : AnswerParts) → IsAnswerValue a → SaysCosts (text a) (lines_of_costs a.costs)

-- the cost lines, where there are some, have costs of 16 bits
abbrev pub AreBounded : Option (List CostLine) → Type 0
AreBounded None = Unit {0}
AreBounded (Some costs) = All (λ line. IsCost line.cost) costs

-- a text of `total`, `spread` or `change` with cost lines, and any lines behind these up to its `end`, says their costs
abbrev pub OtherTextsSayTheirCosts : Type 0
OtherTextsSayTheirCosts =
    (of : OtherText) (verdict : List ℕ) (number : ℕ) (costs : Option (List CostLine)) (behind : List ℕ) (unread : List (List ℕ)) →
    IsOtherVerdict of verdict → number ≤ greatest_of_costs of → FitLines costs → AreBounded costs → IsSectionsEnd of behind →
    AreShort (top_lines of verdict ++ (other_costs_lines of number costs ++ behind ∷ [])) → LeadOn (AtUnread (inner_ends of)) unread AfterEnd →
    SaysCosts (with_ends (top_lines of verdict ++ (other_costs_lines of number costs ++ behind ∷ unread))) costs
