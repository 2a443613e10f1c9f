-- Those before are within their bounds.
use Rattle.std.proofs.Common.{ℕ, All, take}
use Rattle.design_problem.specs.AnswerRanges.{IsRowNumber}
use Rattle.evidence_text.proofs.answer_values.keeps_row_numbers.Given as goal

abbrev pub invariant-loop-part : goal.invariant-loop-part
invariant-loop-part l = All (λ (part : ℕ × ℕ). IsRowNumber part.0) (take l.part-index l.parts)
