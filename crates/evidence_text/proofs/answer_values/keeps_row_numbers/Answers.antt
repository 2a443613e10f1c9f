-- One more is within its bounds.
use Rattle.std.proofs.Common.{ℕ, List, All, subst}
use Rattle.std.proofs.lemmas.List.{take_all}
use Rattle.std.proofs.lemmas.List.Elements.{All-more}
use Rattle.design_problem.specs.AnswerRanges.{IsRowNumber}
use Rattle.evidence_text.proofs.answer_values.keeps_row_numbers.Goals as goal

pub loop-part-preserved : goal.loop-part-preserved
loop-part-preserved c = All-more (λ (part : ℕ × ℕ). IsRowNumber part.0) c.args.parts.now c.loop-part.part-index _
    c.loop-part-test.true c.loop-part.invariant c.keeps_row_number.ensures

pub returns : goal.returns
returns c = subst (λ (left : List (ℕ × ℕ)). All (λ (part : ℕ × ℕ). IsRowNumber part.0) left)
    (take_all c.loop-part.part-index c.args.parts.now c.loop-part-test.false) c.loop-part.invariant
