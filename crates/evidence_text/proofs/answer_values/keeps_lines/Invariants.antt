-- Those before are within their bounds.
use Rattle.std.proofs.Common.{All, take}
use Rattle.design_problem.specs.declared.answer.CostLine.{CostLine}
use Rattle.design_problem.specs.AnswerRanges.{IsCost}
use Rattle.evidence_text.proofs.answer_values.keeps_lines.Given as goal

abbrev pub invariant-loop-line : goal.invariant-loop-line
invariant-loop-line l = All (λ (line : CostLine). IsCost line.cost) (take l.line-index l.lines)
