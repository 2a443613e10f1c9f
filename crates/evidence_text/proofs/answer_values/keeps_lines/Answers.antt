-- One more is within its bounds.
use Rattle.std.proofs.Common.{List, All, subst}
use Rattle.std.proofs.lemmas.List.{take_all}
use Rattle.std.proofs.lemmas.List.Elements.{All-more}
use Rattle.design_problem.specs.declared.answer.CostLine.{CostLine}
use Rattle.design_problem.specs.AnswerRanges.{IsCost}
use Rattle.evidence_text.proofs.answer_values.keeps_lines.Goals as goal

pub loop-line-preserved : goal.loop-line-preserved
loop-line-preserved c = All-more (λ (line : CostLine). IsCost line.cost) c.args.lines.now c.loop-line.line-index _
    c.loop-line-test.true c.loop-line.invariant
    (subst (λ (line : CostLine). IsCost line.cost) c.line-item.is c.keeps_cost.ensures)

pub returns : goal.returns
returns c = subst (λ (left : List CostLine). All (λ (line : CostLine). IsCost line.cost) left)
    (take_all c.loop-line.line-index c.args.lines.now c.loop-line-test.false) c.loop-line.invariant
