-- One more is within its bounds.
use Rattle.std.proofs.Common.{List, All, subst}
use Rattle.std.proofs.lemmas.List.{take_all}
use Rattle.std.proofs.lemmas.List.Elements.{All-more}
use Rattle.design_problem.specs.declared.form.Row.{Row}
use Rattle.design_problem.specs.AnswerRanges.{BoundsRow}
use Rattle.evidence_text.proofs.answer_values.keeps_rows.Goals as goal

pub loop-row-preserved : goal.loop-row-preserved
loop-row-preserved c = All-more BoundsRow c.args.rows.now c.loop-row.row-index _ c.loop-row-test.true
    c.loop-row.invariant (subst BoundsRow c.row-item.is c.keeps_row.ensures)

pub returns : goal.returns
returns c = subst (λ (left : List Row). All BoundsRow left) (take_all c.loop-row.row-index c.args.rows.now c.loop-row-test.false) c.loop-row.invariant
