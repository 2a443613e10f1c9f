-- One more is within its bounds.
use Rattle.std.proofs.Common.{List, All, subst}
use Rattle.std.proofs.lemmas.List.{take_all}
use Rattle.std.proofs.lemmas.List.Elements.{All-more}
use Rattle.design_problem.specs.declared.tree.Entry.{Entry}
use Rattle.design_problem.specs.AnswerRanges.{BoundsEntry}
use Rattle.evidence_text.proofs.answer_values.keeps_entries.Goals as goal

pub loop-entry-preserved : goal.loop-entry-preserved
loop-entry-preserved c = All-more BoundsEntry c.args.entries.now c.loop-entry.entry-index _ c.loop-entry-test.true
    c.loop-entry.invariant (subst BoundsEntry c.entry-item.is c.keeps_entry.ensures)

pub returns : goal.returns
returns c = subst (λ (left : List Entry). All BoundsEntry left)
    (take_all c.loop-entry.entry-index c.args.entries.now c.loop-entry-test.false) c.loop-entry.invariant
