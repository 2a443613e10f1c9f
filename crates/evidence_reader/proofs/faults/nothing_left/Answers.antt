use Rattle.std.proofs.Common.{refl}
use Rattle.answer_lines.specs.Grammar.{AfterEnd}
use Rattle.evidence_reader.specs.declared.fault.AnswerFault.TheVariants.{AfterEnd as BehindEnd}
use Rattle.evidence_reader.specs.Refusals.{after_end}
use Rattle.evidence_reader.proofs.FaultLaws.{refused_here, some_by}
use Rattle.evidence_reader.proofs.faults.nothing_left.Goals as goal

pub returns-else-is_empty-clause-end : goal.returns-else-is_empty-clause-end
returns-else-is_empty-clause-end c =
    rw c.at.ensures (refused_here AfterEnd c.args.text.read c.args.text.left.now BehindEnd
    (after_end refl (some_by c.args.text.left.now c.is_empty.result c.is_empty.ensures c.if-is_empty.false)))
