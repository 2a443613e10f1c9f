-- The bytes are the text of the answer that was read, or of none.
use Rattle.std.proofs.Common.{refl, subst}
use Rattle.answer_lines.specs.Grammar.{AtHead}
use Rattle.evidence_reader.specs.Refusals.{IsOffGrammar, IsReaderStop, text_fault_number}
use Rattle.report_writer.proofs.Rejections.{rejected_as}
use Rattle.evidence_commands.proofs.Judged.{off_grammar_rejected}
use Rattle.evidence_commands.proofs.check.judge.Goals as goal

pub returns-in-Ok : goal.returns-in-Ok
returns-in-Ok c =
    c.judge_answer.ensures c.args.bytes.now
    (record { spelled = c.in-Ok.ensures.read; value = c.keeps_answer.ensures })

pub returns-in_ok-rejection_of-in-Err : goal.returns-in_ok-rejection_of-in-Err
returns-in_ok-rejection_of-in-Err c =
    let bytes = c.args.bytes.now in
    off_grammar_rejected c.args.problem.now bytes c.in_ok-rejection_of-in-Err.field-0
    (rejected_as text_fault_number c.in-Err.stop c.in_ok-rejection_of-in-Err.field-0 (λ number place. IsOffGrammar AtHead bytes number place)
    c.in_ok-rejection_of-in-Err.ensures
    (λ fault place is. record { fault = fault; refused = subst (IsReaderStop AtHead 0 bytes) is c.in-Err.ensures.stopped; number = refl }))
