use Rattle.answer_lines.specs.Grammar.{AtHead, AtVerdict, AtInnerHead, AtOtherVerdict, answer_head}
use Rattle.answer_lines.specs.declared.other_text.OtherText.TheVariants.{Total}
use Rattle.answer_lines.proofs.FirstLines.{read-one, lacks-wanted}
use Rattle.std.proofs.Common.{refl}
use Rattle.evidence_reader.proofs.stage_head.answer_head.Goals as goal

pub returns-in-Some-clause-own : goal.returns-in-Some-clause-own
returns-in-Some-clause-own c =
    read-one AtHead AtVerdict c.args.text.read _ c.args.text.left.now answer_head _ c.in-Some.ensures.0 (refl, refl) c.in-Some.ensures.1

pub returns-in-Some-clause-inner : goal.returns-in-Some-clause-inner
returns-in-Some-clause-inner c =
    read-one AtInnerHead (AtOtherVerdict Total) c.args.text.read _ c.args.text.left.now answer_head _ c.in-Some.ensures.0 (refl, refl) c.in-Some.ensures.1

pub returns-in-None-clause-own : goal.returns-in-None-clause-own
returns-in-None-clause-own c =
    c.fault_at.ensures.stops AtHead (λ e. cc)
    (lacks-wanted AtHead c.args.text.left.now answer_head (λ line short. short) (λ line next is. is.0) c.in-None.ensures) c.begins_head.ensures.own

pub returns-in-None-clause-inner : goal.returns-in-None-clause-inner
returns-in-None-clause-inner c =
    c.fault_at.ensures.stops AtInnerHead (λ e. cc)
    (lacks-wanted AtInnerHead c.args.text.left.now answer_head (λ line short. short) (λ line next is. is.0) c.in-None.ensures)
    c.begins_head.ensures.inner
