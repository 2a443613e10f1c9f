use Rattle.std.proofs.Common.{codes, refl}
use Rattle.answer_lines.specs.Grammar.{AtEnd, AfterEnd}
use Rattle.answer_lines.proofs.FirstLines.{read-one, lacks-wanted}
use Rattle.evidence_reader.proofs.stage_end.end_line.Goals as goal

pub returns-in-Some : goal.returns-in-Some
returns-in-Some c =
    read-one AtEnd AfterEnd c.args.text.read _ c.args.text.left.now (codes "end") _ c.in-Some.ensures.0 (refl, refl) c.in-Some.ensures.1

pub returns-in-None : goal.returns-in-None
returns-in-None c =
    c.fault_at.ensures.stops AtEnd (λ e. cc)
    (lacks-wanted AtEnd c.args.text.left.now (codes "end") (λ line short. short) (λ line next is. is.0) c.in-None.ensures) c.begins_end.ensures
