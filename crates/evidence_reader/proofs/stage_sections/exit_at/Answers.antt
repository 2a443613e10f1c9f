use Rattle.std.proofs.Common.{codes}
use Rattle.answer_lines.specs.Grammar.{AtExit}
use Rattle.answer_lines.proofs.FirstLines.{lacks-wanted}
use Rattle.evidence_reader.proofs.stage_sections.exit_at.Goals as goal

pub returns-in-None : goal.returns-in-None
returns-in-None c =
    λ of router.
    c.fault_at.ensures.stops (AtExit of router) (λ e. cc)
    (lacks-wanted (AtExit of router) c.args.text.left.now (codes "exit") (λ line short. short) (λ line next is. is.0) c.in-None.ensures)
    (c.begins_exit.ensures of router)
