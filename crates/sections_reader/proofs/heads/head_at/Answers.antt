use Rattle.answer_lines.specs.Grammar.{AtOtherHead, other_head}
use Rattle.answer_lines.proofs.FirstLines.{lacks-wanted}
use Rattle.sections_reader.proofs.heads.head_at.Goals as goal

pub returns-in-None : goal.returns-in-None
returns-in-None c =
    let of = c.args.of in
    c.fault_at.ensures.stops (AtOtherHead of) (λ e. cc)
    (lacks-wanted (AtOtherHead of) c.args.text.left.now (other_head of) (λ line short. short) (λ line next is. is.0)
    (rw c.head.ensures at c.in-None.ensures))
    c.begins_other_head.ensures
