use Rattle.evidence_reader.specs.Stages.{before_part, behind_part_head}
use Rattle.answer_lines.proofs.FirstLines.{lacks-short, lacks-first, read-one}
use Rattle.evidence_reader.proofs.TreeLines.{part-read, part_said, part_says}
use Rattle.evidence_reader.proofs.stage_trees.part_head_next.Goals as goal

pub returns-in_err-line : goal.returns-in_err-line
returns-in_err-line c = rw c.from_residual.ensures (lacks-short (before_part c.args.part) c.args.text.left.now (part-read c.args.part) c.in_err-line.ensures)

pub returns-in_err-head : goal.returns-in_err-head
returns-in_err-head c =
    rw c.from_residual-in_err-head.ensures
    (lacks-first (before_part c.args.part) c.args.text.left.now c.in_ok-line.line.now c.in_ok-line.rest.left.now c.in_ok-line.ensures.0
    (λ next is. c.in_err-head.ensures next (part_said c.args.part c.in_ok-line.line.now next is)))

pub returns : goal.returns
returns c =
    let part = c.args.part in
    let head = c.in_ok-head.head in
    let found = rw c.in_ok-head.ensures.1 at (part_says part c.in_ok-line.line.now (behind_part_head part head) c.in_ok-head.ensures.0) in
    read-one (before_part part) (behind_part_head part head) c.args.text.read c.in_ok-line.rest.read c.args.text.left.now _ c.in_ok-line.rest.left.now
    (rw c.in_ok-head.ensures.1 at c.in_ok-line.ensures.0) found c.in_ok-line.ensures.1
