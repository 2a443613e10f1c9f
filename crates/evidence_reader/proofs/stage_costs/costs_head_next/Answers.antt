use Rattle.answer_lines.specs.Grammar.{AtCosts}
use Rattle.evidence_reader.specs.Stages.{behind_costs_head}
use Rattle.answer_lines.proofs.FirstLines.{lacks-short, lacks-first, read-one}
use Rattle.evidence_reader.proofs.stage_costs.costs_head_next.Goals as goal

pub returns-in_err-line : goal.returns-in_err-line
returns-in_err-line c = rw c.from_residual.ensures (lacks-short AtCosts c.args.text.left.now (λ line short. short) c.in_err-line.ensures)

pub returns-in_err-head : goal.returns-in_err-head
returns-in_err-head c =
    rw c.from_residual-in_err-head.ensures
    (lacks-first AtCosts c.args.text.left.now c.in_ok-line.line.now c.in_ok-line.rest.left.now c.in_ok-line.ensures.0 c.in_err-head.ensures)

pub returns : goal.returns
returns c =
    let found = rw c.in_ok-head.ensures.1 at c.in_ok-head.ensures.0 in
    read-one AtCosts (behind_costs_head c.in_ok-head.head) c.args.text.read c.in_ok-line.rest.read c.args.text.left.now _ c.in_ok-line.rest.left.now
    (rw c.in_ok-head.ensures.1 at c.in_ok-line.ensures.0) found c.in_ok-line.ensures.1
