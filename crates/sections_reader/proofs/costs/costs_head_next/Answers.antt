use Rattle.answer_lines.specs.Grammar.{AtOtherCosts}
use Rattle.answer_lines.proofs.FirstLines.{lacks-first}
use Rattle.sections_reader.proofs.costs.costs_head_next.Goals as goal

pub returns-in_err-number : goal.returns-in_err-number
returns-in_err-number c =
    rw c.from_residual-in_err-number.ensures
    (lacks-first (AtOtherCosts c.args.of) c.args.text.left.now c.in_ok-line.line.now c.in_ok-line.rest.left.now c.in_ok-line.ensures.0 c.in_err-number.ensures)
