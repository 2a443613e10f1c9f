use Rattle.answer_lines.specs.Grammar.{AtCost}
use Rattle.answer_lines.proofs.FirstLines.{lacks-first}
use Rattle.evidence_reader.proofs.stage_sections.cost_next.Goals as goal

pub returns-in_err-cost : goal.returns-in_err-cost
returns-in_err-cost c =
    rw c.from_residual-in_err-cost.ensures
    (λ of router. lacks-first (AtCost of router) c.args.text.left.now c.in_ok-line.line.now c.in_ok-line.rest.left.now
    c.in_ok-line.ensures.0 (λ next is. c.in_err-cost.ensures is.cost is.some is.bounds is.is))
