use Rattle.answer_lines.specs.Grammar.{AtInterface}
use Rattle.answer_lines.proofs.FirstLines.{lacks-first}
use Rattle.evidence_reader.proofs.stage_sections.interface_next.Goals as goal

pub returns-in_err-interface : goal.returns-in_err-interface
returns-in_err-interface c =
    rw c.from_residual-in_err-interface.ensures
    (λ of router. lacks-first (AtInterface of router) c.args.text.left.now c.in_ok-line.line.now c.in_ok-line.rest.left.now
    c.in_ok-line.ensures.0 (λ next is. c.in_err-interface.ensures is.name is.word is.is))
