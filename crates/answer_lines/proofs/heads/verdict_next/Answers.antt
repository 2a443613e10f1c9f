use Rattle.std.proofs.Common.{refl}
use Rattle.answer_lines.specs.Grammar.{AtVerdict, AtCosts}
use Rattle.answer_lines.proofs.FirstLines.{lacks-short, lacks-first, read-one}
use Rattle.answer_lines.proofs.heads.verdict_next.Goals as goal

pub returns-in_err-line : goal.returns-in_err-line
returns-in_err-line c = rw c.from_residual.ensures (lacks-short AtVerdict c.args.text.left.now (λ line short. short) c.in_err-line.ensures)

pub returns-in_err-verdict : goal.returns-in_err-verdict
returns-in_err-verdict c =
    rw c.from_residual-in_err-verdict.ensures
    (lacks-first AtVerdict c.args.text.left.now c.in_ok-line.line.now c.in_ok-line.rest.left.now c.in_ok-line.ensures.0
    (λ next is. c.in_err-verdict.ensures is.verdict is.bounds is.is))

pub returns : goal.returns
returns c =
    let found = c.in_ok-verdict.ensures in (
      found.0,
      read-one AtVerdict AtCosts c.args.text.read c.in_ok-line.rest.read c.args.text.left.now _
          c.in_ok-line.rest.left.now (rw found.1 at c.in_ok-line.ensures.0)
          (record { verdict = c.in_ok-verdict.verdict; bounds = found.0; is = refl; leads = refl }) c.in_ok-line.ensures.1,
    )
