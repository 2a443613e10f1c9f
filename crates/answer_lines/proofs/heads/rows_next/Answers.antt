use Rattle.std.proofs.Common.{refl, arith}
use Rattle.answer_lines.specs.Grammar.{AtRows, AtRow}
use Rattle.answer_lines.proofs.FirstLines.{lacks-short, lacks-first, read-one}
use Rattle.answer_lines.proofs.heads.rows_next.Goals as goal

pub returns-in_err-line : goal.returns-in_err-line
returns-in_err-line c = rw c.from_residual.ensures (lacks-short AtRows c.args.text.left.now (λ line short. short) c.in_err-line.ensures)

pub returns-in_err-count : goal.returns-in_err-count
returns-in_err-count c =
    rw c.from_residual-in_err-count.ensures
    (lacks-first AtRows c.args.text.left.now c.in_ok-line.line.now c.in_ok-line.rest.left.now c.in_ok-line.ensures.0
    (λ next is. c.in_err-count.ensures is.count (omega (arith, is.bounds)) is.is))

pub returns : goal.returns
returns c =
    let found = c.in_ok-count.ensures in
    read-one AtRows (AtRow c.in_ok-count.count) c.args.text.read c.in_ok-line.rest.read c.args.text.left.now _
    c.in_ok-line.rest.left.now (rw found.1 at c.in_ok-line.ensures.0)
    (record { count = c.in_ok-count.count; bounds = omega (arith, found.0); is = refl; leads = refl }) c.in_ok-line.ensures.1
