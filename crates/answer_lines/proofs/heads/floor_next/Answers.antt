use Rattle.std.proofs.Common.{refl}
use Rattle.answer_lines.specs.Grammar.{AtFloor, AtRows}
use Rattle.answer_lines.proofs.FirstLines.{lacks-short, lacks-first, read-one}
use Rattle.answer_lines.proofs.heads.floor_next.Goals as goal

pub returns-in_err-line : goal.returns-in_err-line
returns-in_err-line c = rw c.from_residual.ensures (lacks-short AtFloor c.args.text.left.now (λ line short. short) c.in_err-line.ensures)

pub returns-in_err-floor : goal.returns-in_err-floor
returns-in_err-floor c =
    rw c.from_residual-in_err-floor.ensures
    (lacks-first AtFloor c.args.text.left.now c.in_ok-line.line.now c.in_ok-line.rest.left.now c.in_ok-line.ensures.0
    (λ next is. c.in_err-floor.ensures is.floor is.bounds is.is))

pub returns : goal.returns
returns c =
    let found = c.in_ok-floor.ensures in (
      found.0,
      read-one AtFloor AtRows c.args.text.read c.in_ok-line.rest.read c.args.text.left.now _ c.in_ok-line.rest.left.now (rw found.1 at c.in_ok-line.ensures.0)
          (record { floor = c.in_ok-floor.floor; bounds = found.0; is = refl; leads = refl }) c.in_ok-line.ensures.1,
    )
