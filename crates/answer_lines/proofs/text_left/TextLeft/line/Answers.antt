use Rattle.std.proofs.Common.{length, arith, sym, ap, ◌∙◌}
use Rattle.answer_lines.proofs.LineFronts.{first_line-one, no_first}
use Rattle.answer_lines.proofs.text_left.TextLeft.line.Goals as goal

pub returns-in_err-line : goal.returns-in_err-line
returns-in_err-line c = rw c.from_residual.ensures (no_first c.args.self.left.now c.in_err-line.ensures)

pub returns-then-line-gt-LONGEST : goal.returns-then-line-gt-LONGEST
returns-then-line-gt-LONGEST c =
    λ line left first.
    let found = c.in_ok-line.ensures in
    let same = first_line-one c.in_ok-line.line.now line c.in_ok-line.rest.left.now left found.1 first.one (sym found.0 ∙ first.parts) in
    omega (arith, ap length same.0, first.short)

pub returns : goal.returns
returns c =
    let found = c.in_ok-line.ensures in
    (record { parts = found.0; one = found.1; short = omega arith }, found.2)
