-- The zeros get their 1.
use Rattle.std.proofs.Common.{◌≡◌, ap, arith, length, List}
use Rattle.std.specs.Prelude.{ℤ, pos}
use Rattle.integer_pivots.specs.declared.line.Line.{Line}
use Rattle.integer_pivots.proofs.UnitLines.{unit_written, zeros_long}
use Rattle.integer_pivots.proofs.first_lines.unit_line.Goals as goal

pub set-requires : goal.set-requires
set-requires c =
    let long : length c.in_ok-numbers.numbers ≡ c.args.width = zeros_long c.in_ok-numbers.numbers c.args.width c.in_ok-numbers.ensures in
    omega (arith, long, c.requires.var)

pub returns : goal.returns
returns c =
    let line : List ℤ → Line = λ numbers. record { denominator = pos 1; constant = pos 0; numbers = numbers; reach = pos 1 } in
    ap line (unit_written c.in_ok-numbers.numbers c.set.new.self c.args.width c.args.var c.requires.var
    c.in_ok-numbers.ensures c.set.ensures)
