use Rattle.std.proofs.Common.{◌≡◌, ◌≤◌, ◌^◌, true, arith, sym, ap, ◌∙◌}
use Rattle.std.specs.List.{list_all}
use Rattle.cost_base.specs.Decimal.{is_digit, decimal, decimal_value}
use Rattle.text_lines.specs.Reads.{begins_as_printed}
use Rattle.text_lines.proofs.Printed.{decimal-begins, decimal-digits, decimal_value-decimal, decimal-decimal_value}
use Rattle.text_lines.proofs.number_reader.printed_number.Goals as goal

pub returns-then-not-begins_as_printed : goal.returns-then-not-begins_as_printed
returns-then-not-begins_as_printed c =
    λ n small e. cc (ap begins_as_printed e, decimal-begins n, c.begins_as_printed.ensures, c.if-not-begins_as_printed.true)

pub returns-in-Some : goal.returns-in-Some
returns-in-Some c =
    let begins : begins_as_printed c.args.text.now ≡ true = sym c.begins_as_printed.ensures ∙ c.if-not-begins_as_printed.false in
    (sym (decimal-decimal_value c.args.text.now begins c.in-Some.ensures.0) ∙ ap decimal (sym c.in-Some.ensures.1), c.if-value-greatest.true)

pub returns-in_default : goal.returns-in_default
returns-in_default c =
    λ n small e. let value : c.in-Some.value ≡ decimal_value c.args.text.now = c.in-Some.ensures.1 in
    omega (arith, value, ap decimal_value e, decimal_value-decimal n)

pub returns-in_default-2 : goal.returns-in_default-2
returns-in_default-2 c =
    λ n small e. let large : 2 ^ 128 ≤ decimal_value c.args.text.now = c.in_default.ensures (ap (list_all is_digit) e ∙ decimal-digits n) in
    omega (arith, large, ap decimal_value e, decimal_value-decimal n)
