use Rattle.std.proofs.Common.{arith}
use Rattle.cost_base.specs.Decimal.{decimal}
use Rattle.begun_lines.proofs.Beginnings.{front-longer, number-tested}
use Rattle.answer_lines.proofs.ListParts.{not-both}
use Rattle.begun_lines.proofs.fronts.begins_number.Goals as goal

pub returns-then-begins_line : goal.returns-then-begins_line
returns-then-begins_line c = (
  λ yes. (
    0,
    omega arith,
    front-longer c.args.rest.now c.args.front.now (decimal 0)
        (c.begins_line.ensures.0 c.if-begins_line.true),
  ),
  λ begun. c.if-begins_line.true,
)

pub returns-else-begins_line : goal.returns-else-begins_line
returns-else-begins_line c =
    rw c.is_some.ensures
    (number-tested c.args.rest.now c.args.front.now c.args.greatest c.number_after.result
    (λ front. not-both c.begins_line.result (c.begins_line.ensures.1 front) c.if-begins_line.false)
    c.number_after.ensures)
