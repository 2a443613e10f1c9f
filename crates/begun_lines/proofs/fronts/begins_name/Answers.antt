use Rattle.std.proofs.Common.{arith}
use Rattle.begun_lines.proofs.BegunNames.{name-started, name-tested}
use Rattle.answer_lines.proofs.ListParts.{not-both}
use Rattle.begun_lines.proofs.fronts.begins_name.Goals as goal

pub returns-then-begins_line : goal.returns-then-begins_line
returns-then-begins_line c = (
  λ yes. name-started c.args.rest.now c.args.front.now c.requires
      (c.begins_line.ensures.0 c.if-begins_line.true),
  λ begun. c.if-begins_line.true,
)

pub returns-else-begins_line : goal.returns-else-begins_line
returns-else-begins_line c =
    rw c.is_some.ensures
    (name-tested c.args.rest.now c.args.front.now c.name_after.result (omega arith)
    (λ front. not-both c.begins_line.result (c.begins_line.ensures.1 front) c.if-begins_line.false)
    c.name_after.ensures)
