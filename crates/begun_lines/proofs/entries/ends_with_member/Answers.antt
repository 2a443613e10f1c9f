use Rattle.begun_lines.specs.BegunLines.{Then, IsSide, RowWords, EndWords, MemberWords}
use Rattle.begun_lines.proofs.BegunKinds.{first_holds, first_fails, member_kinds, row_member, bound_member}
use Rattle.begun_lines.proofs.entries.ends_with_member.Goals as goal

pub returns-then-ends_with_row : goal.returns-then-ends_with_row
returns-then-ends_with_row c =
    first_holds {said = MemberWords} {first = RowWords} row_member c.args.line.text.now c.args.line.room
    c.ends_with_row.result c.if-ends_with_row.true c.ends_with_row.ensures

pub returns-else-ends_with_row : goal.returns-else-ends_with_row
returns-else-ends_with_row c =
    first_fails {said = MemberWords} {first = RowWords} {second = Then IsSide EndWords} member_kinds bound_member
    c.args.line.text.now c.args.line.room c.ends_with_row.result c.ends_with_bounds.result
    c.if-ends_with_row.false c.ends_with_row.ensures c.ends_with_bounds.ensures
