use Rattle.std.proofs.Common.{rules}
use Rattle.printed_rows.proofs.row_marks.mark_member.Goals as goal

pub returns-in-Row : goal.returns-in-Row
returns-in-Row c = search rules
