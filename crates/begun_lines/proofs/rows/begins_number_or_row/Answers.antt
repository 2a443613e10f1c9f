use Rattle.std.proofs.Common.{refl}
use Rattle.begun_lines.proofs.TruthLaws.{either-first, either-second}
use Rattle.begun_lines.proofs.rows.begins_number_or_row.Goals as goal

pub returns-then-begins_number : goal.returns-then-begins_number
returns-then-begins_number c = either-first c.begins_number.result c.begins_number.result c.begins_number.ensures c.if-begins_number.true refl

pub returns-else-begins_number : goal.returns-else-begins_number
returns-else-begins_number c =
    either-second c.begins_number.result c.is_short_row.result c.is_short_row.result c.begins_number.ensures
    c.is_short_row.ensures c.if-begins_number.false refl
