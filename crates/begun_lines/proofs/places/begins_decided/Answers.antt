use Rattle.std.proofs.Common.{refl}
use Rattle.begun_lines.proofs.TruthLaws.{either-first, either-second}
use Rattle.begun_lines.proofs.places.begins_decided.Goals as goal

pub returns-then-begins_line : goal.returns-then-begins_line
returns-then-begins_line c = either-first c.begins_line.result c.begins_line.result c.begins_line.ensures c.if-begins_line.true refl

pub returns-else-begins_line : goal.returns-else-begins_line
returns-else-begins_line c = either-second c.begins_line.result c.begins_number.result c.begins_number.result
    c.begins_line.ensures c.begins_number.ensures c.if-begins_line.false refl
