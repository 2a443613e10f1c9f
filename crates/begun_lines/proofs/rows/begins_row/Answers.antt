use Rattle.std.proofs.Common.{refl}
use Rattle.begun_lines.proofs.TruthLaws.{through, either-first, either-second}
use Rattle.begun_lines.proofs.BegunRows.{row-begun}
use Rattle.begun_lines.proofs.rows.begins_row.Goals as goal

pub returns-then-begins_number_or_row : goal.returns-then-begins_number_or_row
returns-then-begins_number_or_row c =
    λ left. through (either-first c.begins_number_or_row.result c.begins_number_or_row.result
    c.begins_number_or_row.ensures c.if-begins_number_or_row.true refl) (row-begun c.args.rest.now left)

pub returns-else-begins_number_or_row : goal.returns-else-begins_number_or_row
returns-else-begins_number_or_row c =
    λ left. through (either-second c.begins_number_or_row.result c.begins_edge.result c.begins_edge.result
    c.begins_number_or_row.ensures c.begins_edge.ensures c.if-begins_number_or_row.false refl)
    (row-begun c.args.rest.now left)
