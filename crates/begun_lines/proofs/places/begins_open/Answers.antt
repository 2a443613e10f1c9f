use Rattle.std.proofs.Common.{refl}
use Rattle.begun_lines.proofs.TruthLaws.{through, either-first, either-second}
use Rattle.begun_lines.proofs.BegunTrees.{open-begun}
use Rattle.begun_lines.proofs.places.begins_open.Goals as goal

pub returns-then-begins_line : goal.returns-then-begins_line
returns-then-begins_line c = through
    (either-first c.begins_line.result c.begins_line.result c.begins_line.ensures c.if-begins_line.true refl)
    (open-begun c.args.rest.now)

pub returns-else-begins_line : goal.returns-else-begins_line
returns-else-begins_line c =
    through (either-second c.begins_line.result c.begins_tree.result c.begins_tree.result c.begins_line.ensures
    c.begins_tree.ensures c.if-begins_line.false refl)
    (open-begun c.args.rest.now)
