use Rattle.std.proofs.Common.{refl}
use Rattle.begun_lines.proofs.TruthLaws.{through, either-first, either-second}
use Rattle.begun_lines.proofs.BegunTrees.{tree-begun}
use Rattle.begun_lines.proofs.places.begins_tree.Goals as goal

pub returns-then-begins_number : goal.returns-then-begins_number
returns-then-begins_number c =
    through (either-first c.begins_number.result c.begins_number.result c.begins_number.ensures c.if-begins_number.true
    refl) (tree-begun c.args.rest.now c.args.front.now)

pub returns-else-begins_number : goal.returns-else-begins_number
returns-else-begins_number c =
    through (either-second c.begins_number.result c.begins_count.result c.begins_count.result c.begins_number.ensures
    c.begins_count.ensures c.if-begins_number.false refl)
    (tree-begun c.args.rest.now c.args.front.now)
