use Rattle.std.proofs.Common.{◌↔◌, ◌⊎◌, IsTrue, codes, refl}
use Rattle.begun_lines.specs.Begun.{IsLineFront}
use Rattle.begun_lines.proofs.TruthLaws.{through, either-first, either-second}
use Rattle.begun_lines.proofs.BegunPlaces.{floor-begun}
use Rattle.begun_lines.proofs.places.begins_floor.Goals.{then-begins_line, else-begins_line}
use Rattle.begun_lines.proofs.places.begins_floor.Goals as goal

pub returns-else-begins_line-2 : goal.returns-else-begins_line-2
returns-else-begins_line-2 c =
    let early : IsTrue c.if-begins_line.value ↔ (IsLineFront c.args.rest.now (codes "floor none") ⊎ IsLineFront c.args.rest.now (codes "floor empty")) =
    elim c.if-begins_line.branch [
      | then-begins_line w ↦ either-first c.begins_line.result c.if-begins_line.value c.begins_line.ensures w.if-begins_line.true w.value-is
      | else-begins_line w ↦
          either-second c.begins_line.result w.begins_line-else-begins_line.result c.if-begins_line.value
          c.begins_line.ensures w.begins_line-else-begins_line.ensures w.if-begins_line.false w.value-is
    ] in
    through (either-second c.if-begins_line.value c.begins_number.result c.begins_number.result early
    c.begins_number.ensures c.if-begins_line-2.false refl) (floor-begun c.args.rest.now)
