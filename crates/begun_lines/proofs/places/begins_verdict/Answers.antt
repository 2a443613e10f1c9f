use Rattle.std.proofs.Common.{refl}
use Rattle.begun_lines.proofs.TruthLaws.{through, either-first, either-second}
use Rattle.begun_lines.proofs.BegunPlaces.{verdict-begun}
use Rattle.begun_lines.proofs.places.begins_verdict.Goals as goal

pub returns-then-begins_decided : goal.returns-then-begins_decided
returns-then-begins_decided c =
    through (either-first c.begins_decided.result c.begins_decided.result c.begins_decided.ensures
    c.if-begins_decided.true refl) (verdict-begun c.args.rest.now)

pub returns-else-begins_decided : goal.returns-else-begins_decided
returns-else-begins_decided c =
    through (either-second c.begins_decided.result c.begins_number.result c.begins_number.result
    c.begins_decided.ensures c.begins_number.ensures c.if-begins_decided.false refl) (verdict-begun c.args.rest.now)
