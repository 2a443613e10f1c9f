use Rattle.std.proofs.Common.{◌↔◌, IsTrue, refl}
use Rattle.begun_lines.specs.Begun.{IsNumberWord}
use Rattle.begun_lines.proofs.TruthLaws.{through, both-first, both-second}
use Rattle.begun_lines.proofs.BegunTrees.{count-begun, count-unbegun, word-tested}
use Rattle.begun_lines.proofs.places.begins_count.Goals as goal

pub returns-in_default-cut : goal.returns-in_default-cut
returns-in_default-cut c = (
  λ yes. absurd (cc),
  λ begun. absurd (count-unbegun c.args.rest.now c.args.front.now c.in-Some.numbers.now c.in-Some.ensures c.in_default-cut.ensures.pieces begun),
)

pub returns-then-is_some : goal.returns-then-is_some
returns-then-is_some c =
    let word : IsTrue c.is_some.result ↔ IsNumberWord c.in-Some-cut.cap.now 65535 =
    rw c.is_some.ensures (word-tested c.in-Some-cut.cap.now 65535 c.printed_number.result
    c.printed_number.ensures) in
    through (both-second c.is_some.result c.begins_number.result c.begins_number.result word c.begins_number.ensures c.if-is_some.true refl)
    (count-begun c.args.rest.now c.args.front.now c.in-Some.numbers.now c.in-Some-cut.cap.now c.in-Some-cut.count.now
    c.in-Some.ensures c.in-Some-cut.ensures.parts c.in-Some-cut.ensures.pieces)

pub returns-else-is_some : goal.returns-else-is_some
returns-else-is_some c =
    let word : IsTrue c.is_some.result ↔ IsNumberWord c.in-Some-cut.cap.now 65535 =
    rw c.is_some.ensures (word-tested c.in-Some-cut.cap.now 65535 c.printed_number.result
    c.printed_number.ensures) in
    through (both-first c.is_some.result c.is_some.result word c.if-is_some.false refl)
    (count-begun c.args.rest.now c.args.front.now c.in-Some.numbers.now c.in-Some-cut.cap.now c.in-Some-cut.count.now
    c.in-Some.ensures c.in-Some-cut.ensures.parts c.in-Some-cut.ensures.pieces)
