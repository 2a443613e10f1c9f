use Rattle.std.proofs.Common.{inl, inr}
use Rattle.begun_lines.specs.BegunLines.{LeafWords, RefuteWords, UndoneWords}
use Rattle.begun_lines.proofs.BegunKinds.{first_holds, first_fails}
use Rattle.begun_lines.proofs.entries.becomes_leaf.Goals as goal

pub returns-then-becomes_refute : goal.returns-then-becomes_refute
returns-then-becomes_refute c =
    first_holds {said = LeafWords} {first = RefuteWords} (λ ws is. inl is) c.args.line.text.now c.args.line.room
    c.becomes_refute.result c.if-becomes_refute.true c.becomes_refute.ensures

pub returns-else-becomes_refute : goal.returns-else-becomes_refute
returns-else-becomes_refute c =
    first_fails {said = LeafWords} {first = RefuteWords} {second = UndoneWords} (λ ws is. is)
    (λ ws is. inr is) c.args.line.text.now c.args.line.room c.becomes_refute.result c.last_name.result
    c.if-becomes_refute.false c.becomes_refute.ensures c.last_name.ensures
