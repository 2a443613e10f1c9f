use Rattle.std.proofs.Common.{inl, inr}
use Rattle.begun_lines.specs.BegunLines.{ParentWords, TightenWords, PartingWords}
use Rattle.begun_lines.proofs.BegunKinds.{first_holds, first_fails}
use Rattle.begun_lines.proofs.entries.becomes_parent.Goals as goal

pub returns-then-becomes_tighten : goal.returns-then-becomes_tighten
returns-then-becomes_tighten c =
    first_holds {said = ParentWords} {first = TightenWords} (λ ws is. inl is) c.args.line.text.now c.args.line.room
    c.becomes_tighten.result c.if-becomes_tighten.true c.becomes_tighten.ensures

pub returns-else-becomes_tighten : goal.returns-else-becomes_tighten
returns-else-becomes_tighten c =
    first_fails {said = ParentWords} {first = TightenWords} {second = PartingWords} (λ ws is. is)
    (λ ws is. inr is) c.args.line.text.now c.args.line.room c.becomes_tighten.result c.becomes_parting.result
    c.if-becomes_tighten.false c.becomes_tighten.ensures c.becomes_parting.ensures
