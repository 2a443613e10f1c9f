use Rattle.std.proofs.Common.{inl, inr}
use Rattle.begun_lines.specs.BegunLines.{PartingWords, SplitWords, HalveWords}
use Rattle.begun_lines.proofs.BegunKinds.{first_holds, first_fails}
use Rattle.begun_lines.proofs.entries.becomes_parting.Goals as goal

pub returns-then-becomes_split : goal.returns-then-becomes_split
returns-then-becomes_split c =
    first_holds {said = PartingWords} {first = SplitWords} (λ ws is. inl is) c.args.line.text.now c.args.line.room
    c.becomes_split.result c.if-becomes_split.true c.becomes_split.ensures

pub returns-else-becomes_split : goal.returns-else-becomes_split
returns-else-becomes_split c =
    first_fails {said = PartingWords} {first = SplitWords} {second = HalveWords} (λ ws is. is)
    (λ ws is. inr is) c.args.line.text.now c.args.line.room c.becomes_split.result c.becomes_halve.result
    c.if-becomes_split.false c.becomes_split.ensures c.becomes_halve.ensures
