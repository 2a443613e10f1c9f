use Rattle.text_lines.specs.Numbers.{split}
use Rattle.answer_lines.proofs.LineFronts.{split-whole}
use Rattle.evidence_reader.proofs.FaultLaws.{bad_first, bad_last, cut_off}
use Rattle.evidence_reader.proofs.faults.fault_kind.Goals as goal

pub returns-in-Some : goal.returns-in-Some
returns-in-Some c =
    λ place inside lacks begins.
    let line = c.in-Some.field-0.0.now in
    let more = c.in-Some.field-0.1.now in
    bad_first place c.args.rest.now line more inside c.in-Some.ensures.parts
    (split-whole 10 c.args.rest.now line (split 10 more) c.in-Some.ensures.pieces) lacks

pub returns-then-begins : goal.returns-then-begins
returns-then-begins c =
    λ place inside lacks begins.
    let rest = c.args.rest.now in
    cut_off place rest c.is_empty.result c.args.begins inside (split-whole 10 rest rest _ c.in-None.ensures.pieces) c.is_empty.ensures begins c.if-begins.either

pub returns-else-begins : goal.returns-else-begins
returns-else-begins c =
    λ place inside lacks begins.
    let rest = c.args.rest.now in
    bad_last place rest c.is_empty.result c.args.begins inside (split-whole 10 rest rest _ c.in-None.ensures.pieces)
    c.is_empty.ensures begins c.if-begins.false.0 c.if-begins.false.1
