use Rattle.std.proofs.Common.{refl}
use Rattle.begun_lines.proofs.TruthLaws.{through, either-first}
use Rattle.begun_lines.proofs.BegunOthers.{change-begun}
use Rattle.begun_lines.proofs.other_text.begins_other_verdict.Goals as goal

pub returns-then-begins_number : goal.returns-then-begins_number
returns-then-begins_number c =
    rw c.in-Change.is (through (either-first c.begins_number.result c.begins_number.result c.begins_number.ensures
    c.if-begins_number.true refl) (change-begun c.args.rest.now))
