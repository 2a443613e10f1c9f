use Rattle.std.proofs.Common.{suc}
use Rattle.answer_lines.specs.Grammar.{AtRow}
use Rattle.evidence_reader.proofs.stage_rows.row_at.Goals as goal

pub returns-in-Some : goal.returns-in-Some
returns-in-Some c = λ left. rw c.in-Some.is at (c.in_ok-found.ensures left)

pub returns-in-None : goal.returns-in-None
returns-in-None c =
    λ left.
    c.fault_at.ensures.stops (AtRow (suc left)) (λ e. cc) (rw c.in-None.is at (c.in_ok-found.ensures left)) (c.begins_row.ensures left)
