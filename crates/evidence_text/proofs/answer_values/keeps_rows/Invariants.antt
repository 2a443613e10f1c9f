-- Those before are within their bounds.
use Rattle.std.proofs.Common.{All, take}
use Rattle.design_problem.specs.AnswerRanges.{BoundsRow}
use Rattle.evidence_text.proofs.answer_values.keeps_rows.Given as goal

abbrev pub invariant-loop-row : goal.invariant-loop-row
invariant-loop-row l = All BoundsRow (take l.row-index l.rows)
