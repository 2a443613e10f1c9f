-- Those before are within their bounds.
use Rattle.std.proofs.Common.{All, take}
use Rattle.design_problem.specs.AnswerRanges.{BoundsEntry}
use Rattle.evidence_text.proofs.answer_values.keeps_entries.Given as goal

abbrev pub invariant-loop-entry : goal.invariant-loop-entry
invariant-loop-entry l = All BoundsEntry (take l.entry-index l.entries)
