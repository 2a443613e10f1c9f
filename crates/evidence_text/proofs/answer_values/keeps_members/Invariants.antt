-- Those before are within their bounds.
use Rattle.std.proofs.Common.{All, take}
use Rattle.design_problem.specs.AnswerRanges.{BoundsMember}
use Rattle.evidence_text.proofs.answer_values.keeps_members.Given as goal

abbrev pub invariant-loop-member : goal.invariant-loop-member
invariant-loop-member l = All BoundsMember (take l.member-index l.members)
