use Rattle.std.proofs.Common.{◌≡◌, drop}
use Rattle.design_problem.specs.Text.{members_words}
use Rattle.line_builder.specs.Words.{with_words}
use Rattle.evidence_text.proofs.lines.push_members.Given as goal

abbrev pub invariant-loop-member : goal.invariant-loop-member
invariant-loop-member l = with_words l.line (members_words (drop l.member-index l.members)) ≡ with_words l.initial.line (members_words l.members)
