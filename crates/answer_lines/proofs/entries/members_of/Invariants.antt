use Rattle.std.proofs.Common.{◌≡◌, ◌++◌, All, length}
use Rattle.design_problem.specs.AnswerRanges.{BoundsMember}
use Rattle.design_problem.specs.Text.{members_words}
use Rattle.answer_lines.specs.Words.{words_left}
use Rattle.answer_lines.proofs.entries.members_of.Given as goal

abbrev pub invariant-loop-left : goal.invariant-loop-left
invariant-loop-left l = record {
  words : words_left l.words ≡ members_words l.members.items ++ words_left l.left;
  bounds : All BoundsMember l.members.items;
}

abbrev pub decreases-loop-left : goal.decreases-loop-left
decreases-loop-left l = length (words_left l.left)
