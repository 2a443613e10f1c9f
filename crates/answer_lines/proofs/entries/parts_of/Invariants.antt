use Rattle.std.proofs.Common.{◌≡◌, ◌++◌, ◌<◌, ◌^◌, All, length}
use Rattle.design_problem.specs.AnswerRanges.{BoundsParts}
use Rattle.design_problem.specs.Text.{multiplier_words}
use Rattle.answer_lines.specs.Words.{words_left}
use Rattle.answer_lines.proofs.entries.parts_of.Given as goal

abbrev pub invariant-loop-left : goal.invariant-loop-left
invariant-loop-left l = record {
  words : words_left l.words ≡ multiplier_words l.parts.items ++ words_left l.left;
  bounds : BoundsParts l.parts.items;
  small : All (λ part. part.1 < 10 ^ 31) l.parts.items;
}

abbrev pub decreases-loop-left : goal.decreases-loop-left
decreases-loop-left l = length (words_left l.left)
