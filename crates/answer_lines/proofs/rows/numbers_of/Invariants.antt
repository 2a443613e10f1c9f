use Rattle.std.proofs.Common.{◌≡◌, ◌++◌, All, map, length}
use Rattle.cost_base.specs.Decimal.{decimal}
use Rattle.design_problem.specs.AnswerRanges.{IsIndex}
use Rattle.answer_lines.specs.Words.{words_left}
use Rattle.answer_lines.proofs.rows.numbers_of.Given as goal

abbrev pub invariant-loop-left : goal.invariant-loop-left
invariant-loop-left l = record {
  words : words_left l.words ≡ map decimal l.numbers.items ++ words_left l.left;
  bounds : All IsIndex l.numbers.items;
}

abbrev pub decreases-loop-left : goal.decreases-loop-left
decreases-loop-left l = length (words_left l.left)
