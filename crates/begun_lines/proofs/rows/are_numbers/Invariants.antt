use Rattle.std.proofs.Common.{◌↔◌, length}
use Rattle.answer_lines.specs.Words.{words_left}
use Rattle.begun_lines.specs.Begun.{AreNumberWords}
use Rattle.begun_lines.proofs.rows.are_numbers.Given as goal

abbrev pub invariant-loop-left : goal.invariant-loop-left
invariant-loop-left l = AreNumberWords (words_left l.words) ↔ AreNumberWords (words_left l.left)

abbrev pub decreases-loop-left : goal.decreases-loop-left
decreases-loop-left l = length (words_left l.left)
