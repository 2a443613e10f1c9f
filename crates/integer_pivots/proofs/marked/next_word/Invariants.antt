-- No mark stands before the word.
use Rattle.std.proofs.Common.{◌*◌}
use Rattle.integer_pivots.proofs.MarkLaws.{NoneBefore}
use Rattle.integer_pivots.proofs.marked.next_word.Given as goal

abbrev pub invariant-loop-word : goal.invariant-loop-word
invariant-loop-word l = NoneBefore l.first l.second (l.from * 64) (l.word * 64)
