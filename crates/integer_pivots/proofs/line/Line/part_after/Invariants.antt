-- What the numbers before the counter have in common with the denominator and the constant.
use Rattle.integer_pivots.proofs.LowestSteps.{IsPartTo}
use Rattle.integer_pivots.proofs.line.Line.part_after.Given as goal

abbrev pub invariant-loop-c : goal.invariant-loop-c
invariant-loop-c l = IsPartTo l.fn.turn l.column l.entering l.self l.c l.part
