-- The uses by the terms before the index are put.
use Rattle.integer_pivots.proofs.UsePushes.{ArePushed}
use Rattle.integer_pivots.proofs.uses.push_uses.Given as goal

abbrev pub invariant-loop-term : goal.invariant-loop-term
invariant-loop-term l = ArePushed l.row l.term-items l.term-index l.initial.uses l.uses
