-- The numbers before the counter have turned, over what they have in common with the divisor.
use Rattle.std.proofs.Common.{◌-◌, ◌≤◌, length}
use Rattle.integer_pivots.proofs.TurnedOver.{AreTurnedFirst}
use Rattle.integer_pivots.proofs.turned_line.Turn.turn_over.Given as goal

abbrev pub invariant-loop-column : goal.invariant-loop-column
invariant-loop-column l = record {
  turned : AreTurnedFirst l.self l.fn.numbers l.entering l.fn.part l.column l.numbers l.part;
  until : l.column ≤ length l.numbers;
}

-- the columns that are left
abbrev pub decreases-loop-column : goal.decreases-loop-column
decreases-loop-column l = length l.entering - l.column
