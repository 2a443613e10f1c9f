-- The numbers before the counter are over the part.
use Rattle.std.proofs.Common.{pos}
use Rattle.integer_pivots.proofs.LowestSteps.{IsOverPart}
use Rattle.integer_pivots.proofs.WrittenPlaces.{AreWritten}
use Rattle.integer_pivots.proofs.line.Line.turn_to.Given as goal

abbrev pub invariant-loop-c : goal.invariant-loop-c
invariant-loop-c l =
    AreWritten (IsOverPart l.fn.turn l.column l.entering l.fn.self l.fn.lowest.part) (pos 0) l.fn.self.numbers l.c l.self.numbers
