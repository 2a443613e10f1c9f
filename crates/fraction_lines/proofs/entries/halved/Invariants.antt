-- What is left of the list, and the halves around it without the column.
use Rattle.std.proofs.Common.{length}
use Rattle.fraction_lines.specs.Entries.{AreRising, IsHalfOf}
use Rattle.fraction_lines.proofs.entries.halved.Given as goal

abbrev pub invariant-halves : goal.invariant-halves
invariant-halves l = record {
  half : IsHalfOf l.entries l.column l.place l.left;
  rising : AreRising l.left;
}

abbrev pub decreases-halves : goal.decreases-halves
decreases-halves l = length l.left
