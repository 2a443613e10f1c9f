-- The list is gone through up to a column, and what was made stands before it.
use Rattle.std.proofs.Common.{◌≤◌, [], length}
use Rattle.std.specs.Vec.{vec_capacity}
use Rattle.fraction_lines.specs.Entries.{AllNumbers, divided_at}
use Rattle.fraction_lines.proofs.Crossings.{Crossing}
use Rattle.fraction_lines.proofs.entries.divide_entries.Given as goal

abbrev pub invariant-columns : goal.invariant-columns
invariant-columns l = record {
  crossing : Crossing l.width (divided_at l.left_out l.divisor) l.olds [] l.left [] l.made.items;
  olds : AllNumbers l.top l.left;
  made : AllNumbers l.top l.made.items;
  room : l.width ≤ vec_capacity l.made;
}

abbrev pub decreases-columns : goal.decreases-columns
decreases-columns l = length l.left
