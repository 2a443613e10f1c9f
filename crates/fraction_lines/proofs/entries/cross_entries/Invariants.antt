-- The two lists are gone through up to a column, and what was made stands before it.
use Rattle.std.proofs.Common.{◌+◌, ◌≤◌, length}
use Rattle.std.specs.Vec.{vec_capacity}
use Rattle.fraction_lines.specs.Entries.{AllNumbers, crossed_at}
use Rattle.fraction_lines.proofs.Crossings.{Crossing}
use Rattle.fraction_lines.proofs.entries.cross_entries.Given as goal

abbrev pub invariant-columns : goal.invariant-columns
invariant-columns l = record {
  crossing : Crossing l.width (crossed_at l.factor) l.olds l.quotients l.olds_left l.quotients_left l.made.items;
  olds : AllNumbers l.top l.olds_left;
  quotients : AllNumbers l.top l.quotients_left;
  made : AllNumbers l.top l.made.items;
  room : l.width ≤ vec_capacity l.made;
}

abbrev pub decreases-columns : goal.decreases-columns
decreases-columns l = length l.olds_left + length l.quotients_left
