-- The columns before the counter in which the line isn't 0.
use Rattle.std.proofs.Common.{◌≡◌, ◌-◌, ◌≤◌, length, vec_capacity, vec_len}
use Rattle.integer_pivots.specs.Turns.{AreNonZeros}
use Rattle.integer_pivots.proofs.turned_line.put_touched.Given as goal

abbrev pub invariant-loop-column : goal.invariant-loop-column
invariant-loop-column l = record {
  touched : AreNonZeros l.line l.column l.touched.items;
  count : vec_len l.touched ≤ l.column;
  until : l.column ≤ length l.line;
  room : vec_capacity l.touched ≡ vec_capacity l.fn.touched;
}

-- the columns that are left
abbrev pub decreases-loop-column : goal.decreases-loop-column
decreases-loop-column l = length l.line - l.column
