-- The columns before the counter in which the line is positive that lead latest.
use Rattle.std.proofs.Common.{◌≡◌, ◌-◌, ◌≤◌, length, vec_capacity, vec_len}
use Rattle.integer_pivots.specs.Choices.{AreLatest}
use Rattle.integer_pivots.proofs.choice.put_latest.Given as goal

abbrev pub invariant-loop-column : goal.invariant-loop-column
invariant-loop-column l = record {
  latest : AreLatest l.line l.leads l.column l.latest l.left.items;
  count : vec_len l.left ≤ l.column;
  room : vec_capacity l.left ≡ vec_capacity l.fn.left;
}

-- the columns that are left
abbrev pub decreases-loop-column : goal.decreases-loop-column
decreases-loop-column l = length l.line - l.column
