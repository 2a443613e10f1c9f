use Rattle.std.proofs.Common.{◌≡◌, ◌+◌, ◌++◌, length}
use Rattle.cost_base.specs.Marks.{is_marked}
use Rattle.printed_rows.specs.NewNumbers.{kept_from, kept_rows}
use Rattle.printed_rows.proofs.new_numbers.marked_rows.Given as goal

-- the rows that are left, and what is kept of all of them
abbrev pub invariant-loop-row : goal.invariant-loop-row
invariant-loop-row g l = record {
  able : (goal.iterator-loop-row g).can_next l.row-iterator;
  ends : (goal.iterator-loop-row g).is_finite l.row-iterator;
  place_is : l.place + length l.row-iterator.rest.items ≡ length l.fn.rows.items;
  kept : l.kept.items ++ kept_from (is_marked l.marks) l.place l.row-iterator.rest.items ≡ kept_rows (is_marked l.marks) l.fn.rows.items;
}
