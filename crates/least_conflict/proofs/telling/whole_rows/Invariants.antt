use Rattle.std.proofs.Common.{◌≡◌, ◌++◌, map}
use Rattle.least_conflict.specs.Conflicts.{whole_row}
use Rattle.least_conflict.proofs.telling.whole_rows.Given as goal

-- the rows so far, and those that are left
abbrev pub invariant-loop-row : goal.invariant-loop-row
invariant-loop-row l = record {
  able : goal.iterator-loop-row.can_next l.row-iterator;
  ends : goal.iterator-loop-row.is_finite l.row-iterator;
  whole : l.whole.items ++ map (whole_row l.members) l.row-iterator.rest.items ≡ map (whole_row l.members) l.fn.rows.items;
}
