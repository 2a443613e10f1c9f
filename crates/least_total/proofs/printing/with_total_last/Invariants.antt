-- What was put and what is left are all rows.
use Rattle.std.proofs.Common.{◌≡◌, ◌++◌, map}
use Rattle.least_total.specs.declared.printing.PoolForm.TheVariants.{OfRow}
use Rattle.least_total.proofs.printing.with_total_last.Given as goal

abbrev pub invariant-loop-row : goal.invariant-loop-row
invariant-loop-row l = record {
  able : goal.iterator-loop-row.can_next l.row-iterator;
  ends : goal.iterator-loop-row.is_finite l.row-iterator;
  put : l.forms.items ++ map OfRow l.row-iterator.rest.items ≡ map OfRow l.fn.rows.items;
}
