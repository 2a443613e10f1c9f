-- The rows so far and those that are left are all rows.
use Rattle.std.proofs.Common.{◌≡◌, ◌++◌}
use Rattle.least_total.specs.Printing.{rows_in}
use Rattle.least_total.proofs.printing.rows_in.Given as goal

abbrev pub invariant-loop-form : goal.invariant-loop-form
invariant-loop-form l = record {
  able : goal.iterator-loop-form.can_next l.form-iterator;
  ends : goal.iterator-loop-form.is_finite l.form-iterator;
  kept : l.rows.items ++ rows_in l.form-iterator.rest.items ≡ rows_in l.fn.forms.items;
}
