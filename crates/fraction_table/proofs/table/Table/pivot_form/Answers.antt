-- Where no form of the box has a negative constant, the shortest row is the pivot form, if there is one.
use Rattle.std.proofs.Common.{ℕ, ◌+◌, ap, length, subst}
use Rattle.std.specs.Prelude.{List}
use Rattle.fraction_table.specs.PivotForms.{IsShortestFound, row_constant, sign_at}
use Rattle.fraction_table.specs.PivotForms.IsPivotForm.{of_rows}
use Rattle.fraction_table.proofs.PivotForms.{none_at_all}
use Rattle.fraction_table.proofs.table.Table.pivot_form.Goals as goal

pub returns-in-None : goal.returns-in-None
returns-in-None c =
    let t = c.args.self.now in
    none_at_all (length t.costs.low) (length t.rows.items) (sign_at t) c.in_default.ensures
    (subst (IsShortestFound (length t.rows.items) t.rows.items (row_constant (length t.costs.low) (sign_at t))) c.in-None.is c.shortest_negative_row.ensures)

pub returns-in-Some-shortest_negative_row : goal.returns-in-Some-shortest_negative_row
returns-in-Some-shortest_negative_row c =
    let t = c.args.self.now in
    let row = c.in-Some-shortest_negative_row.row in
    of_rows row (ap (λ (low : List ℕ). length low + length low + row) c.as_slice-width.ensures) c.in_default.ensures
    (subst (IsShortestFound (length t.rows.items) t.rows.items (row_constant (length t.costs.low) (sign_at t))) c.in-Some-shortest_negative_row.is
    c.shortest_negative_row.ensures)
