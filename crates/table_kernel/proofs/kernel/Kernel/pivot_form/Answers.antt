-- Where no form of the box has a negative constant, the shortest row is the pivot form, if there is one.
use Rattle.std.proofs.Common.{ℕ, ◌+◌, ap, length, subst}
use Rattle.whole_numbers.specs.Lists.{number_at}
use Rattle.fraction_table.specs.PivotForms.{IsShortestFound, row_constant}
use Rattle.fraction_table.specs.PivotForms.IsPivotForm.{of_rows}
use Rattle.fraction_table.proofs.PivotForms.{none_at_all}
use Rattle.table_kernel.specs.Kernels.{width_of}
use Rattle.table_kernel.proofs.kernel.Kernel.pivot_form.Goals as goal

pub returns-in-None : goal.returns-in-None
returns-in-None c =
    let k = c.args.self.now in
    none_at_all (width_of k) (length k.table.rows.items) (number_at k.constants.items) c.in_default.ensures
    (subst (IsShortestFound (length k.table.rows.items) k.table.rows.items (row_constant (width_of k) (number_at k.constants.items))) c.in-None.is
    c.shortest_negative_row.ensures)

pub returns-in-Some-shortest_negative_row : goal.returns-in-Some-shortest_negative_row
returns-in-Some-shortest_negative_row c =
    let k = c.args.self.now in
    let row = c.in-Some-shortest_negative_row.row in
    of_rows row (ap (λ (width : ℕ). width + width + row) c.width-width.ensures) c.in_default.ensures
    (subst (IsShortestFound (length k.table.rows.items) k.table.rows.items (row_constant (width_of k) (number_at k.constants.items)))
    c.in-Some-shortest_negative_row.is c.shortest_negative_row.ensures)
