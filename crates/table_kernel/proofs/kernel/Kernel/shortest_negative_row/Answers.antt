-- At the end all rows were looked at.
use Rattle.std.proofs.Common.{ℕ, ◌≡◌, length, subst, arith}
use Rattle.whole_numbers.specs.Lists.{number_at}
use Rattle.fraction_table.specs.PivotForms.{IsShortestFound, row_constant}
use Rattle.table_kernel.specs.Kernels.{width_of}
use Rattle.table_kernel.proofs.kernel.Kernel.shortest_negative_row.Goals as goal

pub returns : goal.returns
returns c =
    let k = c.args.self.now in
    let rows = k.table.rows in
    let all : c.loop-row.row ≡ length rows.items = omega (arith, c.loop-row-test.false, c.loop-row.auto.row-end, c.len-row-end.ensures, rows.ok.0) in
    subst (λ (count : ℕ). IsShortestFound count rows.items (row_constant (width_of k) (number_at k.constants.items)) c.loop-row.shortest) all
    c.loop-row.invariant
