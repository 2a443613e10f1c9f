-- At the end all rows were looked at.
use Rattle.std.proofs.Common.{ℕ, ◌≡◌, length, subst, arith}
use Rattle.fraction_table.specs.PivotForms.{IsShortestFound, row_constant, sign_at}
use Rattle.fraction_table.proofs.table.Table.shortest_negative_row.Goals as goal

pub returns : goal.returns
returns c =
    let t = c.args.self.now in
    let all : c.loop-row.row ≡ length t.rows.items = omega (arith, c.loop-row-test.false, c.loop-row.auto.row-end, c.len-row-end.ensures, t.rows.ok.0) in
    subst (λ (count : ℕ). IsShortestFound count t.rows.items (row_constant (length t.costs.low) (sign_at t)) c.loop-row.shortest) all
    c.loop-row.invariant
