-- The new column comes before the best so far.
use Rattle.std.proofs.Common.{◌<◌, subst, length, arith}
use Rattle.fraction_table.specs.Pivots.{IsBestBelow, IsOrdered}
use Rattle.fraction_table.proofs.BestColumns.{best_changes}
use Rattle.fraction_table.proofs.table.Table.better.Goals as goal

pub returns-then-changes-clause-best : goal.returns-then-changes-clause-best
returns-then-changes-clause-best c =
    let t = c.args.self.now in
    let best = c.in-Some.best in
    let column_in : c.args.column < length t.costs.low = omega (arith, c.requires.column.column, c.requires.tableau.unboxed.count) in
    best_changes t c.requires.tableau c.args.line best c.args.column c.requires.line column_in c.requires.column
    (subst (IsBestBelow t c.args.line c.args.column) c.in-Some.is c.requires.best)
    (subst (λ b. IsOrdered b t c.args.line best c.args.column) c.if-changes.true c.in_ok-changes-in-Some.ensures.order)
