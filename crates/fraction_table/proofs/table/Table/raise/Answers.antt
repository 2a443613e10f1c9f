-- The pivot form's constant is negative, and the best of all columns is the least.
use Rattle.std.proofs.Common.{subst, length}
use Rattle.fraction_table.specs.Pivots.{IsBestBelow}
use Rattle.fraction_table.specs.PivotForms.{sign_at}
use Rattle.fraction_table.proofs.BestColumns.{best_least}
use Rattle.fraction_table.proofs.PivotForms.{pivot_line_in, pivot_negative}
use Rattle.fraction_table.proofs.table.Table.raise.Goals as goal

pub choose-requires-clause-line : goal.choose-requires-clause-line
choose-requires-clause-line c = pivot_line_in c.args.self.now c.requires.tableau c.args.line c.requires.due

pub choose-requires-clause-below : goal.choose-requires-clause-below
choose-requires-clause-below c =
    let t = c.args.self.now in
    pivot_negative (length t.costs.low) t.rows.items (sign_at t) c.args.line c.requires.due

pub pivot-requires-clause-pivot : goal.pivot-requires-clause-pivot
pivot-requires-clause-pivot c =
    let t = c.args.self.now in
    let inside = pivot_line_in t c.requires.tableau c.args.line c.requires.due in
    let best = subst (IsBestBelow t c.args.line (length t.costs.low)) c.in-Some.is c.in_ok-choose.ensures.best in
    record { line_in = inside; pivot = best.0; least = best_least t c.args.line c.in-Some.column inside best }
