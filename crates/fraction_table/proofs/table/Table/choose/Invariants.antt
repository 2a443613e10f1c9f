-- The best of the columns before the counter.
use Rattle.fraction_table.specs.Pivots.{IsBestBelow}
use Rattle.fraction_table.proofs.table.Table.choose.Given as goal

abbrev pub invariant-loop-column : goal.invariant-loop-column
invariant-loop-column l = IsBestBelow l.self l.line l.column l.best
