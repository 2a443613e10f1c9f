-- The variables before the counter have 0 in the column, where those before the first one have.
use Rattle.integer_pivots.specs.Leads.{AreZeros}
use Rattle.integer_pivots.specs.Lines.{rows_of}
use Rattle.integer_pivots.proofs.leads.lead_from.Given as goal

abbrev pub invariant-loop-var : goal.invariant-loop-var
invariant-loop-var l = AreZeros (rows_of l.lines) l.column l.fn.first → AreZeros (rows_of l.lines) l.column l.var
