-- The leads of the columns before the counter stand.
use Rattle.integer_pivots.specs.Leads.{IsLead}
use Rattle.integer_pivots.specs.Lines.{rows_of}
use Rattle.integer_pivots.proofs.WrittenPlaces.{AreWritten}
use Rattle.integer_pivots.proofs.leads.put_leads.Given as goal

abbrev pub invariant-loop-column : goal.invariant-loop-column
invariant-loop-column l = AreWritten (IsLead (rows_of l.lines)) 0 l.fn.leads l.column l.leads
