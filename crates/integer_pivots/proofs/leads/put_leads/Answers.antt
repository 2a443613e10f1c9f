-- One more lead stands.
use Rattle.std.proofs.Common.{arith}
use Rattle.integer_pivots.specs.Leads.{IsLead}
use Rattle.integer_pivots.specs.Lines.{rows_of}
use Rattle.integer_pivots.proofs.WrittenPlaces.{none_written, one_written}
use Rattle.integer_pivots.proofs.leads.put_leads.Goals as goal

pub loop-column-init : goal.loop-column-init
loop-column-init c = none_written (IsLead (rows_of c.args.lines.now)) 0 c.args.leads.now

pub lead_from-requires : goal.lead_from-requires
lead_from-requires c = record { long = λ k d k_in. omega (arith, c.requires.each k d k_in, c.loop-column-test.true) }

pub loop-column-preserved : goal.loop-column-preserved
loop-column-preserved c =
    one_written (IsLead (rows_of c.args.lines.now)) 0 c.args.leads.now c.loop-column.column c.loop-column.leads c.lead_from.result c.loop-column.invariant
    c.loop-column-test.true (c.lead_from.ensures (λ v v_in. absurd (omega (arith, v_in))))

pub returns-clause-leads : goal.returns-clause-leads
returns-clause-leads c = λ column column_in.
    c.loop-column.invariant.done column (omega (arith, column_in, c.loop-column.auto.leads, c.loop-column-test.false))
