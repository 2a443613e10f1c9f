-- The lines have turned, then the leads and the constants.
use Rattle.std.proofs.Common.{refl, ◌≡◌, ap, subst, sym, length, ◌∙◌}
use Rattle.std.specs.Prelude.{All}
use Rattle.std.specs.Vec.{with_items}
use Rattle.integer_pivots.specs.declared.line.Line.{Line}
use Rattle.integer_pivots.proofs.FailedTests.{failed}
use Rattle.integer_pivots.proofs.Sizes.{read}
use Rattle.table_kernel.proofs.LowestRows.{lowest_read, may_fit}
use Rattle.table_kernel.proofs.TurnedNumbers.{AreLeadsPut, AreTurnedWithin, MayTurnLeads, has_turned, leads_put, may_put_after, may_turn_leads}
use Rattle.table_kernel.proofs.kernel.Kernel.turn_to_lowest.Goals.{After-turn_leads, After-turn_lines_to_lowest}
use Rattle.table_kernel.proofs.kernel.Kernel.turn_to_lowest.Goals as goal

pub lowest_constants_fit-requires-clause-common : goal.lowest_constants_fit-requires-clause-common
lowest_constants_fit-requires-clause-common c = lowest_read c.args.self.now c.args.column c.in-Some.common c.in-Some.ensures

pub returns-then-not-lowest_constants_fit-clause-refused : goal.returns-then-not-lowest_constants_fit-clause-refused
returns-then-not-lowest_constants_fit-clause-refused c may =
    failed c.lowest_constants_fit.result c.if-not-lowest_constants_fit.true c.lowest_constants_fit.ensures
    (may_fit c.args.self.now c.args.column (read c.in-Some.common) may (lowest_read c.args.self.now c.args.column c.in-Some.common c.in-Some.ensures))

pub turn_lines_to_lowest-requires-clause-common : goal.turn_lines_to_lowest-requires-clause-common
turn_lines_to_lowest-requires-clause-common c = lowest_read c.args.self.now c.args.column c.in-Some.common c.in-Some.ensures

-- the leads can be turned
may : (c : After-turn_lines_to_lowest) → MayTurnLeads c.turn_lines_to_lowest.new.self c.args.column
may c =
    let e = c.turn_lines_to_lowest.ensures in
    may_turn_leads c.args.self.now c.turn_lines_to_lowest.new.self c.args.column c.requires.kernel c.requires.ready e.keeps e.turned

pub turn_leads-requires-clause-leads : goal.turn_leads-requires-clause-leads
turn_leads-requires-clause-leads c =
    ap length c.as_mut_slice.ensures.value ∙ (may (goal.at.turn_leads-requires-clause-leads c).After-turn_lines_to_lowest).leads

pub turn_leads-requires-clause-each : goal.turn_leads-requires-clause-each
turn_leads-requires-clause-each c =
    subst (All (λ (line : Line). length line.numbers ≡ length c.turn_lines_to_lowest.new.self.entering.numbers)) (sym c.as_slice.ensures.value)
    (may (goal.at.turn_leads-requires-clause-each c).After-turn_lines_to_lowest).each

pub turn_leads-requires-clause-column : goal.turn_leads-requires-clause-column
turn_leads-requires-clause-column c = (may (goal.at.turn_leads-requires-clause-column c).After-turn_lines_to_lowest).column

pub turn_leads-requires-clause-pivot : goal.turn_leads-requires-clause-pivot
turn_leads-requires-clause-pivot c = (may (goal.at.turn_leads-requires-clause-pivot c).After-turn_lines_to_lowest).pivot

pub turn_leads-requires-clause-denominator : goal.turn_leads-requires-clause-denominator
turn_leads-requires-clause-denominator c = (may (goal.at.turn_leads-requires-clause-denominator c).After-turn_lines_to_lowest).denominator

-- what is known once the lines have turned, and the leads
turned_at : (c : After-turn_leads) → AreTurnedWithin c.args.self.now c.turn_lines_to_lowest.new.self c.args.column (read c.in-Some.common)
turned_at c =
    let e = c.turn_lines_to_lowest.ensures in
    record { ready = c.requires.ready; keeps = e.keeps; turned = e.turned; bounded = e.bounded }

leads_at : (c : After-turn_leads) → AreLeadsPut c.args.self.now c.turn_lines_to_lowest.new.self
    (with_items c.turn_lines_to_lowest.new.self.leads c.turn_leads.new.leads)
leads_at c =
    let e = c.turn_lines_to_lowest.ensures in
    let t = c.turn_leads.ensures in
    leads_put c.args.self.now c.turn_lines_to_lowest.new.self c.args.column c.as_mut_slice.result.now c.turn_leads.new.leads c.as_slice.result.now e.keeps
    c.requires.ready e.turned c.as_mut_slice.ensures.value c.as_slice.ensures.value t.count t.leads

pub put_constants-requires : goal.put_constants-requires
put_constants-requires c =
    let h = c.turn_lines_to_lowest.new.self in
    let at = (goal.at.put_constants-requires c).After-turn_leads in
    may_put_after c.args.self.now h c.args.column (with_items h.leads c.turn_leads.new.leads) (read c.in-Some.common) (turned_at at)
    c.requires.kernel (leads_at at)

pub returns-clause-turned : goal.returns-clause-turned
returns-clause-turned c =
    let h = c.turn_lines_to_lowest.new.self in
    let at = (goal.at.returns-clause-turned c).After-turn_leads in
    let leads = leads_at at in
    let p = c.put_constants.ensures in
    has_turned c.args.self.now h c.args.column (with_items h.leads c.turn_leads.new.leads) (read c.in-Some.common) (turned_at at)
    c.put_constants.new.self leads.0 leads.1 p.keeps p.constants p.small

pub lowest_common-requires : goal.lowest_common-requires
lowest_common-requires c = record { ready = c.requires.ready }

pub returns-in_default-clause-same : goal.returns-in_default-clause-same
returns-in_default-clause-same c = refl

pub returns-in_default-clause-refused : goal.returns-in_default-clause-refused
returns-in_default-clause-refused c = c.in_default.ensures

pub lowest_constants_fit-requires-clause-ready : goal.lowest_constants_fit-requires-clause-ready
lowest_constants_fit-requires-clause-ready c = c.requires.ready

pub returns-then-not-lowest_constants_fit-clause-same : goal.returns-then-not-lowest_constants_fit-clause-same
returns-then-not-lowest_constants_fit-clause-same c = refl

pub turn_lines_to_lowest-requires-clause-ready : goal.turn_lines_to_lowest-requires-clause-ready
turn_lines_to_lowest-requires-clause-ready c = c.requires.ready

pub turn_lines_to_lowest-requires-clause-fits : goal.turn_lines_to_lowest-requires-clause-fits
turn_lines_to_lowest-requires-clause-fits c = c.lowest_constants_fit.ensures.0 c.if-not-lowest_constants_fit.false
