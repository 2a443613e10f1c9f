-- The lines have turned, then the leads and the constants.
use Rattle.std.proofs.Common.{◌≡◌, ◌∙◌, ap, subst, sym, length}
use Rattle.std.specs.Prelude.{All}
use Rattle.std.specs.Vec.{with_items}
use Rattle.integer_pivots.specs.declared.line.Line.{Line}
use Rattle.integer_pivots.proofs.Sizes.{read}
use Rattle.table_kernel.proofs.TurnedNumbers.{AreLeadsPut, AreTurnedWithin, MayTurnLeads, has_turned, leads_put, may_put_after, may_turn_leads, turned_within}
use Rattle.table_kernel.proofs.FollowedTurns.{common_stays, constants_stay, first_kept, made_kept}
use Rattle.table_kernel.proofs.kernel.Kernel.turn_small.Goals.{After-turn_leads, After-turn_lines, Then-common-self}
use Rattle.table_kernel.proofs.kernel.Kernel.turn_small.Goals as goal

-- the leads can be turned
may : (c : After-turn_lines) → MayTurnLeads c.turn_lines.new.self c.args.column
may c =
    may_turn_leads c.args.self.now c.turn_lines.new.self c.args.column c.requires.kernel c.requires.ready c.turn_lines.ensures.keeps
    c.turn_lines.ensures.turned.turned

pub turn_leads-requires-clause-leads : goal.turn_leads-requires-clause-leads
turn_leads-requires-clause-leads c =
    ap length c.as_mut_slice.ensures.value ∙ (may (goal.at.turn_leads-requires-clause-leads c).After-turn_lines).leads

pub turn_leads-requires-clause-each : goal.turn_leads-requires-clause-each
turn_leads-requires-clause-each c =
    subst (All (λ (line : Line). length line.numbers ≡ length c.turn_lines.new.self.entering.numbers)) (sym c.as_slice.ensures.value)
    (may (goal.at.turn_leads-requires-clause-each c).After-turn_lines).each

pub turn_leads-requires-clause-column : goal.turn_leads-requires-clause-column
turn_leads-requires-clause-column c = (may (goal.at.turn_leads-requires-clause-column c).After-turn_lines).column

pub turn_leads-requires-clause-pivot : goal.turn_leads-requires-clause-pivot
turn_leads-requires-clause-pivot c = (may (goal.at.turn_leads-requires-clause-pivot c).After-turn_lines).pivot

pub turn_leads-requires-clause-denominator : goal.turn_leads-requires-clause-denominator
turn_leads-requires-clause-denominator c = (may (goal.at.turn_leads-requires-clause-denominator c).After-turn_lines).denominator

-- what is known once the lines have turned, and the leads
tested_at : (c : After-turn_leads) → AreTurnedWithin c.args.self.now c.turn_lines.new.self c.args.column (read c.args.common)
tested_at c =
    let e = c.turn_lines.ensures in
    turned_within c.args.self.now c.turn_lines.new.self c.args.column c.args.common c.requires.ready e.keeps e.turned c.requires.common c.requires.small

leads_at : (c : After-turn_leads) → AreLeadsPut c.args.self.now c.turn_lines.new.self (with_items c.turn_lines.new.self.leads c.turn_leads.new.leads)
leads_at c =
    let e = c.turn_lines.ensures in
    let t = c.turn_leads.ensures in
    leads_put c.args.self.now c.turn_lines.new.self c.args.column c.as_mut_slice.result.now c.turn_leads.new.leads c.as_slice.result.now e.keeps
    c.requires.ready e.turned.turned c.as_mut_slice.ensures.value c.as_slice.ensures.value t.count t.leads

-- and where the common denominator stays
stays_at : (c : Then-common-self) → read c.args.common ≡ c.turn_lines.new.self.common
stays_at c =
    common_stays c.args.self.now c.turn_lines.new.self c.args.column c.args.common c.requires.ready c.turn_lines.ensures.keeps c.if-common-self.true

tested_here : (c : After-turn_leads) → read c.args.common ≡ c.turn_lines.new.self.common →
    AreTurnedWithin c.args.self.now c.turn_lines.new.self c.args.column c.turn_lines.new.self.common
tested_here c same = subst (AreTurnedWithin c.args.self.now c.turn_lines.new.self c.args.column) same (tested_at c)

pub follow_lines-requires-clause-kernel : goal.follow_lines-requires-clause-kernel
follow_lines-requires-clause-kernel c =
    let h = c.turn_lines.new.self in
    let at = goal.at.follow_lines-requires-clause-kernel c in
    may_put_after c.args.self.now h c.args.column (with_items h.leads c.turn_leads.new.leads) h.common
    (tested_here at.After-turn_leads (stays_at at.Then-common-self)) c.requires.kernel (leads_at at.After-turn_leads)

pub follow_lines-requires-clause-made : goal.follow_lines-requires-clause-made
follow_lines-requires-clause-made c =
    let h = c.turn_lines.new.self in
    let leads = with_items h.leads c.turn_leads.new.leads in
    record {
      small = first_kept c.args.self.now h leads c.requires.kernel c.turn_lines.ensures.keeps;
      others = made_kept c.args.self.now h leads c.requires.kernel c.turn_lines.ensures.keeps;
    }

pub follow_lines-requires-clause-stays : goal.follow_lines-requires-clause-stays
follow_lines-requires-clause-stays c =
    let h = c.turn_lines.new.self in
    constants_stay c.args.self.now h (with_items h.leads c.turn_leads.new.leads) c.requires.kernel c.turn_lines.ensures.keeps
    c.args.column c.requires.ready c.turn_lines.ensures.turned

pub returns-then-common-self : goal.returns-then-common-self
returns-then-common-self c =
    let h = c.turn_lines.new.self in
    let at = goal.at.returns-then-common-self c in
    let leads = leads_at at.After-turn_leads in
    let p = c.follow_lines.ensures in
    record {
      turned = has_turned c.args.self.now h c.args.column (with_items h.leads c.turn_leads.new.leads) h.common
          (tested_here at.After-turn_leads (stays_at at.Then-common-self)) c.follow_lines.new.self leads.0 leads.1 p.keeps p.constants p.small;
    }

-- or another one is put
pub put_constants-requires : goal.put_constants-requires
put_constants-requires c =
    let h = c.turn_lines.new.self in
    let at = (goal.at.put_constants-requires c).After-turn_leads in
    may_put_after c.args.self.now h c.args.column (with_items h.leads c.turn_leads.new.leads) (read c.args.common) (tested_at at)
    c.requires.kernel (leads_at at)

pub returns-else-common-self : goal.returns-else-common-self
returns-else-common-self c =
    let h = c.turn_lines.new.self in
    let at = (goal.at.returns-else-common-self c).After-turn_leads in
    let leads = leads_at at in
    let p = c.put_constants.ensures in
    record {
      turned = has_turned c.args.self.now h c.args.column (with_items h.leads c.turn_leads.new.leads) (read c.args.common) (tested_at at)
          c.put_constants.new.self leads.0 leads.1 p.keeps p.constants p.small;
    }
