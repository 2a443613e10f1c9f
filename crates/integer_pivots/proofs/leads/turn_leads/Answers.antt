-- One more lead was turned.
use Rattle.std.proofs.Common.{◌<◌, ◌∙◌, ap, subst, length, List, arith, SFits, w64, rules}
use Rattle.std.specs.Prelude.{ℤ, slice_index}
use Rattle.std.proofs.lemmas.Int.{to_z-of_z}
use Rattle.std.proofs.lemmas.List.{length-set}
use Rattle.whole_numbers.specs.Lists.{number_at}
use Rattle.integer_pivots.specs.Lines.{rows_of}
use Rattle.integer_pivots.proofs.ColumnLeads.{IsToldLead, leads_more}
use Rattle.integer_pivots.proofs.WrittenPlaces.{rest_more}
use Rattle.integer_pivots.proofs.leads.turn_leads.Goals as goal

pub loop-other-preserved : goal.loop-other-preserved
loop-other-preserved c =
    let entering = c.args.entering.now in
    let news = c.args.lines.now in
    let now = c.loop-other.leads in
    let other = c.loop-other.other in
    let i = c.loop-other.invariant in
    let e = c.turned_lead.ensures in
    let fits : SFits w64 (number_at c.as_slice-across.result.now other) = search rules in
    let read = to_z-of_z w64 (number_at c.as_slice-across.result.now other) fits ∙ ap (λ (xs : List ℤ). number_at xs other) c.as_slice-across.ensures in
    let inside : other < length entering.numbers = omega (arith, c.loop-other-test.true, ap length c.as_slice-across.ensures) in
    let told : IsToldLead (rows_of news) other (slice_index now other) (slice_index c.args.leads.now c.args.column)
    c.turned_lead.result (number_at entering.numbers other) =
    subst (IsToldLead (rows_of news) other (slice_index now other) (slice_index c.args.leads.now c.args.column) c.turned_lead.result) read
    record { same = e.same; earlier = e.earlier; later = e.later; level = e.level } in
    record {
      count = length-set now other c.turned_lead.result ∙ i.count;
      turned = λ olds t denominators leads.
          leads_more entering c.args.column olds news
          (record { turned = t; pivot = c.requires.pivot; denominator = c.requires.denominator; denominators = denominators; long = c.requires.each })
          c.args.leads.now now other c.turned_lead.result i.count c.requires.leads inside c.requires.column leads
          (i.turned olds t denominators leads) i.rest told;
      rest = rest_more 0 c.args.leads.now now other c.turned_lead.result i.rest;
    }

pub returns-clause-leads : goal.returns-clause-leads
returns-clause-leads c olds t denominators leads k k_in =
    c.loop-other.invariant.turned olds t denominators leads k
    (omega (arith, k_in, c.loop-other-test.false, c.loop-other.invariant.count, c.requires.leads, ap length c.as_slice-across.ensures))
