use Rattle.std.proofs.Common.{ℕ, List, refl, sym, subst}
use Rattle.area_graph.specs.declared.Point.{Point}
use Rattle.area_graph.specs.Costs.{at_costs}
use Rattle.design_problem.specs.Forms.{AreMet}
use Rattle.form_search.specs.declared.source.Asked.{Asked}
use Rattle.form_search.specs.declared.desk.Next.TheVariants.{Costs}
use Rattle.form_search.specs.Sources.{IsSourceAnswer}
use Rattle.form_search.specs.NextEntries.{IsNextOfPoint}
use Rattle.form_search.proofs.CostPoints.{one_costs, one_inside, one_least, one_met}
use Rattle.form_search.proofs.one_point.ask_there.Goals as goal

pub ask-requires-clause-met : goal.ask-requires-clause-met
ask-requires-clause-met g c =
    subst (λ (p : Point). AreMet c.args.pool.now p) (sym c.put_costs.ensures) (one_met c.args.pool.now c.args.costs.now c.requires.one c.requires.met)

pub returns-in_ok-low_costs-in-Nothing-clause-next : goal.returns-in_ok-low_costs-in-Nothing-clause-next
returns-in_ok-low_costs-in-Nothing-clause-next g c =
    let Accepted = g.S.FormSource.accepted c.args.source.now in
    let box = c.args.costs.now in
    let low = box.low in
    let answer = subst (λ (asked : Asked). IsSourceAnswer Accepted c.put_costs.new.point c.args.pool.now c.ask.new.pool asked) c.in-Nothing.is
    c.in_ok-ask.ensures.answer in
    let taken : Accepted (at_costs low) = subst Accepted c.put_costs.ensures answer.0 in
    let inside = one_inside box c.requires.one in
    subst (λ (w : List ℕ). IsNextOfPoint Accepted c.args.pool.now c.ask.new.pool box (Costs w)) (sym c.in_ok-low_costs-in-Nothing.ensures) (record {
      step = λ top since. (inside, taken, record { point = at_costs low; here = one_least Accepted box c.requires.one taken; costs = one_costs box });
      unsplit = tt;
    })
