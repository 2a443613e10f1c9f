use Rattle.std.proofs.Common.{refl, arith}
use Rattle.rival_separation.proofs.AskerLemmas.{order_leads}
use Rattle.rival_separation.proofs.asker.Asker.each_leads.Goals as goal

pub returns-clause-leads : goal.returns-clause-leads
returns-clause-leads c = (
  λ true_is. order_leads c.args.graph.now c.args.point.now c.args.requests.now c.args.self.now.order c.loop-place.place
      c.requires.asker.each (let count = c.places-place-end.ensures in let past = c.loop-place-test.false in
      omega arith) c.loop-place.invariant.leads,
  λ all. refl,
)
