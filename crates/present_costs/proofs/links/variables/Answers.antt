-- one variable more
use Rattle.std.proofs.Common.{refl, []}
use Rattle.area_graph.specs.declared.Price.TheVariants.{Var}
use Rattle.cost_base.proofs.ListLemmas.{put_more}
use Rattle.present_costs.proofs.links.variables.Goals as goal

pub loop-number-preserved : goal.loop-number-preserved
loop-number-preserved c =
    put_more [] c.loop-number.prices.items c.push.new.self.items Var c.loop-number.number (Var c.loop-number.number)
    c.in_ok-push.ensures.items c.loop-number.invariant refl
