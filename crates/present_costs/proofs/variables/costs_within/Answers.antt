-- one variable more
use Rattle.std.proofs.Common.{[]}
use Rattle.cost_base.proofs.ListLemmas.{put_more}
use Rattle.present_costs.specs.Noted.{noted_within}
use Rattle.present_costs.proofs.variables.costs_within.Goals as goal

pub loop-i-preserved : goal.loop-i-preserved
loop-i-preserved c =
    put_more [] c.loop-i.costs.items c.push.new.self.items (noted_within c.args.low.now c.args.high.now c.args.noted.now) c.loop-i.i c.cost_within.result
    c.in_ok-push.ensures.items c.loop-i.invariant c.cost_within.ensures
