use Rattle.std.proofs.Common.{rules}
use Rattle.spread_sets.proofs.MadeSets.{most_all, most_more}
use Rattle.spread_sets.proofs.member_sets.most_places.Goals as goal

pub loop-set-preserved : goal.loop-set-preserved
loop-set-preserved c = most_more c.args.sets.now c.loop-set.set-index c.loop-set.most c.max-most.result
    c.set-item.result c.loop-set-test.true c.loop-set.invariant (search rules) (search rules)

pub returns : goal.returns
returns c = most_all c.args.sets.now c.loop-set.set-index c.loop-set.most c.loop-set-test.false c.loop-set.invariant
