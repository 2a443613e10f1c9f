use Rattle.spread_sets.proofs.MadeSets.{sets_more}
use Rattle.spread_sets.proofs.member_sets.all_sets.Goals as goal

pub loop-path-preserved : goal.loop-path-preserved
loop-path-preserved c = sets_more c.args.lines.now c.loop-path.path c.loop-path.sets.items c.push_first.new.sets.items
    c.loop-path.invariant c.in_ok-push_first.ensures
