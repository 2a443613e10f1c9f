use Rattle.config_reader.proofs.DraftSteps.{opened_more}
use Rattle.config_reader.proofs.drafts.Drafts.open.Goals as goal

pub loop-head-preserved : goal.loop-head-preserved
loop-head-preserved c = opened_more c.args.heads.now c.loop-head.head-index c.loop-head.opened c.add.new.self _
    c.loop-head-test.true c.loop-head.invariant c.in_ok-add.ensures.drafts c.in_ok-add.ensures.names
