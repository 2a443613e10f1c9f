use Rattle.lsa_bytes.proofs.LoopSteps.{id_more}
use Rattle.lsa_bytes.proofs.ends.ids_of_type.Goals as goal

pub loop-link-preserved : goal.loop-link-preserved
loop-link-preserved c =
    id_more c.args.kind c.loop-link.link-index c.args.links.now _ c.loop-link.ids.items c.push_if.new.things.items _ c.loop-link-test.true
    c.in_ok-push_if.ensures c.loop-link.invariant
