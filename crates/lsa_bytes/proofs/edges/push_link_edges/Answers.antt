use Rattle.lsa_bytes.proofs.LoopSteps.{link_more}
use Rattle.lsa_bytes.proofs.edges.push_link_edges.Goals as goal

pub loop-link-preserved : goal.loop-link-preserved
loop-link-preserved c =
    link_more c.args.vertices.now c.args.vertex c.args.router c.loop-link.link-index c.args.links.now _ c.far_end-to.result c.loop-link.edges.items
    c.push_edge.new.edges.items _ c.loop-link-test.true c.far_end-to.ensures c.in_ok-push_edge.ensures c.loop-link.invariant
