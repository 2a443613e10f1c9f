use Rattle.wanted_paths.proofs.LoopSteps.{hop_added}
use Rattle.wanted_paths.proofs.routes.route_edges.Goals as goal

pub loop-i-preserved : goal.loop-i-preserved
loop-i-preserved c =
    hop_added c.args.names.now c.args.graph.now c.args.hops.now c.loop-i.i c.index-hops-i.result c.args.last.now c.next_name-next.result.now
    c.loop-i.edges.items c.push_hop.new.edges.items c.loop-i-test.true c.index-hops-i.is c.next_name-next.ensures c.in_ok-push_hop.ensures c.loop-i.invariant
