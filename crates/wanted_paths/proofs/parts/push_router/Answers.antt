use Rattle.area_graph.specs.Area.{edges_out, edges_in}
use Rattle.wanted_paths.proofs.LoopSteps.{two_added}
use Rattle.wanted_paths.proofs.parts.push_router.Goals as goal

pub returns : goal.returns
returns c =
    let g = c.args.graph.now in
    let v = c.args.vertex in
    two_added c.args.excluded.now.items c.extend_from_slice.new.self.items c.extend_from_slice-2.new.self.items c.edges_out.result.now c.edges_in.result.now
    (edges_out g v) (edges_in g v) c.in_ok-extend_from_slice-2.ensures.items c.in_ok-extend_from_slice.ensures.items c.edges_out.ensures c.edges_in.ensures
