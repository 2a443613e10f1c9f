use Rattle.std.proofs.Common.{ap, ℕ}
use Rattle.std.specs.Prelude.{Option}
use Rattle.area_graph.specs.declared.Price.TheVariants.{Zero}
use Rattle.lsa_bytes.specs.AreaGraphs.{edge_if_found, attached_edge}
use Rattle.lsa_bytes.proofs.LoopSteps.{more_given}
use Rattle.lsa_bytes.proofs.edges.push_attached_edges.Goals as goal

pub loop-router-preserved : goal.loop-router-preserved
loop-router-preserved c =
    more_given (attached_edge c.args.vertices.now c.args.vertex c.args.id) c.args.attached.now c.loop-router.router-index 0 c.loop-router.edges.items
    (edge_if_found c.args.vertex Zero c.router_with_link-to.result) c.push_edge.new.edges.items _ c.loop-router-test.true
    (ap (λ (to : Option ℕ). edge_if_found c.args.vertex Zero to) c.router_with_link-to.ensures)
    c.in_ok-push_edge.ensures c.loop-router.invariant
