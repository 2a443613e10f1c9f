use Rattle.std.proofs.Common.{◌<◌, ◌∙◌, ap, sym, subst, ℕ, length}
use Rattle.area_graph.specs.Area.{edges_out}
use Rattle.design_problem.specs.Problems.{request_ends}
use Rattle.rival_separation.proofs.DeviationLemmas.{best_begins, best_past, best_turn, out_edge, out_listed}
use Rattle.set_separation.specs.Deviations.{DeviatesFromTree, place_vertex}
use Rattle.set_separation.proofs.DeviationLemmas.{deviates_once, vertex_known}
use Rattle.set_separation.proofs.deviation.best_at.Goals as goal

pub loop-number-init : goal.loop-number-init
loop-number-init c =
    let g = c.args.outlook.now.graph.now in
    let ends = request_ends c.args.outlook.now.request.now in
    let v = place_vertex g ends c.args.costed.now.tree.now c.args.place in
    best_begins (DeviatesFromTree g c.args.outlook.now.point.now ends c.args.room.now c.args.costed.now.tree.now c.args.costed.now.costs.now) c.args.place
    (edges_out g v) c.args.best (λ e total lacks deviates. out_listed g v e deviates.known deviates.from lacks)
    c.requires.best

pub edges_out-number-items-requires : goal.edges_out-number-items-requires
edges_out-number-items-requires c =
    let g = c.args.outlook.now.graph.now in
    subst (λ (v : ℕ). v < length g.vertices) (sym c.vertex_of-vertex.ensures)
    (vertex_known g (request_ends c.args.outlook.now.request.now) c.requires.tree.0 c.args.costed.now.tree.now c.requires.tree.1
    c.keeps_conditions.ensures.fits c.args.place c.requires.place)

pub deviation_cost-cost-requires-clause-known : goal.deviation_cost-cost-requires-clause-known
deviation_cost-cost-requires-clause-known c =
    (out_edge c.args.outlook.now.graph.now c.vertex_of-vertex.result c.loop-number.number-index c.edges_out-number-items.result.now
    c.edges_out-number-items.ensures c.loop-number-test.true).0

pub deviation_cost-cost-requires-clause-from : goal.deviation_cost-cost-requires-clause-from
deviation_cost-cost-requires-clause-from c =
    (out_edge c.args.outlook.now.graph.now c.vertex_of-vertex.result c.loop-number.number-index c.edges_out-number-items.result.now
    c.edges_out-number-items.ensures c.loop-number-test.true).1
    ∙ c.vertex_of-vertex.ensures

pub loop-number-preserved : goal.loop-number-preserved
loop-number-preserved c =
    let g = c.args.outlook.now.graph.now in
    let p = c.args.outlook.now.point.now in
    let ends = request_ends c.args.outlook.now.request.now in
    let room = c.args.room.now in
    let steps = c.args.costed.now.tree.now in
    let costs = c.args.costed.now.costs.now in
    best_turn (DeviatesFromTree g p ends room steps costs) (deviates_once g p ends room steps costs) c.args.place
    c.loop-number.number-index (edges_out g (place_vertex g ends steps c.args.place))
    c.edges_out-number-items.result.now
    c.loop-number.found c.deviation_cost-cost.result c.better_by-found.result (c.edges_out-number-items.ensures
    ∙ ap (λ (v : ℕ). edges_out g v) c.vertex_of-vertex.ensures) c.loop-number-test.true c.loop-number.invariant
    c.deviation_cost-cost.ensures c.better_by-found.ensures

pub returns : goal.returns
returns c =
    let g = c.args.outlook.now.graph.now in
    let ends = request_ends c.args.outlook.now.request.now in
    best_past (DeviatesFromTree g c.args.outlook.now.point.now ends c.args.room.now c.args.costed.now.tree.now c.args.costed.now.costs.now) c.args.place
    c.loop-number.number-index (edges_out g (place_vertex g ends c.args.costed.now.tree.now c.args.place))
    c.edges_out-number-items.result.now
    c.loop-number.found (c.edges_out-number-items.ensures ∙ ap (λ (v : ℕ). edges_out g v) c.vertex_of-vertex.ensures) c.loop-number-test.false
    c.loop-number.invariant
