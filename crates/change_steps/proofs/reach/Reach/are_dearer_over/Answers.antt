use Rattle.std.proofs.Common.{◌+◌, ◌<◌, ◌∙◌, ap, arith, length, ltb-true, subst, sym}
use Rattle.cost_base.specs.Marks.{is_marked}
use Rattle.area_graph.specs.declared.Edge.{Edge}
use Rattle.area_graph.specs.declared.Point.{Point}
use Rattle.area_graph.specs.Area.{Area, edge_at, no_edge}
use Rattle.area_graph.specs.Costs.{IsPriced, at_costs, cost, price_at}
use Rattle.design_problem.specs.declared.problem.Request.{Request}
use Rattle.design_problem.specs.Problems.{request_at}
use Rattle.change_steps.specs.Orders.{costs_in}
use Rattle.change_steps.specs.Reaches.{least_from_to}
use Rattle.change_steps.proofs.ReachLaws.{dearer_over, price_below}
use Rattle.change_steps.proofs.StateLaws.{point_fits}
use Rattle.change_steps.proofs.reach.Reach.are_dearer_over.Goals as goal

pub path_cost-requires-clause-fits : goal.path_cost-requires-clause-fits
path_cost-requires-clause-fits c =
    point_fits c.args.rollout.now c.graph-graph.result.now c.args.state.now.done.items c.point-point.result.now c.keeps_conditions.ensures c.graph-graph.ensures
    (c.point-point.ensures ∙ c.requires.state.point)

pub price_of-requires-clause-known : goal.price_of-requires-clause-known
price_of-requires-clause-known c =
    let fits = point_fits c.args.rollout.now c.graph-graph.result.now c.args.state.now.done.items c.point-point.result.now c.keeps_conditions.ensures
    c.graph-graph.ensures (c.point-point.ensures ∙ c.requires.state.point) in
    subst (λ (x : Edge). IsPriced (length c.point-point.result.now.values) x.price) (sym c.edge_of-over.ensures)
    (fits.priced c.args.edge no_edge (subst (λ (g : Area). c.args.edge < length g.edges) (sym c.graph-graph.ensures) c.requires.edge))

pub overflow_add-result : goal.overflow_add-result
overflow_add-result c =
    let most = price_below c.args.rollout.now c.graph-graph.result.now c.args.state.now.done.items c.point-point.result.now c.args.edge c.edge_of-over.result
    c.keeps_conditions.ensures c.keeps_conditions-2.ensures.metrics c.graph-graph.ensures (c.point-point.ensures ∙ c.requires.state.point) c.requires.edge
    c.edge_of-over.ensures in
    let is = c.price_of.ensures in
    let behind = c.at_least-behind.ensures.below in
    omega (arith, most, is, behind)

pub overflow_add-result-2 : goal.overflow_add-result-2
overflow_add-result-2 c =
    let most = price_below c.args.rollout.now c.graph-graph.result.now c.args.state.now.done.items c.point-point.result.now c.args.edge c.edge_of-over.result
    c.keeps_conditions.ensures c.keeps_conditions-2.ensures.metrics c.graph-graph.ensures (c.point-point.ensures ∙ c.requires.state.point) c.requires.edge
    c.edge_of-over.ensures in
    let is = c.price_of.ensures in
    let before = c.at_least-before.ensures.below in
    let behind = c.at_least-behind.ensures.below in
    omega (arith, most, is, before, behind)

pub returns : goal.returns
returns c = λ less.
    let r = c.args.rollout.now in
    let L = c.args.self.now.least in
    let q = c.request-request.ensures in
    let p = c.point-point.ensures ∙ c.requires.state.point in
    let edge_is = c.edge_of-over.ensures ∙ ap (λ (g : Area). edge_at g c.args.edge) c.graph-graph.ensures in
    let mine = c.path_cost.ensures.value
    ∙ ap (λ (g : Area). cost g c.point-point.result.now c.request-request.result.now.path.edges) c.graph-graph.ensures
    ∙ ap (λ (x : Point). cost r.graph x c.request-request.result.now.path.edges) p
    ∙ ap (λ (x : Request). cost r.graph (at_costs (costs_in r.moves (is_marked c.args.state.now.done.items))) x.path.edges) q in
    let before = c.at_least-before.ensures.least ∙ ap (λ (x : Request). least_from_to L x.path.start c.edge_of-over.result.from) q
    ∙ ap (λ (x : Edge). least_from_to L (request_at r.requests c.args.number).path.start x.from) edge_is in
    let price = c.price_of.ensures ∙ ap (λ (x : Edge). price_at c.point-point.result.now x.price) edge_is
    ∙ ap (λ (x : Point). price_at x (edge_at r.graph c.args.edge).price) p in
    let behind = c.at_least-behind.ensures.least ∙ ap (λ (x : Request). least_from_to L c.edge_of-over.result.to x.end) q
    ∙ ap (λ (x : Edge). least_from_to L x.to (request_at r.requests c.args.number).end) edge_is in
    let lt = ltb-true c.path_cost.result (c.at_least-before.result + (c.price_of.result + c.at_least-behind.result)) less in
    dearer_over r (is_marked c.args.state.now.done.items) L c.args.number c.args.edge c.path_cost.result c.keeps_conditions.ensures c.requires.reach.least mine
    (omega (arith, lt, before, price, behind))
