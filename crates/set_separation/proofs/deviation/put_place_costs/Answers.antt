use Rattle.std.proofs.Common.{◌≡◌, ◌<◌, ◌∙◌, ap, sym, subst, arith, List, length, get_or}
use Rattle.area_graph.specs.declared.Edge.{Edge}
use Rattle.area_graph.specs.Area.{edge_at, no_edge}
use Rattle.area_graph.specs.Costs.{price_at}
use Rattle.area_graph.proofs.Bounds.{price-le}
use Rattle.design_problem.specs.Problems.{request_ends}
use Rattle.set_separation.specs.declared.prefix_tree.Step.{Step}
use Rattle.set_separation.specs.PrefixTrees.{step_at}
use Rattle.set_separation.proofs.DeviationLemmas.{place_below, step_known}
use Rattle.set_separation.proofs.deviation.put_place_costs.Goals as goal

pub edge_of-requires : goal.edge_of-requires
edge_of-requires c =
    let g = c.args.outlook.now.graph.now in
    let i = c.loop-i.i in
    let within : i < length c.args.tree.now = subst (λ (steps : List Step). i < length steps) c.steps-step-items.ensures c.loop-i-test.true in
    subst (λ (steps : List Step). (step_at steps i).edge < length g.edges) (sym c.steps-step-items.ensures)
    (step_known g (request_ends c.args.outlook.now.request.now) c.requires.tree.0 c.args.tree.now c.requires.tree.1 i within)

pub overflow_add-costs : goal.overflow_add-costs
overflow_add-costs c =
    let g = c.args.outlook.now.graph.now in
    let p = c.args.outlook.now.point.now in
    let ends = request_ends c.args.outlook.now.request.now in
    let steps = c.args.tree.now in
    let i = c.loop-i.i in
    let s = step_at steps i in
    let within : i < length steps = subst (λ (ss : List Step). i < length ss) c.steps-step-items.ensures c.loop-i-test.true in
    let tree = c.requires.tree.1 in
    let low = tree.grown.before i within in
    let near = place_below g ends c.requires.tree.0 steps tree p c.loop-i.costs i (omega arith) c.loop-i.invariant.costs
    c.keeps_conditions.ensures.fits c.keeps_conditions.ensures.metrics c.requires.fits s.place low in
    let known = step_known g ends c.requires.tree.0 steps tree i within in
    let price : c.price_of.result ≡ price_at p (edge_at g s.edge).price =
    c.price_of.ensures ∙ ap (λ (edge : Edge). price_at p edge.price) c.edge_of.ensures
    ∙ ap (λ (ss : List Step). price_at p (edge_at g (step_at ss i).edge).price) c.steps-step-items.ensures in
    let most = price-le g p (edge_at g s.edge).price c.requires.fits
    (c.keeps_conditions.ensures.metrics s.edge no_edge known) (c.requires.fits.priced s.edge no_edge known) in
    let here = ap (λ (ss : List Step). get_or c.loop-i.costs (step_at ss i).place 0) c.steps-step-items.ensures in
    let scale = c.requires.fits.scale_below in
    omega arith
