use Rattle.std.proofs.Common.{◌≡◌, ◌<◌, ◌∙◌, ap, sym, subst, ℕ, List, All, length, get_or}
use Rattle.area_graph.specs.declared.Edge.{Edge}
use Rattle.area_graph.specs.Area.{Area, edge_at, edges_out}
use Rattle.design_problem.specs.Problems.{request_ends}
use Rattle.design_problem.proofs.PathBounds.{path-known}
use Rattle.rival_separation.specs.Deviations.{DeviatesFromPath}
use Rattle.rival_separation.proofs.DeviationLemmas.{best_begins, best_past, best_turn, deviates_once, out_edge, out_listed}
use Rattle.rival_separation.proofs.deviation.best_at.Goals as goal

pub edge_of-requires : goal.edge_of-requires
edge_of-requires c =
    subst (λ (es : List ℕ). All (λ e. e < length c.args.outlook.now.graph.now.edges) es) (sym c.as_slice.ensures)
    (path-known c.args.outlook.now.graph.now (request_ends c.args.outlook.now.request.now) c.args.outlook.now.request.now.path.edges c.requires.path)
    c.args.place 0 (subst (λ (es : List ℕ). c.args.place < length es) (sym c.as_slice.ensures) c.requires.place)

pub loop-number-init : goal.loop-number-init
loop-number-init c =
    let g = c.args.outlook.now.graph.now in
    let path = c.args.outlook.now.request.now.path.edges in
    let v = (edge_at g (get_or path c.args.place 0)).from in
    best_begins (DeviatesFromPath g c.args.outlook.now.point.now c.args.outlook.now.request.now.excluded c.args.room.now path) c.args.place
    (edges_out g v) c.args.best (λ e total lacks deviation. out_listed g v e deviation.known deviation.from lacks)
    c.requires.best

pub deviation_cost-cost-requires-clause-known : goal.deviation_cost-cost-requires-clause-known
deviation_cost-cost-requires-clause-known c =
    (out_edge c.args.outlook.now.graph.now c.edge_of.result.from c.loop-number.number-index c.edges_out-number-items.result.now
    c.edges_out-number-items.ensures c.loop-number-test.true).0

pub deviation_cost-cost-requires-clause-from : goal.deviation_cost-cost-requires-clause-from
deviation_cost-cost-requires-clause-from c =
    let g = c.args.outlook.now.graph.now in
    (out_edge g c.edge_of.result.from c.loop-number.number-index c.edges_out-number-items.result.now c.edges_out-number-items.ensures c.loop-number-test.true).1
    ∙ ap (λ (edge : Edge). edge.from) c.edge_of.ensures ∙ ap (λ (es : List ℕ). (edge_at g (get_or es c.args.place 0)).from) c.as_slice.ensures

-- the edges out of the vertex at a place of a path, where edge and path have other names
out_of : (g : Area) (path slice items : List ℕ) (place : ℕ) (edge : Edge) → items ≡ edges_out g edge.from →
    edge ≡ edge_at g (get_or slice place 0) → slice ≡ path → items ≡ edges_out g (edge_at g (get_or path place 0)).from
out_of g path slice items place edge out edge_is slice_is = out ∙ ap (λ (e : Edge). edges_out g e.from) edge_is
    ∙ ap (λ (xs : List ℕ). edges_out g (edge_at g (get_or xs place 0)).from) slice_is

pub loop-number-preserved : goal.loop-number-preserved
loop-number-preserved c =
    let g = c.args.outlook.now.graph.now in
    let p = c.args.outlook.now.point.now in
    let excluded = c.args.outlook.now.request.now.excluded in
    let room = c.args.room.now in
    let path = c.args.outlook.now.request.now.path.edges in
    best_turn (DeviatesFromPath g p excluded room path) (deviates_once g p excluded room path) c.args.place c.loop-number.number-index
    (edges_out g (edge_at g (get_or path c.args.place 0)).from) c.edges_out-number-items.result.now
    c.loop-number.found c.deviation_cost-cost.result c.better_by-found.result
    (out_of g path c.as_slice.result.now c.edges_out-number-items.result.now c.args.place c.edge_of.result
    c.edges_out-number-items.ensures c.edge_of.ensures c.as_slice.ensures) c.loop-number-test.true
    c.loop-number.invariant c.deviation_cost-cost.ensures c.better_by-found.ensures

pub returns : goal.returns
returns c =
    let g = c.args.outlook.now.graph.now in
    let path = c.args.outlook.now.request.now.path.edges in
    best_past (DeviatesFromPath g c.args.outlook.now.point.now c.args.outlook.now.request.now.excluded c.args.room.now path) c.args.place
    c.loop-number.number-index (edges_out g (edge_at g (get_or path c.args.place 0)).from)
    c.edges_out-number-items.result.now
    c.loop-number.found (out_of g path c.as_slice.result.now c.edges_out-number-items.result.now c.args.place
    c.edge_of.result c.edges_out-number-items.ensures c.edge_of.ensures c.as_slice.ensures)
    c.loop-number-test.false c.loop-number.invariant
