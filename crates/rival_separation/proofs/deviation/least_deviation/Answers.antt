use Rattle.std.proofs.Common.{◌≡◌, ◌<◌, ◌≤◌, ◌*◌, ◌^◌, ◌∙◌, ap, sym, subst, arith, ℕ, List, All, length, get_or}
use Rattle.std.proofs.lemmas.List.Sums.{sum_by_more_le, sum_by-take-le}
use Rattle.area_graph.specs.declared.Edge.{Edge}
use Rattle.area_graph.specs.Area.{edge_at}
use Rattle.area_graph.specs.Costs.{cost, price_at}
use Rattle.area_graph.proofs.Bounds.{cost_below}
use Rattle.design_problem.specs.Problems.{request_ends}
use Rattle.design_problem.proofs.PathBounds.{path-known}
use Rattle.rival_separation.specs.Deviations.{DeviatesFromPath}
use Rattle.rival_separation.proofs.DeviationLemmas.{best_of_fewer}
use Rattle.rival_separation.proofs.deviation.least_deviation.Goals as goal

pub best_at-best-requires-clause-near : goal.best_at-best-requires-clause-near
best_at-best-requires-clause-near c =
    let es = c.args.outlook.now.request.now.path.edges in
    let below : cost c.args.outlook.now.graph.now c.args.outlook.now.point.now es < 2 ^ 26 * c.args.outlook.now.point.now.scale =
    cost_below c.args.outlook.now.graph.now c.args.outlook.now.point.now c.args.outlook.now.request.now.path.start es c.args.outlook.now.request.now.end
    c.keeps_conditions.ensures.fits c.keeps_conditions.ensures.metrics c.requires.fits c.requires.path.simple.joins
    c.requires.path.simple.none_twice in
    let most = sum_by-take-le (λ e. price_at c.args.outlook.now.point.now (edge_at c.args.outlook.now.graph.now e).price) es c.loop-place.place in
    let before = c.loop-place.invariant.before in
    omega arith

pub edge_of-requires : goal.edge_of-requires
edge_of-requires c =
    subst (λ (es : List ℕ). All (λ e. e < length c.args.outlook.now.graph.now.edges) es) (sym c.as_slice-number-items.ensures)
    (path-known c.args.outlook.now.graph.now (request_ends c.args.outlook.now.request.now) c.args.outlook.now.request.now.path.edges c.requires.path)
    c.loop-place.place 0 c.loop-place-test.true

pub overflow_add-before : goal.overflow_add-before
overflow_add-before c =
    let es = c.args.outlook.now.request.now.path.edges in
    let i = c.loop-place.place in
    let within : i < length es = subst (λ (es : List ℕ). i < length es) c.as_slice-number-items.ensures c.loop-place-test.true in
    let below : cost c.args.outlook.now.graph.now c.args.outlook.now.point.now es < 2 ^ 26 * c.args.outlook.now.point.now.scale =
    cost_below c.args.outlook.now.graph.now c.args.outlook.now.point.now c.args.outlook.now.request.now.path.start es c.args.outlook.now.request.now.end
    c.keeps_conditions.ensures.fits c.keeps_conditions.ensures.metrics c.requires.fits c.requires.path.simple.joins
    c.requires.path.simple.none_twice in
    let more = sum_by_more_le (λ e. price_at c.args.outlook.now.point.now (edge_at c.args.outlook.now.graph.now e).price) es i 0 within in
    let edge = c.edge_of.ensures ∙ ap (λ (xs : List ℕ). edge_at c.args.outlook.now.graph.now (get_or xs i 0)) c.as_slice-number-items.ensures in
    let price : c.price_of-before.result ≡ price_at c.args.outlook.now.point.now (edge_at c.args.outlook.now.graph.now (get_or es i 0)).price =
    c.price_of-before.ensures ∙ ap (λ (edge : Edge). price_at c.args.outlook.now.point.now edge.price) edge in
    let total = c.loop-place.invariant.before in
    let scale = c.requires.fits.scale_below in
    omega arith

pub returns : goal.returns
returns c =
    let es = c.args.outlook.now.request.now.path.edges in
    let past : length es ≤ c.loop-place.place =
    subst (λ (xs : List ℕ). length xs ≤ c.loop-place.place) c.as_slice-number-items.ensures
    c.loop-place-test.false in
    best_of_fewer (DeviatesFromPath c.args.outlook.now.graph.now c.args.outlook.now.point.now c.args.outlook.now.request.now.excluded c.args.room.now es)
    (λ k e. k < c.loop-place.place) (λ k e. k < length es) c.loop-place.best c.loop-place.invariant.best
    (λ k e total seen deviation. omega arith)
