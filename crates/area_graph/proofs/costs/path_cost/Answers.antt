use Rattle.std.proofs.Common.{arith, rules, ap, sym, subst, ◌∙◌, ◌≡◌, ◌<◌, ◌*◌, ◌^◌, ℕ, List, All, length, get_or, take}
use Rattle.std.proofs.lemmas.List.Sums.{sum_by_more_le, sum_by-take-le}
use Rattle.area_graph.specs.Area.{edge_at}
use Rattle.area_graph.specs.Costs.{cost, price_at}
use Rattle.area_graph.proofs.Visits.{joined_known}
use Rattle.area_graph.proofs.Bounds.{cost_below}
use Rattle.area_graph.proofs.costs.path_cost.Goals as goal

pub edge_of-requires : goal.edge_of-requires
edge_of-requires c =
    let known = joined_known c.args.graph.now c.args.path.now.start c.args.path.now.edges c.requires.simple.0 c.requires.simple.1.joins in
    subst (λ (es : List ℕ). All (λ e. e < length c.args.graph.now.edges) es) (sym c.as_slice-number-items.ensures) known
    c.loop-number.number-index 0 c.loop-number-test.true

pub overflow_add-total : goal.overflow_add-total
overflow_add-total c =
    let es = c.args.path.now.edges in
    let i = c.loop-number.number-index in
    let within : i < length es = subst (λ (es : List ℕ). i < length es) c.as_slice-number-items.ensures c.loop-number-test.true in
    let below : cost c.args.graph.now c.args.point.now es < 2 ^ 26 * c.args.point.now.scale =
    cost_below c.args.graph.now c.args.point.now c.args.path.now.start es c.requires.simple.0
    c.keeps_conditions.ensures.fits c.keeps_conditions.ensures.metrics c.requires.fits c.requires.simple.1.joins
    c.requires.simple.1.none_twice in
    let more = sum_by_more_le (λ e. price_at c.args.point.now (edge_at c.args.graph.now e).price) es i 0 within in
    let edge = c.edge_of.ensures ∙ ap (λ (xs : List ℕ). edge_at c.args.graph.now (get_or xs i 0)) c.as_slice-number-items.ensures in
    let price : c.price_of-total.result ≡ price_at c.args.point.now (edge_at c.args.graph.now (get_or es i 0)).price =
    c.price_of-total.ensures ∙ ap (λ edge. price_at c.args.point.now edge.price) edge in
    let total : c.loop-number.total ≡ cost c.args.graph.now c.args.point.now (take i es) = search rules in
    let scale = c.requires.fits.scale_below in
    omega (arith, below, more, price, total, scale)

pub returns-clause-below : goal.returns-clause-below
returns-clause-below c =
    let es = c.args.path.now.edges in
    let below : cost c.args.graph.now c.args.point.now es < 2 ^ 26 * c.args.point.now.scale =
    cost_below c.args.graph.now c.args.point.now c.args.path.now.start es c.requires.simple.0
    c.keeps_conditions.ensures.fits c.keeps_conditions.ensures.metrics c.requires.fits c.requires.simple.1.joins
    c.requires.simple.1.none_twice in
    let total : c.loop-number.total ≡ cost c.args.graph.now c.args.point.now (take c.loop-number.number-index es) = search rules in
    let most = sum_by-take-le (λ e. price_at c.args.point.now (edge_at c.args.graph.now e).price) es c.loop-number.number-index in
    omega (arith, below, total, most)
