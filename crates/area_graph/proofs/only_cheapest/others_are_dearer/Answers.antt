use Rattle.std.proofs.Common.{◌≡◌, ◌<◌, ◌≤◌, ◌∙◌, ap, sym, subst, refl, ℕ, List, All, length, get_or}
use Rattle.std.proofs.lemmas.List.{take_all}
use Rattle.std.proofs.lemmas.List.Elements.{All-more}
use Rattle.area_graph.specs.Area.{edge_at, edges_out}
use Rattle.area_graph.specs.Distances.{LeadsToMore}
use Rattle.area_graph.proofs.ListedEdges.{out_known}
use Rattle.area_graph.proofs.only_cheapest.others_are_dearer.Goals as goal

pub is_dearer-requires-clause-known : goal.is_dearer-requires-clause-known
is_dearer-requires-clause-known c =
    subst (λ (es : List ℕ). All (λ e. e < length c.args.subgraph.now.graph.now.edges) es) (sym c.edges_out-other-items.ensures)
    (out_known c.args.subgraph.now.graph.now c.edge_of-start.result.from) c.loop-other.other-index 0 c.loop-other-test.true

pub loop-other-preserved : goal.loop-other-preserved
loop-other-preserved c =
    let items = edges_out c.args.subgraph.now.graph.now (edge_at c.args.subgraph.now.graph.now c.args.named).from in
    let same : c.edges_out-other-items.result.now ≡ items = c.edges_out-other-items.ensures
    ∙ ap (λ edge. edges_out c.args.subgraph.now.graph.now edge.from) c.edge_of-start.ensures in
    let P = LeadsToMore c.args.subgraph.now.graph.now c.args.subgraph.now.point.now c.args.subgraph.now.exclusion.now c.args.distances.now c.args.named
    c.args.most in
    let within : c.loop-other.other-index < length items = subst (λ (es : List ℕ). c.loop-other.other-index < length es) same c.loop-other-test.true in
    All-more P items c.loop-other.other-index 0 within c.loop-other.invariant
    (subst (λ (es : List ℕ). P (get_or es c.loop-other.other-index 0)) same (c.is_dearer.ensures.0 c.if-not-is_dearer.false))

pub returns : goal.returns
returns c =
    let items = edges_out c.args.subgraph.now.graph.now (edge_at c.args.subgraph.now.graph.now c.args.named).from in
    let same : c.edges_out-other-items.result.now ≡ items = c.edges_out-other-items.ensures
    ∙ ap (λ edge. edges_out c.args.subgraph.now.graph.now edge.from) c.edge_of-start.ensures in
    let P = LeadsToMore c.args.subgraph.now.graph.now c.args.subgraph.now.point.now c.args.subgraph.now.exclusion.now c.args.distances.now c.args.named
    c.args.most in
    let past : length items ≤ c.loop-other.other-index = subst (λ (es : List ℕ). length es ≤ c.loop-other.other-index) same c.loop-other-test.false in
    (λ yes. subst (λ (es : List ℕ). All P es) (take_all c.loop-other.other-index items past) c.loop-other.invariant, λ all. refl)
