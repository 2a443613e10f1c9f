use Rattle.std.proofs.Common.{◌<◌, sym, subst, ℕ, List, All, length}
use Rattle.area_graph.proofs.Visits.{joined_known}
use Rattle.area_graph.proofs.only_cheapest.leads.Goals as goal

pub others_are_dearer-requires-clause-known : goal.others_are_dearer-requires-clause-known
others_are_dearer-requires-clause-known c =
    let known = joined_known c.args.subgraph.now.graph.now c.args.path.now.start c.args.path.now.edges c.requires.simple.0 c.requires.simple.1.joins in
    subst (λ (es : List ℕ). All (λ e. e < length c.args.subgraph.now.graph.now.edges) es) (sym c.as_slice-number-items.ensures) known
    c.loop-number.number-index 0 c.loop-number-test.true

pub edge_of-requires : goal.edge_of-requires
edge_of-requires c =
    let known = joined_known c.args.subgraph.now.graph.now c.args.path.now.start c.args.path.now.edges c.requires.simple.0 c.requires.simple.1.joins in
    subst (λ (es : List ℕ). All (λ e. e < length c.args.subgraph.now.graph.now.edges) es) (sym c.as_slice-number-items.ensures) known
    c.loop-number.number-index 0 c.loop-number-test.true
