use Rattle.std.proofs.Common.{◌≡◌, length, subst, sym, ap, ◌∙◌, List, arith}
use Rattle.area_graph.specs.Area.{FitsGraph}
use Rattle.lsa_bytes.specs.declared.Lsa.{Lsa}
use Rattle.lsa_bytes.specs.AreaGraphs.{routers_among}
use Rattle.lsa_bytes.proofs.GraphFits.{database_few, routers_few, graph_fits, graph_made}
use Rattle.lsa_bytes.proofs.graphs.graph_of_lsas.Goals as goal

pub of-requires : goal.of-requires
of-requires c = rw c.as_slice.ensures.items (database_few c.args.database.now c.as_slice.ensures.kept)

pub push_edges-requires-2 : goal.push_edges-requires-2
push_edges-requires-2 c =
    let same : c.in_ok-vertices.vertices ≡ c.args.database.now = c.in_ok-vertices.ensures ∙ c.as_slice.ensures.items in
    omega (
      arith,
      c.router_count-routers.ensures,
      ap (λ (lsas : List Lsa). length (routers_among lsas)) same,
      ap (λ (lsas : List Lsa). length lsas) same,
      database_few c.args.database.now c.as_slice.ensures.kept,
      routers_few c.args.database.now c.as_slice.ensures.kept,
    )

pub new-requires : goal.new-requires
new-requires c =
    let same : c.in_ok-vertices.vertices ≡ c.args.database.now = c.in_ok-vertices.ensures ∙ c.as_slice.ensures.items in
    subst FitsGraph
    (sym (graph_made c.in_ok-vertices.vertices c.args.database.now c.router_count-routers.result c.network_count.result
    c.in_ok-made.made.items c.new-edges.result.items c.push_edges.new.edges.items c.push_edges-2.new.edges.items
    same c.router_count-routers.ensures c.network_count.ensures c.in_ok-made.ensures c.new-edges.ensures.items
    c.in_ok-push_edges.ensures c.in_ok-push_edges-2.ensures))
    (graph_fits c.args.database.now c.as_slice.ensures.kept)
