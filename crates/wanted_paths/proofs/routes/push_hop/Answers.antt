use Rattle.std.proofs.Common.{◌≡◌, ◌++◌, ◌∷◌, ℕ, List, subst}
use Rattle.std.specs.Prelude.{OnOk, option_to_list}
use Rattle.wanted_paths.proofs.LinkReads.{link_read, hop_number, edges_over}
use Rattle.wanted_paths.proofs.routes.push_hop.Goals as goal

pub returns-in-Some : goal.returns-in-Some
returns-in-Some c =
    let d = c.args.names.now in
    let hop = c.args.hop.now in
    let number = c.link_number-number.result in
    let link = c.in-Some.link.now in
    subst (λ (es : List ℕ). OnOk c.push_edges.result (c.push_edges.new.edges.items ≡ c.args.edges.now.items ++ es))
    (edges_over d c.args.graph.now hop c.args.next.now number c.router_number.result link (number ∷ option_to_list c.edge_on.result)
    (link_read d c.links.result.now number link c.links.ensures.value c.in-Some.ensures.lookup.3.0 c.in-Some.ensures.lookup.1)
    (hop_number d number hop.0 hop.1 c.as_bytes.result.now c.as_bytes-2.result.now c.link_number-number.ensures c.as_bytes.ensures c.as_bytes-2.ensures)
    c.router_number.ensures (c.edge_on.ensures number)) c.push_edges.ensures
