use Rattle.std.proofs.Common.{◌≡◌, ◌++◌, drop}
use Rattle.std.specs.Prelude.{flat_map}
use Rattle.lsa_bytes.specs.AreaGraphs.{link_edge}
use Rattle.lsa_bytes.proofs.edges.push_link_edges.Given as goal

abbrev pub invariant-loop-link : goal.invariant-loop-link
invariant-loop-link l = l.edges.items ++ flat_map (link_edge l.vertices l.vertex l.router) (drop l.link-index l.links)
    ≡ l.fn.edges.items ++ flat_map (link_edge l.vertices l.vertex l.router) l.links
