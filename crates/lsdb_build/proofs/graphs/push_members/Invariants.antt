use Rattle.std.proofs.Common.{◌≡◌, ◌++◌, drop, map}
use Rattle.area_graph.specs.declared.Price.TheVariants.{Zero}
use Rattle.lsdb_build.specs.Graphs.{router_of}
use Rattle.lsdb_build.proofs.graphs.push_members.Given as goal

abbrev pub invariant-loop-member : goal.invariant-loop-member
invariant-loop-member l = l.edges.items ++ map (λ k. record { from = l.vertex; to = router_of l.links k; price = Zero })
    (drop l.member-index l.members) ≡ l.fn.edges.items
    ++ map (λ k. record { from = l.vertex; to = router_of l.links k; price = Zero }) l.members
