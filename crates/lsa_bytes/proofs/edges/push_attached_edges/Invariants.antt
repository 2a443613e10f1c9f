use Rattle.std.proofs.Common.{◌≡◌, ◌++◌, drop}
use Rattle.std.specs.Prelude.{flat_map}
use Rattle.lsa_bytes.specs.AreaGraphs.{attached_edge}
use Rattle.lsa_bytes.proofs.edges.push_attached_edges.Given as goal

abbrev pub invariant-loop-router : goal.invariant-loop-router
invariant-loop-router l = l.edges.items ++ flat_map (attached_edge l.vertices l.vertex l.id)
    (drop l.router-index l.attached) ≡ l.fn.edges.items ++ flat_map (attached_edge l.vertices l.vertex l.id) l.attached
