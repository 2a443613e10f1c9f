use Rattle.std.proofs.Common.{ℕ, ◌<◌, ap, length, List, arith}
use Rattle.lsa_bytes.specs.declared.Lsa.{Lsa}
use Rattle.lsa_bytes.specs.Vertices.{is_kind}
use Rattle.lsa_bytes.proofs.LoopSteps.{edges_more, near_more}
use Rattle.lsa_bytes.proofs.edges.push_edges.Goals as goal

pub push_edges_of_kind-requires : goal.push_edges_of_kind-requires
push_edges_of_kind-requires c =
    let long = ap length c.lsas-lsa-items.ensures in
    omega (arith, c.requires, c.loop-lsa.invariant.near, c.loop-lsa-test.true, long)

pub loop-lsa-preserved : goal.loop-lsa-preserved
loop-lsa-preserved c =
    let lsas = c.args.vertices.now in
    let vertex = c.loop-lsa.vertex in
    let i = c.loop-lsa.lsa-index in
    let lsa = c.lsa-item.result in
    record {
      pushed = edges_more lsas c.args.kind vertex c.in_ok-vertex.vertex i lsas c.lsas-lsa-items.result.now lsa c.loop-lsa.edges.items
          c.push_edges_of_kind.new.edges.items _
          c.lsas-lsa-items.ensures c.loop-lsa-test.true c.lsa-item.is c.in_ok-vertex.ensures.next c.in_ok-vertex.ensures.pushed c.loop-lsa.invariant.pushed;
      near = near_more (is_kind c.args.kind lsa) vertex c.in_ok-vertex.vertex c.args.first i c.in_ok-vertex.ensures.next c.loop-lsa.invariant.near;
    }
