use Rattle.std.proofs.Common.{◌≡◌, ◌≤◌, ◌+◌, ◌++◌, drop, filter}
use Rattle.lsa_bytes.specs.AreaGraphs.{edges_in_order}
use Rattle.lsa_bytes.specs.Vertices.{is_kind}
use Rattle.lsa_bytes.proofs.edges.push_edges.Given as goal

abbrev pub invariant-loop-lsa : goal.invariant-loop-lsa
invariant-loop-lsa l = record {
  pushed : l.edges.items ++ edges_in_order l.vertices l.vertex (filter (is_kind l.kind) (drop l.lsa-index l.vertices))
      ≡ l.fn.edges.items ++ edges_in_order l.vertices l.first (filter (is_kind l.kind) l.vertices);
  near : l.vertex ≤ l.first + l.lsa-index;
}
