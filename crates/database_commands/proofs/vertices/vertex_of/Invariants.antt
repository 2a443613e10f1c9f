-- the vertex is among those of the LSAs that are left
use Rattle.std.proofs.Common.{◌≡◌, ◌≤◌, true, drop}
use Rattle.std.specs.Prelude.{unwrap_or}
use Rattle.lsa_bytes.specs.AreaGraphs.{routers_among, vertex_back}
use Rattle.lsa_bytes.specs.Databases.{is_router_of}
use Rattle.database_commands.specs.Routes.{vertex_of_router}
use Rattle.database_commands.proofs.vertices.vertex_of.Given as goal

abbrev pub invariant-loop-lsa : goal.invariant-loop-lsa
invariant-loop-lsa l = record {
  vertex : unwrap_or (vertex_back l.vertex (is_router_of l.id) (λ body. true) (routers_among (drop l.lsa-index l.lsas))) 0 ≡ vertex_of_router l.lsas l.id;
  few : l.vertex ≤ l.lsa-index;
}
