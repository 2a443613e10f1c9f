-- The walk of a wanted path in the outline of the area's graph.
use Rattle.std.specs.Prelude.{◌≡◌}
use Rattle.lsdb_build.specs.Graphs.{Database}
use Rattle.wanted_paths.specs.declared.routes.Walk.{Walk}
use Rattle.request_reader.specs.WrittenRoutes.{Route}
use Rattle.wanted_paths.specs.Paths.{next_name, router_number, route_edges}
use Rattle.wanted_paths.specs.Paths.{outline}

-- the walk of a route: from its first router over the edges of its hops to its last router
pub record IsWalk (d : Database) (route : Route) (walk : Walk) : Type 0 where
  pub start : walk.path.start ≡ router_number d (next_name route.hops route.last)
  pub edges : walk.path.edges ≡ route_edges d (outline d) route.hops route.last
  pub end : walk.end ≡ router_number d route.last
