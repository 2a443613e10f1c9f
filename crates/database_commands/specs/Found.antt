-- What is found of a route in a graph whose vertices are named. No public clause cites it.
use Rattle.std.specs.Prelude.{◌≡◌, ℕ, List, [], map, Option, slice_index_or}
use Rattle.area_graph.specs.declared.Point.{Point}
use Rattle.area_graph.specs.Area.{Area, edge_at}
use Rattle.area_graph.specs.Costs.{at_costs}
use Rattle.spf_ties.specs.Distances.{Findings, distance_at, tight_out}
use Rattle.lsa_bytes.specs.declared.Lsa.{Lsa}
use Rattle.lsa_bytes.specs.AreaGraphs.{lsa_graph}
use Rattle.database_commands.specs.Routes.{AreDistances, route_end, found_end, vertex_of_router}

-- the end of a route's line, by the distances that a room has
abbrev pub end_by : Area → Point → Findings → List ℕ → ℕ → List ℕ
end_by g point room ids start =
    route_end (distance_at room start) (map (λ e. slice_index_or ids (edge_at g e).to 0) (tight_out g point room start))

-- the end of a route's line, by the least costs to the router to go to
pub record EndsBy (g : Area) (ids : List ℕ) (start end : ℕ) (bytes : List ℕ) : Type 0 where
  pub room : Findings
  pub least : AreDistances g end room.costs
  pub written : bytes ≡ end_by g (at_costs []) room ids start

-- the end of the line of a route between two routers of LSAs
pub record IsFoundEnd (lsas : List Lsa) (from to : ℕ) (bytes : List ℕ) : Type 0 where
  pub distances : List (Option ℕ)
  pub least : AreDistances (lsa_graph lsas) (vertex_of_router lsas to) distances
  pub written : bytes ≡ found_end lsas from to distances
