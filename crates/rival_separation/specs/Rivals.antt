-- Rivals of a wanted path: the other simple paths of its request.
use Rattle.std.specs.Prelude.{◌≡◌, ◌↔◌, ℕ, ◌+◌, ◌<◌, ◌≤◌, List, [], ◌∷◌, ◌++◌, length, slice_index_or, Some, true, false}
use Rattle.area_graph.specs.declared.Point.{Point}
use Rattle.area_graph.specs.Area.{Area, edge_at}
use Rattle.area_graph.specs.Paths.{Ends, IsPathOf}
use Rattle.area_graph.specs.Costs.{cost}
use Rattle.area_graph.specs.Distances.{AreEdgeMarks}
use Rattle.design_problem.specs.Rows.{IsRivalBetween}
use Rattle.spf_ties.specs.Distances.{AreTight, Findings, IsLeastBelow, IsRoomFor, distance_at, is_tight}

-- a rival that costs less than the wanted path and the scale, and no rival costs less
pub record IsCheapestRival (g : Area) (p : Point) (ends : Ends) (wanted es : List ℕ) : Type 0 where
  pub rival : IsRivalBetween g ends wanted es
  pub cheap : cost g p es < cost g p wanted + p.scale
  pub none_less : (others : List ℕ) → IsRivalBetween g ends wanted others → cost g p es ≤ cost g p others

-- what a room tells after the distances to the end of a request without its excluded edges, those below a limit
pub record HasDistancesBelow (g : Area) (p : Point) (ends : Ends) (limit : ℕ) (room : Findings) : Type 0 where
  pub room_for : IsRoomFor g room
  pub marks : AreEdgeMarks ends.excluded room.marks
  pub least : (v : ℕ) → v < length g.vertices → IsLeastBelow g p (record { start = v; end = ends.end; excluded = ends.excluded }) limit (distance_at room v)
  pub tight : (v : ℕ) (path : List ℕ) → IsPathOf g (record { start = v; end = ends.end; excluded = ends.excluded }) path →
      cost g p path < limit → (distance_at room v ≡ Some (cost g p path)) ↔ AreTight g p room path

-- the room has the distances to the end of a request without its excluded edges, those below a limit of at least so
-- much
pub record HasDistancesTo (g : Area) (p : Point) (ends : Ends) (enough : ℕ) (room : Findings) : Type 0 where
  pub limit : ℕ
  pub above : enough ≤ limit
  pub found : HasDistancesBelow g p ends limit room

-- a tight edge out of a vertex that isn't excluded
pub record IsNextEdge (g : Area) (p : Point) (room : Findings) (v e : ℕ) : Type 0 where
  pub known : e < length g.edges
  pub from : (edge_at g e).from ≡ v
  pub tight : is_tight g p room e ≡ true
  pub left : slice_index_or room.marks e true ≡ false

-- the ends of a request, from another vertex on
abbrev pub ends_from : Ends → ℕ → Ends
ends_from ends v = record { start = v; end = ends.end; excluded = ends.excluded }

-- the room with an edge behind the path that it keeps
abbrev pub with_edge : Findings → ℕ → Findings
with_edge room e = record room { path = room.path ++ e ∷ [] }

-- the walk is the path that a room keeps, and behind it a path of least cost from a vertex to the request's end
pub record IsFollowedByLeast (g : Area) (p : Point) (ends : Ends) (room : Findings) (v : ℕ) (walk : List ℕ) : Type 0 where
  pub rest : List ℕ
  pub path : IsPathOf g (ends_from ends v) rest
  pub costs : distance_at room v ≡ Some (cost g p rest)
  pub same : walk ≡ room.path ++ rest

-- some path leads from the vertex to the end, and with any of least cost the room's path is shorter than the graph has
-- vertices
pub record HasWay (g : Area) (p : Point) (ends : Ends) (room : Findings) (v : ℕ) : Type 0 where
  pub known : v < length g.vertices
  pub least : ℕ
  pub distance : distance_at room v ≡ Some least
  pub short : (rest : List ℕ) → IsPathOf g (ends_from ends v) rest → cost g p rest ≡ least → length room.path + length rest < length g.vertices

-- a walk that came to a vertex: with each path of least cost from there to the end it has the property
pub record Completes (g : Area) (p : Point) (ends : Ends) (room : Findings) (Holds : List ℕ → Type 0) (walk : List ℕ) (at_vertex : ℕ) : Type 0 where
  pub known : at_vertex < length g.vertices
  pub least : ℕ
  pub distance : distance_at room at_vertex ≡ Some least
  pub whole : (rest : List ℕ) → IsPathOf g (ends_from ends at_vertex) rest → cost g p rest ≡ least → Holds (walk ++ rest)
