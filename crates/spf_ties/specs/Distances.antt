-- Least costs over simple paths, and the edges on which they lie.
use Rattle.std.specs.Prelude.{◌≡◌, ℕ, ◌+◌, ◌<◌, ◌≤◌, ◌==◌, nat_lt, List, length, slice_index_or, filter, Option, Some, None, Bool, true, false, cond}
use Rattle.std.specs.List.{AllByRecursion}
use Rattle.area_graph.specs.declared.Point.{Point}
use Rattle.area_graph.specs.Area.{Area, edge_at, edges_out}
use Rattle.spf_ties.specs.declared.aim.Aim.{Aim}
use Rattle.area_graph.specs.Paths.{Ends, IsPathOf}
use Rattle.area_graph.specs.Costs.{price_at, cost}

-- some path of the request costs so much, and none costs less
pub record IsLeastOfPaths (g : Area) (p : Point) (ends : Ends) (least : ℕ) : Type 0 where
  pub path : List ℕ
  pub is_path : IsPathOf g ends path
  pub costs : cost g p path ≡ least
  pub none_less : (other : List ℕ) → IsPathOf g ends other → least ≤ cost g p other

-- the least cost of a path of the request, None where it has no path
abbrev pub IsLeastCost : Area → Point → Ends → Option ℕ → Type 0
IsLeastCost g p ends (Some least) = IsLeastOfPaths g p ends least
IsLeastCost g p ends None = (path : List ℕ) → IsPathOf g ends path → ⊥

-- the least cost of a path of the request, where it is below a limit; None where every path costs at least that
abbrev pub IsLeastBelow : Area → Point → Ends → ℕ → Option ℕ → Type 0
IsLeastBelow g p ends limit (Some least) = IsLeastOfPaths g p ends least × (least < limit)
IsLeastBelow g p ends limit None = (path : List ℕ) → IsPathOf g ends path → limit ≤ cost g p path

-- the ends of a simple path from a vertex to the target, without the excluded edges
abbrev pub ends_to : Aim → ℕ → Ends
ends_to aim v = record { start = v; end = aim.target; excluded = aim.excluded.now }

-- what a room tells: each vertex's least cost to the target of the last call, a mark for each edge that the call
-- excluded, and the edges of a path
pub record Findings : Type 0 where
  pub costs : List (Option ℕ)
  pub marks : List Bool
  pub path : List ℕ

-- a number that stands for a least cost where it is below `far`
abbrev pub cost_below : ℕ → ℕ → Option ℕ
cost_below far number = cond (nat_lt number far) (Some number) None

-- the least cost from a vertex to the target, where a path of less than the limit was found
abbrev pub distance_at : Findings → ℕ → Option ℕ
distance_at room v = slice_index_or room.costs v None

-- a room made for a graph of as many vertices and edges
pub record IsRoomFor (g : Area) (room : Findings) : Type 0 where
  pub vertices : length room.costs ≡ length g.vertices
  pub edges : length room.marks ≡ length g.edges

-- a distance is a price and another distance
abbrev pub adds_up : Option ℕ → ℕ → Option ℕ → Bool
adds_up None price to = false
adds_up (Some from) price None = false
adds_up (Some from) price (Some to) = from == price + to

-- an edge is tight: both its ends have distances, and that of its start is its price and that of its end together
abbrev pub is_tight : Area → Point → Findings → ℕ → Bool
is_tight g p room e = adds_up (distance_at room (edge_at g e).from) (price_at p (edge_at g e).price) (distance_at room (edge_at g e).to)

-- the tight edges out of a vertex, in rising order
abbrev pub tight_out : Area → Point → Findings → ℕ → List ℕ
tight_out g p room v = filter (is_tight g p room) (edges_out g v)

-- each edge of a path is tight
abbrev pub AreTight : Area → Point → Findings → List ℕ → Type 0
AreTight g p room es = AllByRecursion (λ e. is_tight g p room e ≡ true) es
