-- Numbers for the vertices that tell of the least costs to a target.
use Rattle.std.specs.Prelude.{◌≡◌, ◌≢◌, ℕ, ◌+◌, ◌*◌, ◌^◌, ◌<◌, ◌≤◌, ◌↔◌, List, [], ◌∷◌, length, slice_index, slice_index_or, slice_set, All, Bool, true, false}
use Rattle.cost_base.specs.Lists.{Lacks}
use Rattle.area_graph.specs.declared.Edge.{Edge}
use Rattle.area_graph.specs.declared.Point.{Point}
use Rattle.area_graph.specs.declared.subgraph.Subgraph.{Subgraph}
use Rattle.area_graph.specs.Area.{Area, edge_at, edges_out}
use Rattle.area_graph.specs.Paths.{Joins, Avoids}
use Rattle.area_graph.specs.Costs.{FitsPoint, price_at, cost}

-- the marks, one for each edge, tell which edges are excluded
abbrev pub AreEdgeMarks : List ℕ → List Bool → Type 0
AreEdgeMarks excluded marks = (e : ℕ) → e < length marks → (slice_index_or marks e true ≡ false) ↔ Lacks excluded e

-- more than a simple path can cost
abbrev pub far : Point → ℕ
far p = 2 ^ 26 * p.scale

-- a walk from v to t with no excluded edge, that costs at most so much
pub record WalkWithin (g : Area) (p : Point) (excluded : List ℕ) (v t most : ℕ) : Type 0 where
  pub edges : List ℕ
  pub joins : Joins g v edges t
  pub kept : Avoids excluded edges
  pub within : cost g p edges ≤ most

-- each vertex whose number is below the limit has a walk to t that costs no more than its number; t's own number is 0
pub record AreReached (g : Area) (p : Point) (excluded : List ℕ) (t limit : ℕ) (d : List ℕ) : Type 0 where
  pub target : slice_index d t ≡ 0
  pub reached : (v : ℕ) → v < length d → slice_index d v < limit → WalkWithin g p excluded v t (slice_index d v)

-- the number that an edge leads its start to: the edge's price and the number of its end
abbrev pub through : Point → Edge → List ℕ → ℕ
through p edge d = price_at p edge.price + slice_index d edge.to

-- none of the first n edges that isn't excluded leads its start to a number smaller than the start's own
abbrev pub SettledBelow : ℕ → Area → Point → List ℕ → List ℕ → Type 0
SettledBelow n g p excluded d = (e : ℕ) → e < n → Lacks excluded e → slice_index d (edge_at g e).from ≤ through p (edge_at g e) d

-- the subgraph's point is one for its graph
abbrev pub FitsSubgraph : Subgraph → Type 0
FitsSubgraph s = FitsPoint s.graph.now s.point.now

-- a number for each vertex, and none above `far`
pub record AreNumbersIn (s : Subgraph) (d : List ℕ) : Type 0 where
  pub count : length d ≡ length s.graph.now.vertices
  pub bounded : All (λ x. x ≤ far s.point.now) d

-- the numbers below a limit are costs of walks to t, and no edge that isn't excluded leads its start to a smaller one
pub record AreDistancesTo (s : Subgraph) (t limit : ℕ) (d : List ℕ) : Type 0 where
  pub reached : AreReached s.graph.now s.point.now s.exclusion.now t limit d
  pub settled : SettledBelow (length s.graph.now.edges) s.graph.now s.point.now s.exclusion.now d

-- the numbers stayed as they were, since the edge leads its start to no smaller one
pub record StaysBy (p : Point) (edge : Edge) (old new : List ℕ) : Type 0 where
  pub same : new ≡ old
  pub least : slice_index old edge.from ≤ through p edge old

-- the edge's start got the number that the edge leads it to, which is smaller
pub record ShorterBy (p : Point) (edge : Edge) (old new : List ℕ) : Type 0 where
  pub set : new ≡ slice_set old edge.from (through p edge old)
  pub less : through p edge old < slice_index old edge.from

-- an edge is excluded, is the named one, or leads to more than so much
abbrev pub LeadsToMore : Area → Point → List ℕ → List ℕ → ℕ → ℕ → ℕ → Type 0
LeadsToMore g p excluded d number most e = Lacks excluded e → e ≢ number → most < through p (edge_at g e) d

-- at each vertex of the path every other edge that isn't excluded leads to more than what the path costs from there
abbrev pub OtherEdgesLeadToMore : Area → Point → List ℕ → List ℕ → List ℕ → Type 0
OtherEdgesLeadToMore g p excluded d [] = Unit {0}
OtherEdgesLeadToMore g p excluded d (e ∷ es) = All (LeadsToMore g p excluded d e (cost g p (e ∷ es))) (edges_out g (edge_at g e).from) ×
    OtherEdgesLeadToMore g p excluded d es
