-- A search for least costs on its way: vertices are settled one by one, the nearest to the target first. No public
-- clause cites it.
use Rattle.std.specs.Prelude.{◌≡◌, ℕ, ◌+◌, ◌^◌, ◌<◌, ◌≤◌, List, length, slice_index, All, Contains, Bool, true, false, not, count_by}
use Rattle.cost_base.specs.Lists.{Lacks, numbers_from}
use Rattle.cost_base.specs.Marks.{is_marked}
use Rattle.area_graph.specs.declared.Point.{Point}
use Rattle.area_graph.specs.Area.{Area, edge_at}
use Rattle.area_graph.specs.declared.subgraph.Subgraph.{Subgraph}
use Rattle.area_graph.specs.Distances.{far, AreReached, FitsSubgraph, through}
use Rattle.spf_ties.specs.declared.heap.WaitingVertex.{WaitingVertex}
use Rattle.spf_ties.specs.declared.search.Front.{Front}
use Rattle.spf_ties.specs.declared.search.Width.{Width}
use Rattle.spf_ties.specs.declared.search.Width.TheVariants.{Narrow, Wide}
use Rattle.spf_ties.specs.Waiting.{Waiting}

-- a number and a mark for each vertex, and no number above `far`
pub record AreSearchNumbers (g : Area) (p : Point) (d : List ℕ) (settled : List Bool) : Type 0 where
  pub count : length d ≡ length g.vertices
  pub marks : length settled ≡ length g.vertices
  pub bounded : All (λ x. x ≤ far p) d

-- how many edges lead to a vertex that isn't settled
abbrev pub open_edges : Area → List Bool → ℕ
open_edges g settled = count_by (λ e. not (is_marked settled (edge_at g e).to)) (numbers_from 0 (length g.edges))

-- an entry tells of a vertex, at no more than the limit and no less than its number and than what was settled last
pub record MayWait (limit least : ℕ) (d : List ℕ) (entry : WaitingVertex) : Type 0 where
  pub known : entry.vertex < length d
  pub near : entry.distance ≤ limit
  pub later : least ≤ entry.distance
  pub not_below : slice_index d entry.vertex ≤ entry.distance

-- an edge leads to the vertex that was settled last
pub record LeadsToLast (g : Area) (least : ℕ) (d : List ℕ) (settled : List Bool) (e : ℕ) : Type 0 where
  pub known : e < length g.edges
  pub is_settled_there : is_marked settled (edge_at g e).to ≡ true
  pub last : least ≤ slice_index d (edge_at g e).to

-- where a search for least costs below a limit stands that settled a vertex at `least` last, and has yet to look at the
-- edges `todo` into it
pub record Underway (g : Area) (p : Point) (excluded : List ℕ) (t limit least : ℕ) (todo : List ℕ) (d : List ℕ)
    (settled : List Bool) (waiting : List WaitingVertex) : Type 0 where
  pub reached : AreReached g p excluded t limit d
  pub bounded : All (λ x. x ≤ limit) d
  pub before : (v : ℕ) → is_marked settled v ≡ true → slice_index d v ≤ least
  pub waits : (v : ℕ) → v < length d → is_marked settled v ≡ false → slice_index d v < limit →
      Contains waiting (record { distance = slice_index d v; vertex = v })
  pub entries : All (MayWait limit least d) waiting
  pub edges : All (LeadsToLast g least d settled) todo
  pub closed : (e : ℕ) → e < length g.edges → Lacks excluded e → is_marked settled (edge_at g e).to ≡ true → Lacks todo e →
      slice_index d (edge_at g e).from ≤ through p (edge_at g e) d

-- where a search for least costs in a subgraph below a limit stands that settled a vertex at `least` last
abbrev pub UnderwayIn : Subgraph → ℕ → ℕ → ℕ → List ℕ → List ℕ → List Bool → List WaitingVertex → Type 0
UnderwayIn s t limit least todo d settled waiting =
    Underway s.graph.now s.point.now s.exclusion.now t limit least todo d settled waiting

-- the point is one for the graph, of a scale so small that each number fits 64 bits
pub record IsNarrow (s : Subgraph) : Type 0 where
  pub fits : FitsSubgraph s
  pub scale : s.point.now.scale < 2 ^ 37

-- a front made for the graph, with a place for each edge and for the target
pub record IsFrontFor (s : Subgraph) (front : Front) : Type 0 where
  pub count : length front.numbers.items ≡ length s.graph.now.vertices
  pub marks : length front.settled.items ≡ length s.graph.now.vertices
  pub places : length s.graph.now.edges < front.waiting.places

-- the front's numbers and marks are those of a search
abbrev pub AreFrontNumbers : Subgraph → Front → Type 0
AreFrontNumbers s front = AreSearchNumbers s.graph.now s.point.now front.numbers.items front.settled.items

-- there is a place for each entry that waits, and for each edge to a vertex that isn't settled
abbrev pub HasPlaces : Subgraph → Front → Type 0
HasPlaces s front =
    length front.waiting.entries + open_edges s.graph.now front.settled.items ≤ front.waiting.places

-- what a step of a search does to what waits: one entry more at most, and no place less
pub record GrowsByOne (old new : Waiting) : Type 0 where
  pub places : old.places ≤ new.places
  pub one : length new.entries ≤ length old.entries + 1

-- what a step of a search leaves of what waits: no place less, and no more entries together with the edges that may
-- still make one
pub record NeedsNoMore (s : Subgraph) (old new : Front) : Type 0 where
  pub places : old.waiting.places ≤ new.waiting.places
  pub fewer : length new.waiting.entries + open_edges s.graph.now new.settled.items ≤
      length old.waiting.entries + open_edges s.graph.now old.settled.items

-- the distances that a search left: of 64 bits where it worked in those, else of 128
abbrev pub numbers_in_use : Width → List ℕ → List ℕ → List ℕ
numbers_in_use Narrow narrow wide = narrow
numbers_in_use Wide narrow wide = wide
