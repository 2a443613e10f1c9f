-- Where a walk may leave a path, and what it then costs at least.
use Rattle.std.specs.Prelude.{◌≡◌, ◌≢◌, ℕ, ◌+◌, ◌<◌, ◌≤◌, ◌⊎◌, List, Option, Some, None, MatchOption, length, take, slice_index}
use Rattle.cost_base.specs.Lists.{Lacks}
use Rattle.area_graph.specs.declared.Point.{Point}
use Rattle.area_graph.specs.Area.{Area, edge_at}
use Rattle.area_graph.specs.Costs.{cost, price_at}
use Rattle.spf_ties.specs.Distances.{Findings, distance_at}
use Rattle.rival_separation.specs.declared.deviation.Deviation.{Deviation}

-- the edge isn't excluded, from its end on some path costs least, and with that path it costs so much
pub record IsOnward (g : Area) (p : Point) (excluded : List ℕ) (room : Findings) (e total : ℕ) : Type 0 where
  pub rest : ℕ
  pub left : Lacks excluded e
  pub distance : distance_at room (edge_at g e).to ≡ Some rest
  pub sums : total ≡ price_at p (edge_at g e).price + rest

-- at the vertex of its place the path may be left by another edge, and with the cheapest way on from there it costs so
-- much
pub record DeviatesFromPath (g : Area) (p : Point) (excluded : List ℕ) (room : Findings) (path : List ℕ) (place e total : ℕ) : Type 0 where
  pub rest : ℕ
  pub within : place < length path
  pub known : e < length g.edges
  pub from : (edge_at g e).from ≡ (edge_at g (slice_index path place)).from
  pub other : e ≢ slice_index path place
  pub onward : IsOnward g p excluded room e rest
  pub sums : total ≡ cost g p (take place path) + rest

-- the best of the deviations that were seen: none of them costs less; or there was none
abbrev pub IsBestDeviation : (ℕ → ℕ → ℕ → Type 0) → (ℕ → ℕ → Type 0) → Option Deviation → Type 0
IsBestDeviation Deviates Seen None = (place e total : ℕ) → Seen place e → Deviates place e total → ⊥
IsBestDeviation Deviates Seen (Some best) = Deviates best.place best.edge best.cost ×
    ((place e total : ℕ) → Seen place e → Deviates place e total → best.cost ≤ total)

-- the better of the best deviation so far and a later one: the first, unless the later one costs less
abbrev pub IsBetter : Option Deviation → Deviation → Deviation → Type 0
IsBetter best later result = MatchOption best (result ≡ later) (λ first. ((result ≡ later) × (later.cost < first.cost))
    ⊎ ((result ≡ first) × (first.cost ≤ later.cost)))

-- the better of the best so far and a deviation by an edge at a place, where there is one, at this cost
abbrev pub IsBetterBy : Option Deviation → ℕ → ℕ → Option ℕ → Option Deviation → Type 0
IsBetterBy best place edge cost result =
    MatchOption cost (result ≡ best) (λ total. MatchOption result ⊥ (λ better. IsBetter best (record { place = place; edge = edge; cost = total }) better))
