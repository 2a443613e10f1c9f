-- Where walks leave a tree of prefixes, and what they then cost at least.
use Rattle.std.specs.Prelude.{◌≡◌, ℕ, zero, suc, ◌+◌, ◌<◌, ◌≤◌, List, length, slice_index, All}
use Rattle.area_graph.specs.declared.Point.{Point}
use Rattle.area_graph.specs.Area.{Area, edge_at}
use Rattle.area_graph.specs.Paths.{Ends}
use Rattle.area_graph.specs.Costs.{cost, price_at}
use Rattle.spf_ties.specs.Distances.{Findings}
use Rattle.rival_separation.specs.Deviations.{IsOnward}
use Rattle.set_separation.specs.declared.prefix_tree.Step.{Step}
use Rattle.set_separation.specs.PrefixTrees.{HasStep, IsPrefixTree, step_at}

-- the vertex of a place: the start, or the end of its step's edge
abbrev pub place_vertex : Area → Ends → List Step → ℕ → ℕ
place_vertex g ends steps zero = ends.start
place_vertex g ends steps (suc i) = (edge_at g (step_at steps i).edge).to

-- what the prefixes of the places of the first n steps cost
pub record ArePlaceCosts (g : Area) (p : Point) (steps : List Step) (n : ℕ) (costs : List ℕ) : Type 0 where
  pub enough : length steps + 1 ≤ length costs
  pub root : slice_index costs 0 ≡ 0
  pub each : (i : ℕ) → i < n → slice_index costs (i + 1) ≡ slice_index costs (step_at steps i).place + price_at p (edge_at g (step_at steps i).edge).price

-- A tree of the prefixes of some paths of a request that cost the same at the point.
pub record IsTiedTree (g : Area) (p : Point) (ends : Ends) (most : ℕ) (wanted : List (List ℕ)) (steps : List Step) : Type 0 where
  pub tree : IsPrefixTree g ends wanted steps
  pub tied : All (λ w. cost g p w ≡ most) wanted

-- at its vertex the place may be left by an edge that leads to no place, and with the cheapest way on from there it
-- costs so much
pub record DeviatesFromTree (g : Area) (p : Point) (ends : Ends) (room : Findings) (steps : List Step) (costs : List ℕ) (place e total : ℕ) : Type 0 where
  pub rest : ℕ
  pub within : place ≤ length steps
  pub known : e < length g.edges
  pub from : (edge_at g e).from ≡ place_vertex g ends steps place
  pub other : HasStep steps place e → ⊥
  pub onward : IsOnward g p ends.excluded room e rest
  pub sums : total ≡ slice_index costs place + rest
