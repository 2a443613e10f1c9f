-- Outsiders of wanted paths: the other simple paths of their request.
use Rattle.std.specs.Prelude.{◌≢◌, ℕ, ◌<◌, ◌≤◌, List, All}
use Rattle.area_graph.specs.declared.Point.{Point}
use Rattle.area_graph.specs.Area.{Area}
use Rattle.area_graph.specs.Paths.{Ends, IsPathOf}
use Rattle.area_graph.specs.Costs.{cost}

-- a simple path of the request that is none of the wanted ones
pub record IsOutsider (g : Area) (ends : Ends) (wanted : List (List ℕ)) (es : List ℕ) : Type 0 where
  pub path : IsPathOf g ends es
  pub other : All (λ w. es ≢ w) wanted

-- an outsider of wanted paths that costs less than `most`, and no outsider costs less than it
pub record IsCheapestOutsider (g : Area) (p : Point) (ends : Ends) (wanted : List (List ℕ)) (most : ℕ) (es : List ℕ) : Type 0 where
  pub outsider : IsOutsider g ends wanted es
  pub cheap : cost g p es < most
  pub none_less : (others : List ℕ) → IsOutsider g ends wanted others → cost g p es ≤ cost g p others

-- each outsider of wanted paths costs at least `most`
abbrev pub CostAtLeast : Area → Point → Ends → List (List ℕ) → ℕ → Type 0
CostAtLeast g p ends wanted most = (es : List ℕ) → IsOutsider g ends wanted es → most ≤ cost g p es
