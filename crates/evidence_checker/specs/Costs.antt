-- What is told of costs on the way to a verdict. No public clause cites it.
use Rattle.std.specs.Prelude.{ℕ, ◌<◌, min, List, length, All, Option, Some, None}
use Rattle.area_graph.specs.Area.{Area}
use Rattle.area_graph.specs.Costs.{at_costs, IsOnlyCheapest}
use Rattle.design_problem.specs.declared.problem.Request.{Request}
use Rattle.design_problem.specs.Problems.{request_ends, request_at}

-- the lesser of a variable and the least so far, if any
abbrev pub lesser_of : Option ℕ → ℕ → ℕ
lesser_of None var = var
lesser_of (Some least) var = min least var

-- the wanted path is the only cheapest one at the costs
abbrev pub IsOnlyAt : Area → List ℕ → Request → Type 0
IsOnlyAt g w r = IsOnlyCheapest g (at_costs w) (request_ends r) r.path.edges

-- the path of the request with this number isn't the only cheapest one at the costs
abbrev pub IsNotOnlyAt : Area → List Request → List ℕ → ℕ → Type 0
IsNotOnlyAt g requests w request = (request < length requests) × (IsOnlyAt g w (request_at requests request) → ⊥)

-- the first request whose path isn't the only cheapest one; None where each is
abbrev pub IsFirstTied : Area → List Request → List ℕ → Option ℕ → Type 0
IsFirstTied g requests w None = All (IsOnlyAt g w) requests
IsFirstTied g requests w (Some first) = IsNotOnlyAt g requests w first × ((k : ℕ) → k < first → IsNotOnlyAt g requests w k → ⊥)
