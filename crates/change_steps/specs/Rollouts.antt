-- Costs that go live step by step.
use Rattle.std.specs.Prelude.{◌≡◌, ℕ, ◌<◌, ◌≤◌, List, [], length, slice_index_or, All}
use Rattle.cost_base.specs.Lists.{Has}
use Rattle.area_graph.specs.Area.{Area, FitsGraph}
use Rattle.area_graph.specs.Costs.{IsPriced}
use Rattle.design_problem.specs.declared.problem.Request.{Request}
use Rattle.rival_separation.specs.Askers.{ArePathsOf}

-- a present and a wanted cost for each variable, and the steps from the one to the other: the variables that each
-- changes
pub record CostMoves : Type 0 where
  pub present : List ℕ
  pub wanted : List ℕ
  pub steps : List (List ℕ)

-- the variables that a step changes; none past the end
abbrev pub variables_of_step : CostMoves → ℕ → List ℕ
variables_of_step m k = slice_index_or m.steps k []

-- an interface cost has 16 bits and isn't 0 (RFC 2328, A.4.3)
abbrev pub IsInterfaceCost : ℕ → Type 0
IsInterfaceCost cost = (1 ≤ cost) × (cost ≤ 65535)

-- what moves keep: two costs for each variable, and each variable in at most one step
pub record AreMoves (m : CostMoves) : Type 0 where
  pub count : length m.wanted ≡ length m.present
  pub present : All IsInterfaceCost m.present
  pub wanted : All IsInterfaceCost m.wanted
  pub known : All (λ variables. All (λ v. v < length m.present) variables) m.steps
  pub once : (i j v : ℕ) → Has (variables_of_step m i) v → Has (variables_of_step m j) v → i ≡ j

-- a rollout: the graph of an area, the requests with their wanted paths, and the moves of the graph's variables
pub record Rollout : Type 0 where
  pub graph : Area
  pub requests : List Request
  pub moves : CostMoves

-- what a rollout keeps: each variable of the graph has costs, and the path of each request is a simple path of it
pub record IsRollout (r : Rollout) : Type 0 where
  pub graph : FitsGraph r.graph
  pub moves : AreMoves r.moves
  pub priced : All (λ edge. IsPriced (length r.moves.present) edge.price) r.graph.edges
  pub requests : ArePathsOf r.graph r.requests
  pub few : length r.requests ≤ 10000

-- how many steps a rollout has
abbrev pub step_count : Rollout → ℕ
step_count r = length r.moves.steps
