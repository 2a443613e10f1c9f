-- States of a rollout, the paths that it has to hold, and safe orders of its steps.
use Rattle.std.specs.Prelude.{ℕ, ◌<◌, ◌≤◌, ◌&&◌, Bool, true, false, cond, List, length, map, take, slice_index, All, Contains}
use Rattle.std.specs.List.{list_any}
use Rattle.std.specs.List.Sorted.{IsStrictlyIncreasing}
use Rattle.cost_base.specs.Lists.{NoneTwice, numbers_from}
use Rattle.cost_base.specs.Marks.{is_one_of}
use Rattle.area_graph.specs.Costs.{IsOnlyCheapest, at_costs}
use Rattle.design_problem.specs.Problems.{request_at, request_ends}
use Rattle.change_steps.specs.Rollouts.{CostMoves, Rollout, variables_of_step, step_count}

-- A state says of each step whether it is done.

-- no step is done: the present network
abbrev pub none_done : ℕ → Bool
none_done k = false

-- all steps are done: the wanted network
abbrev pub all_done : ℕ → Bool
all_done k = true

-- whether a step that is done changes the variable
unfoldable pub is_changed : CostMoves → (ℕ → Bool) → ℕ → Bool
is_changed m done v = list_any (λ k. done k && is_one_of (variables_of_step m k) v) (numbers_from 0 (length m.steps))

-- the cost of a variable in a state: the wanted one where a step that is done changes it, else the present one
unfoldable pub cost_in : CostMoves → (ℕ → Bool) → ℕ → ℕ
cost_in m done v = cond (is_changed m done v) (slice_index m.wanted v) (slice_index m.present v)

-- the costs in a state
unfoldable pub costs_in : CostMoves → (ℕ → Bool) → List ℕ
costs_in m done = map (cost_in m done) (numbers_from 0 (length m.present))

-- in that state the path of a request is the only cheapest among all its simple paths
abbrev pub IsOnlyIn : Rollout → (ℕ → Bool) → ℕ → Type 0
IsOnlyIn r done k =
    IsOnlyCheapest r.graph (at_costs (costs_in r.moves done)) (request_ends (request_at r.requests k)) (request_at r.requests k).path.edges

-- held: the numbers, rising, of the paths that are the only cheapest both at present and after all steps
pub record AreHeld (r : Rollout) (held : List ℕ) : Type 0 where
  pub rising : IsStrictlyIncreasing held
  pub known : All (λ k. k < length r.requests) held
  pub present : All (IsOnlyIn r none_done) held
  pub wanted : All (IsOnlyIn r all_done) held
  pub each : (k : ℕ) → k < length r.requests → IsOnlyIn r none_done k → IsOnlyIn r all_done k → Contains held k

-- a state is safe where each held path is the only cheapest
abbrev pub IsSafe : Rollout → List ℕ → (ℕ → Bool) → Type 0
IsSafe r held done = All (IsOnlyIn r done) held

-- how a safe order may begin: steps of the rollout, none twice, and the state of each of their beginnings is safe
pub record IsSafeBeginning (r : Rollout) (held order : List ℕ) : Type 0 where
  pub known : All (λ k. k < step_count r) order
  pub once : NoneTwice order
  pub safe : (n : ℕ) → n ≤ length order → IsSafe r held (is_one_of (take n order))

-- an order of all steps, each once, in which the state of each beginning is safe
pub record IsSafeOrder (r : Rollout) (held order : List ℕ) : Type 0 where
  pub beginning : IsSafeBeginning r held order
  pub all : (k : ℕ) → k < step_count r → Contains order k
