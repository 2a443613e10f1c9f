-- What rivals cost at least that go over the links of a step. No public clause cites it.
use Rattle.std.specs.Prelude.{◌≡◌, ℕ, nat_lt, ◌<◌, ◌≤◌, ◌⊎◌, Bool, true, false, cond, List, [], filter, length, map, slice_index, slice_index_or}
use Rattle.cost_base.specs.Lists.{Has, numbers_from}
use Rattle.cost_base.specs.Marks.{is_one_of}
use Rattle.area_graph.specs.declared.Point.{Point}
use Rattle.area_graph.specs.declared.Price.{Price}
use Rattle.area_graph.specs.declared.Price.TheVariants.{Fixed, Var, Zero}
use Rattle.area_graph.specs.Area.{Area, edge_at}
use Rattle.area_graph.specs.Paths.{IsPathOf}
use Rattle.area_graph.specs.Costs.{at_costs, cost}
use Rattle.design_problem.specs.Problems.{request_at, request_ends}
use Rattle.change_steps.specs.declared.reach.Reach.{Reach}
use Rattle.change_steps.specs.Rollouts.{CostMoves, Rollout, variables_of_step, step_count}
use Rattle.change_steps.specs.Orders.{costs_in}
use Rattle.change_steps.specs.Kinds.{rises}

-- the price is the cost of one of these variables
abbrev pub has_price : List ℕ → Price → Bool
has_price variables (Fixed c) = false
has_price variables (Var v) = is_one_of variables v
has_price variables Zero = false

-- the wanted price is greater than the present one
abbrev pub price_rises : CostMoves → Price → Bool
price_rises m (Fixed c) = false
price_rises m (Var v) = rises m v
price_rises m Zero = false

-- the edges whose costs a step changes
unfoldable pub edges_of_step : Rollout → ℕ → List ℕ
edges_of_step r k = filter (λ e. has_price (variables_of_step r.moves k) (edge_at r.graph e).price) (numbers_from 0 (length r.graph.edges))

-- the lesser of the present and the wanted cost, than which no state has less
abbrev pub least_cost : CostMoves → ℕ → ℕ
least_cost m v = cond (nat_lt (slice_index m.present v) (slice_index m.wanted v)) (slice_index m.present v) (slice_index m.wanted v)

-- the least cost of each variable in any state
unfoldable pub least_costs : CostMoves → List ℕ
least_costs m = map (least_cost m) (numbers_from 0 (length m.present))

-- numbers of which each is at most what a simple path costs from the vertex of its place to the target
abbrev pub AreLeastTo : Area → Point → ℕ → List ℕ → Type 0
AreLeastTo g p target least = (v : ℕ) (path : List ℕ) → IsPathOf g (record { start = v; end = target; excluded = [] }) path →
    slice_index_or least v 0 ≤ cost g p path

-- for each target numbers of which each is at most what a simple path costs from the vertex of its place to that target
abbrev pub AreLeastToEach : Area → Point → List (List ℕ) → Type 0
AreLeastToEach g p least = (target : ℕ) → AreLeastTo g p target (slice_index_or least target [])

-- what a path costs at least from one vertex to another
abbrev pub least_from_to : List (List ℕ) → ℕ → ℕ → ℕ
least_from_to least start target = slice_index_or (slice_index_or least target []) start 0

-- the edges of each step, and what paths cost at least at the least costs of the variables
pub record IsReach (r : Rollout) (reach : Reach) : Type 0 where
  pub edges : reach.edges ≡ map (edges_of_step r) (numbers_from 0 (step_count r))
  pub least : AreLeastToEach r.graph (at_costs (least_costs r.moves)) reach.least

-- each rival that goes over the edge costs more in a state than the path of the request
abbrev pub AreDearerOver : Rollout → (ℕ → Bool) → ℕ → ℕ → Type 0
AreDearerOver r done k e = (other : List ℕ) → IsPathOf r.graph (request_ends (request_at r.requests k)) other → Has other e →
    cost r.graph (at_costs (costs_in r.moves done)) (request_at r.requests k).path.edges < cost r.graph (at_costs (costs_in r.moves done)) other

-- The edge takes nothing from the path of a request in a state: on the path its price falls; off the path it rises, or
-- each rival that goes over it costs more.
pub record IsHarmless (r : Rollout) (done : ℕ → Bool) (k e : ℕ) : Type 0 where
  pub on : Has (request_at r.requests k).path.edges e → price_rises r.moves (edge_at r.graph e).price ≡ false
  pub off : (Has (request_at r.requests k).path.edges e → ⊥) → (price_rises r.moves (edge_at r.graph e).price ≡ true) ⊎ AreDearerOver r done k e
