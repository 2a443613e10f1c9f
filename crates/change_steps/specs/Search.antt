-- What a search for an order keeps. No public clause cites it.
use Rattle.std.specs.Prelude.{◌≡◌, ◌≢◌, ℕ, nat_lt, ◌<◌, ◌≤◌, ◌&&◌, ◌++◌, ◌∷◌, ◌⊎◌, Bool, true, false, not, List, [], filter, length, map, take, slice_index_or, slice_set, All, Contains, if◌then◌else◌}
use Rattle.cost_base.specs.Lists.{numbers_from}
use Rattle.cost_base.specs.Marks.{is_marked, is_one_of}
use Rattle.area_graph.specs.Costs.{at_costs}
use Rattle.change_steps.specs.declared.found.Blocked.{Blocked}
use Rattle.change_steps.specs.declared.kinds.Kind.{Kind}
use Rattle.change_steps.specs.declared.kinds.Kind.TheVariants.{Between}
use Rattle.change_steps.specs.declared.reach.Reach.{Reach}
use Rattle.change_steps.specs.declared.state.State.{State}
use Rattle.change_steps.specs.Rollouts.{IsRollout, Rollout, step_count}
use Rattle.change_steps.specs.Orders.{AreHeld, IsSafe, IsSafeBeginning, costs_in}
use Rattle.change_steps.specs.Kinds.{comes_between, comes_last, first_steps, kind_of_step, lies_on_held}
use Rattle.change_steps.specs.Outcomes.{IsBarrier, IsGreatest}
use Rattle.change_steps.specs.States.{AreTested, MayFollow, marks_of}
use Rattle.change_steps.specs.Reaches.{IsReach}

-- a mark for each variable, which tells whether it lies on a held path
pub record AreHeldMarks (r : Rollout) (held : List ℕ) (marks : List Bool) : Type 0 where
  pub count : length marks ≡ length r.moves.present
  pub told : (v : ℕ) → v < length r.moves.present → slice_index_or marks v false ≡ lies_on_held r held v

-- the marks of a state, and the point of its costs
pub record IsStateOf (r : Rollout) (state : State) : Type 0 where
  pub count : length state.done.items ≡ step_count r
  pub point : state.point ≡ at_costs (costs_in r.moves (is_marked state.done.items))

-- a rollout and the paths that it has to hold
pub record HeldRollout : Type 0 where
  pub rollout : Rollout
  pub held : List ℕ

-- what a held rollout keeps: the held paths, the kind of each step, and what the steps may take from the held paths
pub record IsHeldRollout (p : HeldRollout) (kinds : List Kind) (reach : Reach) : Type 0 where
  pub rollout : IsRollout p.rollout
  pub held : AreHeld p.rollout p.held
  pub same : kinds ≡ map (kind_of_step p.rollout p.held) (numbers_from 0 (step_count p.rollout))
  pub reaches : IsReach p.rollout reach

-- one state has a step more than another, which may have it already
pub record HasMore (r : Rollout) (f g : ℕ → Bool) (step : ℕ) : Type 0 where
  pub known : step < step_count r
  pub done : g step ≡ true
  pub others : (k : ℕ) → k ≢ step → f k ≡ g k

-- where a search stands: the steps between that are done, the step from which on it goes on, the tested states, and the
-- steps between of the first of the greatest safe ones
pub record Position : Type 0 where
  pub order : List ℕ
  pub next : ℕ
  pub tested : List (List Bool)
  pub greatest : List ℕ

-- the first steps, and some steps behind them
abbrev pub order_behind_first : HeldRollout → List ℕ → List ℕ
order_behind_first p order = first_steps p.rollout p.held ++ order

-- the state in which just the first steps and these are done, by a mark for each step
abbrev pub way_state : HeldRollout → List ℕ → List Bool
way_state p order = marks_of p.rollout (is_one_of (order_behind_first p order))

-- of the steps below some number each that may follow a state was tested after it
abbrev pub IsExplored : HeldRollout → List (List Bool) → List Bool → ℕ → Type 0
IsExplored p tested marks next = (k : ℕ) → k < next → MayFollow p.rollout p.held marks k → Contains tested (slice_set marks k true)

-- the state is one of those on the way
abbrev pub IsOnWay : HeldRollout → List ℕ → List Bool → Type 0
IsOnWay p order marks = (d : ℕ) × (d ≤ length order) × (marks ≡ way_state p (take d order))

-- what a search keeps: its way is safe and tested; of each state on the way the steps before the one that was gone on
-- with were tested; each other safe state was tested with all that may follow
pub record IsSearch (p : HeldRollout) (s : Position) : Type 0 where
  pub beginning : IsSafeBeginning p.rollout p.held (order_behind_first p s.order)
  pub between : All (λ k. kind_of_step p.rollout p.held k ≡ Between) s.order
  pub are : AreTested p.rollout p.held s.tested
  pub on_way : (d : ℕ) → d ≤ length s.order → Contains s.tested (way_state p (take d s.order))
  pub explored : (d : ℕ) → d ≤ length s.order → IsExplored p s.tested (way_state p (take d s.order)) (slice_index_or (s.order ++ s.next ∷ []) d 0)
  pub finished : (marks : List Bool) → Contains s.tested marks → IsSafe p.rollout p.held (is_marked marks) →
      IsOnWay p s.order marks ⊎ IsExplored p s.tested marks (step_count p.rollout)
  pub most : IsGreatest p.rollout p.held s.tested (order_behind_first p s.greatest)

-- each safe state that was tested lacks a step between
abbrev pub AllLack : HeldRollout → List (List Bool) → Type 0
AllLack p tested = (marks : List Bool) → Contains tested marks → IsSafe p.rollout p.held (is_marked marks) →
    (k : ℕ) × MayFollow p.rollout p.held marks k

-- a step may follow a state, and the state after it wasn't tested
pub record IsNewStep (p : HeldRollout) (tested : List (List Bool)) (marks : List Bool) (step : ℕ) : Type 0 where
  pub follows : MayFollow p.rollout p.held marks step
  pub new : Contains tested (slice_set marks step true) → ⊥

-- the longer of two lists, and of equally long ones the first
abbrev pub longer_of : List ℕ → List ℕ → List ℕ
longer_of xs ys = if nat_lt (length xs) (length ys) then ys else xs

-- the last steps, in order
abbrev pub last_steps : HeldRollout → List ℕ
last_steps p = filter (λ k. comes_last (kind_of_step p.rollout p.held k)) (numbers_from 0 (step_count p.rollout))

-- what is in the way of a step that isn't done in a state
pub record IsStepBlocked (p : HeldRollout) (tested : List (List Bool)) (marks : List Bool) (step : ℕ) (blocked : Blocked) : Type 0 where
  pub step_is : blocked.step ≡ step
  pub barrier : IsBarrier p.rollout p.held tested (slice_set marks step true) blocked.by

-- what is in the way of the steps between that aren't done in a state, in order
pub record AreBlockedIn (p : HeldRollout) (tested : List (List Bool)) (marks : List Bool) (blocked : List Blocked) : Type 0 where
  pub steps : map (λ b. b.step) blocked ≡
      filter (λ k. comes_between (kind_of_step p.rollout p.held k) && not (is_marked marks k)) (numbers_from 0 (step_count p.rollout))
  pub each : All (λ b. IsBarrier p.rollout p.held tested (slice_set marks b.step true) b.by) blocked
