-- What is found of a rollout's steps.
use Rattle.std.specs.Prelude.{◌≡◌, ℕ, ◌<◌, ◌≤◌, ◌^◌, max, ◌&&◌, ◌++◌, ◌∷◌, Bool, true, not, List, [], length, map, filter, slice_index_or, slice_set, All, Contains, count_by}
use Rattle.cost_base.specs.Lists.{numbers_from}
use Rattle.cost_base.specs.Marks.{is_marked, is_one_of}
use Rattle.change_steps.specs.declared.found.Barrier.{Barrier}
use Rattle.change_steps.specs.declared.found.Barrier.TheVariants.{Path, Untested}
use Rattle.change_steps.specs.declared.found.Blocked.{Blocked}
use Rattle.change_steps.specs.declared.found.Stuck.{Stuck}
use Rattle.change_steps.specs.declared.found.Outcome.{Outcome}
use Rattle.change_steps.specs.declared.found.Outcome.TheVariants.{Order, NoOrder, Undecided}
use Rattle.change_steps.specs.declared.found.Steps.{Steps}
use Rattle.change_steps.specs.declared.kinds.Kind.TheVariants.{Between}
use Rattle.change_steps.specs.Rollouts.{Rollout, step_count}
use Rattle.change_steps.specs.Orders.{IsOnlyIn, IsSafe, IsSafeBeginning, IsSafeOrder, AreHeld}
use Rattle.change_steps.specs.Kinds.{first_steps, comes_between, kind_of_step, steps_between}
use Rattle.change_steps.specs.States.{AreTested, AreAllReached, IsAnotherReached, MayFollow, marks_of}

-- how many steps are done in a state
abbrev pub done_count : List Bool → ℕ
done_count marks = count_by (λ done. done) marks

-- steps that can be done safely one after another, the first steps first and then some between: their state is the
-- first of the greatest safe states that were tested
pub record IsGreatest (r : Rollout) (held : List ℕ) (tested : List (List Bool)) (done : List ℕ) : Type 0 where
  pub beginning : IsSafeBeginning r held done
  pub rest : List ℕ
  pub begin : done ≡ first_steps r held ++ rest
  pub between : All (λ k. kind_of_step r held k ≡ Between) rest
  pub place : ℕ
  pub within : place < length tested
  pub same : slice_index_or tested place [] ≡ marks_of r (is_one_of done)
  pub greatest : (i : ℕ) → i < length tested → IsSafe r held (is_marked (slice_index_or tested i [])) →
      done_count (slice_index_or tested i []) ≤ length done
  pub earliest : (i : ℕ) → i < place → IsSafe r held (is_marked (slice_index_or tested i [])) →
      done_count (slice_index_or tested i []) < length done

-- the first held path that isn't the only cheapest in a state
pub record IsFirstLost (r : Rollout) (held : List ℕ) (done : ℕ → Bool) (path : ℕ) : Type 0 where
  pub before : List ℕ
  pub after : List ℕ
  pub same : held ≡ before ++ path ∷ after
  pub hold : All (IsOnlyIn r done) before
  pub lost : IsOnlyIn r done path → ⊥

-- why a state isn't among those to go on from: it was tested and loses a held path, or it wasn't tested
abbrev pub IsBarrier : Rollout → List ℕ → List (List Bool) → List Bool → Barrier → Type 0
IsBarrier r held tested marks (Path path) = Contains tested marks × IsFirstLost r held (is_marked marks) path
IsBarrier r held tested marks Untested = Contains tested marks → ⊥

-- what is in the way of the steps between that aren't done, in order, each after the steps that are done
pub record AreBlocked (r : Rollout) (held : List ℕ) (tested : List (List Bool)) (done : List ℕ) (blocked : List Blocked) : Type 0 where
  pub steps : map (λ b. b.step) blocked ≡ filter (λ k. comes_between (kind_of_step r held k) && not (is_one_of done k)) (numbers_from 0 (step_count r))
  pub each : All (λ b. IsBarrier r held tested (slice_set (marks_of r (is_one_of done)) b.step true) b.by) blocked

-- how far a search came that tested these states
pub record IsSearchEnd (r : Rollout) (held : List ℕ) (tested : List (List Bool)) (stuck : Stuck) : Type 0 where
  pub greatest : IsGreatest r held tested stuck.done.items
  pub blocked : AreBlocked r held tested stuck.done.items stuck.blocked.items

-- no order is safe: some states are all that can be reached, and no order of all steps, whichever comes first, is safe
pub record HasNoOrder (r : Rollout) (held : List ℕ) (nodes : ℕ) (stuck : Stuck) : Type 0 where
  pub none : (order : List ℕ) → IsSafeOrder r held order → ⊥
  pub tested : List (List Bool)
  pub are : AreTested r held tested
  pub all : AreAllReached r held tested
  pub few : length tested ≤ max 1 nodes
  pub came : IsSearchEnd r held tested stuck

-- exactly so many states were tested, and another would be; no tested state that is safe has all steps between, so that
-- no order was found
pub record IsStateBudgetUsedUp (r : Rollout) (held : List ℕ) (nodes : ℕ) (stuck : Stuck) : Type 0 where
  pub tested : List (List Bool)
  pub are : AreTested r held tested
  pub incomplete : (i : ℕ) → i < length tested → IsSafe r held (is_marked (slice_index_or tested i [])) →
      (k : ℕ) × MayFollow r held (slice_index_or tested i []) k
  pub used_up : length tested ≡ max 1 nodes
  pub another : IsAnotherReached r held tested
  pub came : IsSearchEnd r held tested stuck

-- a safe order; or none is; or the budget was used up, which is less than 2 to the number of steps between
abbrev pub IsOutcome : Rollout → List ℕ → ℕ → Outcome → Type 0
IsOutcome r held nodes (Order order) = IsSafeOrder r held order.items
IsOutcome r held nodes (NoOrder stuck) = HasNoOrder r held nodes stuck
IsOutcome r held nodes (Undecided stuck) = IsStateBudgetUsedUp r held nodes stuck × (nodes < 2 ^ length (steps_between r held))

-- what is found of a rollout: the held paths, and the outcome for them
pub record AreStepsFound (r : Rollout) (nodes : ℕ) (steps : Steps) : Type 0 where
  pub held : AreHeld r steps.held.items
  pub outcome : IsOutcome r steps.held.items nodes steps.outcome
