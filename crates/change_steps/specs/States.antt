-- The states that a search tested.
use Rattle.std.specs.Prelude.{◌≡◌, ◌≢◌, ℕ, ◌<◌, Bool, true, false, List, [], length, map, take, slice_index_or, slice_set, Contains}
use Rattle.cost_base.specs.Lists.{numbers_from}
use Rattle.cost_base.specs.Marks.{is_marked}
use Rattle.change_steps.specs.declared.kinds.Kind.TheVariants.{Between}
use Rattle.change_steps.specs.Rollouts.{Rollout, step_count}
use Rattle.change_steps.specs.Orders.{IsSafe}
use Rattle.change_steps.specs.Kinds.{comes_first, kind_of_step}

-- the marks of a state, one for each step, that of a step set where it is done
abbrev pub marks_of : Rollout → (ℕ → Bool) → List Bool
marks_of r done = map done (numbers_from 0 (step_count r))

-- the state of the first steps alone
abbrev pub first_state : Rollout → List ℕ → List Bool
first_state r held = marks_of r (λ k. comes_first (kind_of_step r held k))

-- a step between that isn't done yet
pub record MayFollow (r : Rollout) (held : List ℕ) (marks : List Bool) (k : ℕ) : Type 0 where
  pub known : k < step_count r
  pub between : kind_of_step r held k ≡ Between
  pub left : is_marked marks k ≡ false

-- one of the tested states is safe, and with one step between more it is this one
pub record IsReached (r : Rollout) (held : List ℕ) (tested : List (List Bool)) (marks : List Bool) : Type 0 where
  pub from : ℕ
  pub within : from < length tested
  pub safe : IsSafe r held (is_marked (slice_index_or tested from []))
  pub step : ℕ
  pub follows : MayFollow r held (slice_index_or tested from []) step
  pub same : marks ≡ slice_set (slice_index_or tested from []) step true

-- states in the order of their tests: first that of the first steps alone, then others, each reached from earlier ones,
-- and none twice. So each has all first steps and none of the last ones.
pub record AreTested (r : Rollout) (held : List ℕ) (tested : List (List Bool)) : Type 0 where
  pub some : 0 < length tested
  pub begin : slice_index_or tested 0 [] ≡ first_state r held
  pub reached : (i : ℕ) → 0 < i → i < length tested → IsReached r held (take i tested) (slice_index_or tested i [])
  pub once : (i j : ℕ) → i < j → j < length tested → slice_index_or tested i [] ≢ slice_index_or tested j []

-- each state that can be reached from the tested ones is among them
abbrev pub AreAllReached : Rollout → List ℕ → List (List Bool) → Type 0
AreAllReached r held tested = (marks : List Bool) → IsReached r held tested marks → Contains tested marks

-- a state that can be reached from the tested ones isn't among them
pub record IsAnotherReached (r : Rollout) (held : List ℕ) (tested : List (List Bool)) : Type 0 where
  pub marks : List Bool
  pub reached : IsReached r held tested marks
  pub new : Contains tested marks → ⊥
