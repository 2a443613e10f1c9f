-- How a walk through the states stands, and how it ends. No public clause cites it.
use Rattle.std.specs.Prelude.{◌≡◌, ℕ, ◌+◌, ◌-◌, ◌*◌, ◌<◌, ◌≤◌, ◌∷◌, max, [], length, Option, None, Some}
use Rattle.spf_ties.specs.Distances.{IsRoomFor}
use Rattle.change_steps.specs.declared.state_search.Walk.{Walk}
use Rattle.change_steps.specs.declared.state_search.End.{End}
use Rattle.change_steps.specs.declared.state_search.End.TheVariants.{Complete, Exhausted, UsedUp}
use Rattle.change_steps.specs.States.{AreAllReached, IsAnotherReached, MayFollow}
use Rattle.change_steps.specs.Search.{AllLack, HeldRollout, IsSearch, IsStateOf, Position, way_state}

-- the position of a walk's search, without the room and the state that its work needs
abbrev pub position_of : Walk → Position
position_of w = record { order = w.order.items; next = w.next; tested = w.tested; greatest = w.greatest.items }

-- what a walk keeps: its state is that of its way
pub record IsSearchWalk (p : HeldRollout) (w : Walk) : Type 0 where
  pub room : IsRoomFor p.rollout.graph w.room
  pub state : IsStateOf p.rollout w.state
  pub here : w.state.done.items ≡ way_state p w.order.items
  pub search : IsSearch p (position_of w)

-- a walk that stands at the state of the first steps, the one that was tested
pub record IsBegun (p : HeldRollout) (w : Walk) : Type 0 where
  pub walk : IsSearchWalk p w
  pub order : w.order.items ≡ []
  pub tested : w.tested ≡ way_state p [] ∷ []

-- a walk of which no tested safe state has all steps between, and whose tested states are within the budget
pub record IsUnderWay (p : HeldRollout) (nodes : ℕ) (w : Walk) : Type 0 where
  pub walk : IsSearchWalk p w
  pub lack : AllLack p w.tested
  pub few : length w.tested ≤ max 1 nodes

-- a walk whose state has all steps between
pub record IsComplete (p : HeldRollout) (w : Walk) : Type 0 where
  pub walk : IsSearchWalk p w
  pub whole : (k : ℕ) → MayFollow p.rollout p.held w.state.done.items k → ⊥

-- what a walk is by how it ended: all steps between are done; or all states that can be reached were tested; or as many
-- as the budget allows were tested, and another can be reached
abbrev pub IsWalkEnded : HeldRollout → ℕ → Walk → End → Type 0
IsWalkEnded p nodes w Complete = IsComplete p w
IsWalkEnded p nodes w Exhausted = IsUnderWay p nodes w × AreAllReached p.rollout p.held w.tested
IsWalkEnded p nodes w UsedUp = IsUnderWay p nodes w × ((length w.tested ≡ max 1 nodes) × IsAnotherReached p.rollout p.held w.tested)

-- how much a walk has left: each state that may still be tested counts for two, one for going there and one for going
-- back
abbrev pub left_of : ℕ → Walk → ℕ
left_of nodes w = 2 * (max 1 nodes - length w.tested) + length w.order.items

-- after a round a walk is under way with less left, or it ended
abbrev pub IsAfterRound : HeldRollout → ℕ → Walk → Walk → Option End → Type 0
IsAfterRound p nodes old new None = IsUnderWay p nodes new × (left_of nodes new < left_of nodes old)
IsAfterRound p nodes old new (Some end) = IsWalkEnded p nodes new end
