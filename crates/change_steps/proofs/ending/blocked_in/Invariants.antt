use Rattle.std.proofs.Common.{◌≡◌, ◌&&◌, All, map, filter}
use Rattle.std.specs.Prelude.{not, slice_set, true}
use Rattle.cost_base.specs.Lists.{numbers_from}
use Rattle.cost_base.specs.Marks.{is_marked}
use Rattle.spf_ties.specs.Distances.{IsRoomFor}
use Rattle.change_steps.specs.Kinds.{comes_between, kind_of_step}
use Rattle.change_steps.specs.Outcomes.{IsBarrier}
use Rattle.change_steps.specs.Search.{IsStateOf}
use Rattle.change_steps.proofs.ending.blocked_in.Given as goal

abbrev pub invariant-loop-step : goal.invariant-loop-step
invariant-loop-step l = record {
  room : IsRoomFor l.held_rollout.rollout.graph l.room;
  state : IsStateOf l.held_rollout.rollout l.state;
  done : l.state.done.items ≡ l.fn.state.done.items;
  steps : map (λ b. b.step) l.blocked.items ≡
      filter (λ k. comes_between (kind_of_step l.held_rollout.rollout l.held_rollout.held k) && not (is_marked l.fn.state.done.items k))
      (numbers_from 0 l.step);
  each : All (λ b. IsBarrier l.held_rollout.rollout l.held_rollout.held l.tested (slice_set l.fn.state.done.items b.step true) b.by) l.blocked.items;
}
