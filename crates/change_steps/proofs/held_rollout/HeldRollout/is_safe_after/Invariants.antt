use Rattle.std.proofs.Common.{All, take}
use Rattle.cost_base.specs.Marks.{is_marked}
use Rattle.spf_ties.specs.Distances.{IsRoomFor}
use Rattle.change_steps.specs.Orders.{IsOnlyIn}
use Rattle.change_steps.proofs.held_rollout.HeldRollout.is_safe_after.Given as goal

abbrev pub invariant-loop-number : goal.invariant-loop-number
invariant-loop-number l = record {
  room : IsRoomFor l.self.rollout.graph l.room;
  safe : All (IsOnlyIn l.self.rollout (is_marked l.state.done.items)) (take l.number-index l.number-items);
}
