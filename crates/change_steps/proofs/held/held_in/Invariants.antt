use Rattle.spf_ties.specs.Distances.{IsRoomFor}
use Rattle.change_steps.proofs.HeldLaws.{AreHeldBelow}
use Rattle.change_steps.proofs.held.held_in.Given as goal

abbrev pub invariant-loop-number : goal.invariant-loop-number
invariant-loop-number l = record {
  room : IsRoomFor l.rollout.graph l.room;
  held : AreHeldBelow l.rollout l.number l.held.items;
}
