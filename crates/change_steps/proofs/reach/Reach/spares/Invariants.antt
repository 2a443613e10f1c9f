use Rattle.std.proofs.Common.{All, take}
use Rattle.cost_base.specs.Marks.{is_marked}
use Rattle.change_steps.specs.Reaches.{IsHarmless}
use Rattle.change_steps.proofs.reach.Reach.spares.Given as goal

abbrev pub invariant-loop-edge : goal.invariant-loop-edge
invariant-loop-edge l = All (IsHarmless l.rollout (is_marked l.state.done.items) l.number) (take l.edge-index l.edge-items)
