use Rattle.std.proofs.Common.{◌≡◌, ℕ, List, take, true}
use Rattle.std.specs.List.{list_all}
use Rattle.change_steps.specs.Kinds.{rises_off_held}
use Rattle.change_steps.specs.Search.{AreHeldMarks}
use Rattle.change_steps.proofs.kinds.all_rise.Given as goal

abbrev pub invariant-loop-variable : goal.invariant-loop-variable
invariant-loop-variable l = (held : List ℕ) → AreHeldMarks l.rollout held l.marks →
    list_all (rises_off_held l.rollout held) (take l.variable-index l.variables) ≡ true
