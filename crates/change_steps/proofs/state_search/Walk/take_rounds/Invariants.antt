use Rattle.change_steps.specs.Walks.{IsUnderWay, left_of}
use Rattle.change_steps.proofs.state_search.Walk.take_rounds.Given as goal

abbrev pub invariant-loop-end : goal.invariant-loop-end
invariant-loop-end l = IsUnderWay l.held_rollout l.nodes l.self

abbrev pub decreases-loop-end : goal.decreases-loop-end
decreases-loop-end l = left_of l.nodes l.self
