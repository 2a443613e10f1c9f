use Rattle.std.proofs.Common.{arith, refl, subst, sym}
use Rattle.change_steps.specs.Search.{IsExplored, Position, way_state}
use Rattle.change_steps.specs.Walks.{position_of}
use Rattle.change_steps.proofs.SearchLaws.{top_explored}
use Rattle.change_steps.proofs.WalkLaws.{explored_less, walk_moves, walk_same}
use Rattle.change_steps.proofs.state_search.Walk.find_next.Goals as goal

pub loop-step-init : goal.loop-step-init
loop-step-init c = record {
  walk = c.requires.walk;
  order = refl;
  tested = refl;
  explored = top_explored c.args.held_rollout.now (position_of c.args.self.now) c.requires.walk.search;
}

pub returns-then-may_try-clause-walk : goal.returns-then-may_try-clause-walk
returns-then-may_try-clause-walk c =
    walk_moves c.args.held_rollout.now c.may_try.new.self c.loop-step.step
    (walk_same c.args.held_rollout.now c.loop-step.self c.may_try.new.self c.loop-step.invariant.walk c.may_try.ensures.state c.may_try.ensures.done
    c.may_try.ensures.position c.may_try.ensures.room)
    (subst (λ (s : Position). IsExplored c.args.held_rollout.now s.tested (way_state c.args.held_rollout.now s.order) c.loop-step.step)
    (sym c.may_try.ensures.position)
    c.loop-step.invariant.explored)

pub returns-clause-walk : goal.returns-clause-walk
returns-clause-walk c =
    walk_moves c.args.held_rollout.now c.loop-step.self _ c.loop-step.invariant.walk
    (explored_less c.args.held_rollout.now c.loop-step.self.tested (way_state c.args.held_rollout.now c.loop-step.self.order.items) _ c.loop-step.step
    c.loop-step.invariant.explored (let past = c.loop-step-test.false in let first = c.step_count-step-end.ensures in let again = c.step_count-self.ensures in
    omega (arith, past, first, again)))
