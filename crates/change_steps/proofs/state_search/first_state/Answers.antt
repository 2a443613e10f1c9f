use Rattle.std.proofs.Common.{◌≡◌, ◌<◌, ◌∙◌, ℕ, All, List, subst, sym}
use Rattle.std.specs.Prelude.{IfOk}
use Rattle.cost_base.specs.Marks.{is_one_of}
use Rattle.change_steps.specs.declared.state.State.{State}
use Rattle.change_steps.specs.Rollouts.{Rollout, step_count}
use Rattle.change_steps.specs.Kinds.{comes_first, first_steps, kind_of_step}
use Rattle.change_steps.specs.States.{marks_of}
use Rattle.change_steps.specs.Search.{IsStateOf}
use Rattle.change_steps.proofs.OrderLaws.{that_known}
use Rattle.change_steps.proofs.WalkLaws.{firsts_are}
use Rattle.change_steps.proofs.state_search.first_state.Goals as goal
use Rattle.change_steps.proofs.state_search.first_state.Goals.{After-deref}

firsts : (c : After-deref) → c.deref.result.now ≡ first_steps c.args.held_rollout.now.rollout c.args.held_rollout.now.held
firsts c = c.deref.ensures.value
    ∙ firsts_are c.args.held_rollout.now c.new-first.result.items c.put_steps.new.steps.items c.new-first.ensures.items c.in_ok-put_steps.ensures

pub after-requires : goal.after-requires
after-requires c =
    subst (λ (xs : List ℕ). All (λ k. k < step_count c.rollout.result.now) xs) (sym (firsts (goal.at.after-requires c).After-deref))
    (subst (λ (r : Rollout). All (λ k. k < step_count r) (first_steps c.args.held_rollout.now.rollout c.args.held_rollout.now.held)) (sym c.rollout.ensures)
    (that_known c.args.held_rollout.now.rollout (λ k. comes_first (kind_of_step c.args.held_rollout.now.rollout c.args.held_rollout.now.held k))))

pub returns-clause-state : goal.returns-clause-state
returns-clause-state c = subst (λ (r : Rollout). IfOk c.after.result (IsStateOf r)) c.rollout.ensures c.after.ensures.state

pub returns-clause-done : goal.returns-clause-done
returns-clause-done c =
    subst (λ (xs : List ℕ). IfOk c.after.result (λ (s : State). s.done.items ≡ marks_of c.args.held_rollout.now.rollout (is_one_of xs)))
    (firsts (goal.at.returns-clause-done c).After-deref)
    (subst (λ (r : Rollout). IfOk c.after.result (λ (s : State). s.done.items ≡ marks_of r (is_one_of c.deref.result.now))) c.rollout.ensures
    c.after.ensures.done)
