use Rattle.std.proofs.Common.{◌∙◌, ◌++◌, ℕ, List, ap, subst}
use Rattle.change_steps.specs.declared.state_search.End.{End}
use Rattle.change_steps.specs.Search.{last_steps, order_behind_first}
use Rattle.change_steps.specs.Walks.{IsWalkEnded}
use Rattle.change_steps.proofs.EndLaws.{budget_used_up, complete_order, no_order_found}
use Rattle.change_steps.proofs.ending.outcome_of.Goals as goal

pub returns-in_ok-order_of-in-Complete : goal.returns-in_ok-order_of-in-Complete
returns-in_ok-order_of-in-Complete c = λ nodes ended.
    complete_order c.args.held_rollout.now c.args.walk.now c.in_ok-order_of-in-Complete.field-0.items c.keeps_conditions.ensures.rollout
    c.keeps_conditions.ensures.held
    (subst (λ (e : End). IsWalkEnded c.args.held_rollout.now nodes c.args.walk.now e) c.in-Complete.is ended)
    (c.in_ok-order_of-in-Complete.ensures ∙ ap (λ (xs : List ℕ). order_behind_first c.args.held_rollout.now xs ++ last_steps c.args.held_rollout.now)
    c.deref.ensures.value)

pub returns-in_ok-stuck_of-in-Exhausted : goal.returns-in_ok-stuck_of-in-Exhausted
returns-in_ok-stuck_of-in-Exhausted c = λ nodes ended.
    let is = subst (λ (e : End). IsWalkEnded c.args.held_rollout.now nodes c.args.walk.now e) c.in-Exhausted.is ended in
    no_order_found c.args.held_rollout.now nodes c.args.walk.now c.in_ok-stuck_of-in-Exhausted.field-0 c.keeps_conditions.ensures.rollout is.0 is.1
    c.in_ok-stuck_of-in-Exhausted.ensures

pub returns-in_ok-stuck_of-in-UsedUp : goal.returns-in_ok-stuck_of-in-UsedUp
returns-in_ok-stuck_of-in-UsedUp c = λ nodes ended.
    let is = subst (λ (e : End). IsWalkEnded c.args.held_rollout.now nodes c.args.walk.now e) c.in-UsedUp.is ended in
    budget_used_up c.args.held_rollout.now nodes c.args.walk.now c.in_ok-stuck_of-in-UsedUp.field-0 is.0 is.1.0 is.1.1 c.in_ok-stuck_of-in-UsedUp.ensures
