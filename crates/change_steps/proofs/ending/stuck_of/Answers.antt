use Rattle.std.proofs.Common.{◌≡◌, ◌∙◌, ℕ, List, ap}
use Rattle.cost_base.specs.Marks.{is_one_of}
use Rattle.change_steps.specs.Rollouts.{Rollout}
use Rattle.change_steps.specs.States.{marks_of}
use Rattle.change_steps.specs.Search.{order_behind_first}
use Rattle.change_steps.specs.Walks.{position_of}
use Rattle.change_steps.proofs.EndLaws.{greatest_blocks, search_end}
use Rattle.change_steps.proofs.ending.stuck_of.Goals as goal
use Rattle.change_steps.proofs.ending.stuck_of.Goals.{In_ok-state}

done_is : (c : In_ok-state) → c.in_ok-done.done.items ≡ order_behind_first c.args.held_rollout.now c.args.walk.now.greatest.items
done_is c = c.in_ok-done.ensures ∙ ap (order_behind_first c.args.held_rollout.now) c.deref.ensures.value

marks_are : (c : In_ok-state) → c.in_ok-state.state.done.items ≡ marks_of c.args.held_rollout.now.rollout (is_one_of c.in_ok-done.done.items)
marks_are c = c.in_ok-state.ensures.done ∙ ap (λ (r : Rollout). marks_of r (is_one_of c.deref-2.result.now)) c.rollout.ensures
    ∙ ap (λ (xs : List ℕ). marks_of c.args.held_rollout.now.rollout (is_one_of xs)) c.deref-2.ensures.value

pub blocked_in-requires-clause-greatest : goal.blocked_in-requires-clause-greatest
blocked_in-requires-clause-greatest c =
    let here = (goal.at.blocked_in-requires-clause-greatest c).In_ok-state in
    greatest_blocks c.args.held_rollout.now (position_of c.args.walk.now) c.in_ok-state.state.done.items c.requires.search
    (marks_are here ∙ ap (λ (xs : List ℕ). marks_of c.args.held_rollout.now.rollout (is_one_of xs)) (done_is here))

pub returns : goal.returns
returns c =
    let here = (goal.at.returns c).In_ok-state in
    search_end c.args.held_rollout.now (position_of c.args.walk.now) c.in_ok-state.state.done.items _ c.requires.search (done_is here) (marks_are here)
    c.in_ok-blocked.ensures.blocked
