use Rattle.std.proofs.Common.{◌∙◌, ◌++◌, ◌∷◌, [], List, Bool, ap, false, refl, set, subst, sym}
use Rattle.std.specs.Prelude.{◌↔◌, Contains, IsTrue}
use Rattle.std.proofs.lemmas.Bool.{both_ways}
use Rattle.cost_base.specs.Marks.{is_marked}
use Rattle.spf_ties.specs.Distances.{Findings, IsRoomFor}
use Rattle.change_steps.specs.declared.state.State.{State}
use Rattle.change_steps.specs.Rollouts.{Rollout}
use Rattle.change_steps.specs.Orders.{IsSafe}
use Rattle.change_steps.specs.Search.{IsStateOf}
use Rattle.change_steps.proofs.WalkLaws.{before_safe, walk_enters, walk_fails}
use Rattle.change_steps.proofs.state_search.Walk.test.Goals as goal

pub add-requires : goal.add-requires
add-requires c = λ has.
    c.requires.new.new (subst (λ (m : List Bool). Contains c.args.self.now.tested m) (c.deref.ensures.value ∙ c.do_step.ensures.done) has)

pub is_safe_after-safe-requires-clause-before : goal.is_safe_after-safe-requires-clause-before
is_safe_after-safe-requires-clause-before c =
    before_safe c.args.held_rollout.now c.args.self.now c.args.step c.do_step.new.self.done.items c.requires.walk c.requires.new c.do_step.ensures.done

pub returns-in_ok-go_on-clause-walk : goal.returns-in_ok-go_on-clause-walk
returns-in_ok-go_on-clause-walk c =
    walk_enters c.args.held_rollout.now c.args.self.now c.go_on.new.self c.args.step c.requires.walk c.requires.next c.requires.new
    (subst (λ (m : List Bool). IsSafe c.args.held_rollout.now.rollout c.args.held_rollout.now.held (is_marked m)) c.do_step.ensures.done
    (c.is_safe_after-safe.ensures.safe.0 c.if-safe.true))
    (subst (λ (f : Findings). IsRoomFor c.args.held_rollout.now.rollout.graph f) (sym c.in_ok-go_on.ensures.room) c.is_safe_after-safe.ensures.room)
    (subst (λ (s : State). IsStateOf c.args.held_rollout.now.rollout s) (sym c.in_ok-go_on.ensures.state)
    (subst (λ (r : Rollout). IsStateOf r c.do_step.new.self) c.rollout.ensures c.do_step.ensures.state))
    (ap (λ (s : State). s.done.items) c.in_ok-go_on.ensures.state ∙ c.do_step.ensures.done) c.in_ok-go_on.ensures.order c.in_ok-go_on.ensures.next
    (c.in_ok-go_on.ensures.tested ∙ c.in_ok-add.ensures.added
    ∙ ap (λ (m : List Bool). c.args.self.now.tested ++ m ∷ []) (c.deref.ensures.value ∙ c.do_step.ensures.done)) c.in_ok-go_on.ensures.greatest

pub returns-in_ok-go_on-clause-safe : goal.returns-in_ok-go_on-clause-safe
returns-in_ok-go_on-clause-safe c =
    subst (λ (m : List Bool). IsTrue c.is_safe_after-safe.result ↔ IsSafe c.args.held_rollout.now.rollout c.args.held_rollout.now.held (is_marked m))
    c.do_step.ensures.done
    c.is_safe_after-safe.ensures.safe

pub returns-else-safe-clause-walk : goal.returns-else-safe-clause-walk
returns-else-safe-clause-walk c =
    walk_fails c.args.held_rollout.now c.args.self.now _ c.args.step c.requires.walk c.requires.next c.requires.new
    (λ safe. both_ways c.is_safe_after-safe.result c.if-safe.false (c.is_safe_after-safe.ensures.safe.1
    (subst (λ (m : List Bool). IsSafe c.args.held_rollout.now.rollout c.args.held_rollout.now.held (is_marked m)) (sym c.do_step.ensures.done) safe)))
    c.is_safe_after-safe.ensures.room
    (subst (λ (r : Rollout). IsStateOf r c.undo_step.new.self) c.rollout-else-safe.ensures c.undo_step.ensures.state)
    (c.undo_step.ensures.undone ∙ ap (λ (m : List Bool). set m c.args.step false) c.do_step.ensures.done) refl refl
    (c.in_ok-add.ensures.added ∙ ap (λ (m : List Bool). c.args.self.now.tested ++ m ∷ []) (c.deref.ensures.value ∙ c.do_step.ensures.done)) refl

pub returns-else-safe-clause-safe : goal.returns-else-safe-clause-safe
returns-else-safe-clause-safe c =
    subst (λ (m : List Bool). IsTrue c.is_safe_after-safe.result ↔ IsSafe c.args.held_rollout.now.rollout c.args.held_rollout.now.held (is_marked m))
    c.do_step.ensures.done
    c.is_safe_after-safe.ensures.safe
