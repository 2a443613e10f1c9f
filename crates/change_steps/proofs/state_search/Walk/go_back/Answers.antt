use Rattle.std.proofs.Common.{◌<◌, ◌∙◌, ◌++◌, ℕ, Option, ap, arith, refl, subst, sym}
use Rattle.std.specs.Prelude.{option_to_list}
use Rattle.change_steps.specs.Rollouts.{Rollout, step_count}
use Rattle.change_steps.specs.Search.{IsStateOf}
use Rattle.change_steps.proofs.WalkLaws.{popped_known, walk_backs}
use Rattle.change_steps.proofs.state_search.Walk.go_back.Goals as goal

pub undo_step-requires-clause-step : goal.undo_step-requires-clause-step
undo_step-requires-clause-step c =
    subst (λ (r : Rollout). c.in-Some.step < step_count r) (sym c.rollout.ensures)
    (popped_known c.args.held_rollout.now c.args.self.now c.pop.new.self.items c.in-Some.step c.requires.walk
    (c.pop.ensures.items ∙ ap (λ (o : Option ℕ). c.pop.new.self.items ++ option_to_list o) c.in-Some.is))

pub overflow_add-self : goal.overflow_add-self
overflow_add-self c =
    let known = popped_known c.args.held_rollout.now c.args.self.now c.pop.new.self.items c.in-Some.step c.requires.walk
    (c.pop.ensures.items ∙ ap (λ (o : Option ℕ). c.pop.new.self.items ++ option_to_list o) c.in-Some.is) in
    let few = c.step_count-few.ensures in
    let fits = c.step_count-few.type_inv in
    omega (arith, known, few, fits)

pub returns-in-Some-clause-walk : goal.returns-in-Some-clause-walk
returns-in-Some-clause-walk c =
    walk_backs c.args.held_rollout.now c.args.self.now _ c.in-Some.step c.requires.walk c.requires.next
    (c.pop.ensures.items ∙ ap (λ (o : Option ℕ). c.pop.new.self.items ++ option_to_list o) c.in-Some.is)
    (subst (λ (r : Rollout). IsStateOf r c.undo_step.new.self) c.rollout.ensures c.undo_step.ensures.state) c.undo_step.ensures.undone refl refl refl
    c.requires.walk.room
