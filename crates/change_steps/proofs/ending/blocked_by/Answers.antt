use Rattle.std.proofs.Common.{◌∙◌, List, Bool, ap, false, refl, set, subst}
use Rattle.change_steps.specs.Outcomes.{IsBarrier}
use Rattle.change_steps.proofs.WalkLaws.{toggled}
use Rattle.change_steps.proofs.ending.blocked_by.Goals as goal

pub returns-clause-done : goal.returns-clause-done
returns-clause-done c =
    c.undo_step.ensures.undone ∙ ap (λ (m : List Bool). set m c.args.step false) c.do_step.ensures.done
    ∙ toggled c.args.state.now.done.items c.args.step c.requires.follows.left

pub returns-clause-blocked : goal.returns-clause-blocked
returns-clause-blocked c = record {
  step_is = refl;
  barrier = subst (λ (m : List Bool). IsBarrier c.args.held_rollout.now.rollout c.args.held_rollout.now.held c.args.tested.now m c.barrier_of-by.result)
      c.do_step.ensures.done c.barrier_of-by.ensures.barrier;
}
