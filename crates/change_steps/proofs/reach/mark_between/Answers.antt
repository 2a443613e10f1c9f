use Rattle.std.proofs.Common.{◌∙◌, refl}
use Rattle.change_steps.proofs.reach.mark_between.Goals as goal

pub loop-step-init : goal.loop-step-init
loop-step-init c = refl

pub loop-step-preserved : goal.loop-step-preserved
loop-step-preserved c = c.mark_step-has_between.ensures ∙ c.loop-step.invariant

pub returns : goal.returns
returns c = c.loop-step.invariant
