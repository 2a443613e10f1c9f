use Rattle.std.proofs.Common.{◌∙◌, ap, length, length-set, refl, true}
use Rattle.change_steps.proofs.reach.mark_ends.Goals as goal

pub loop-number-init : goal.loop-number-init
loop-number-init c = refl

pub request-requires : goal.request-requires
request-requires c = c.requires c.loop-number.number-index 0 c.loop-number-test.true

pub loop-number-preserved : goal.loop-number-preserved
loop-number-preserved c = ap length c.mark_within.ensures ∙ length-set c.loop-number.marks.items _ true ∙ c.loop-number.invariant

pub returns : goal.returns
returns c = c.loop-number.invariant
