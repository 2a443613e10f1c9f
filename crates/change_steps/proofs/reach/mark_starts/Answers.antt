use Rattle.std.proofs.Common.{◌∙◌, Bool, Global, Vec, ap, length, length-set, refl, true}
use Rattle.change_steps.proofs.reach.mark_starts.Goals as goal
use Rattle.change_steps.proofs.reach.mark_starts.Goals.{in-Some, in_default}

pub loop-number-init : goal.loop-number-init
loop-number-init c = refl

pub loop-number-preserved : goal.loop-number-preserved
loop-number-preserved c = elim c.match-get.branch [
  | in-Some w ↦ ap (λ (v : Vec Bool Global). length v.items) w.marks-is ∙ ap length w.mark_within.ensures ∙ length-set c.loop-number.marks.items _ true ∙
      c.loop-number.invariant
  | in_default w ↦ ap (λ (v : Vec Bool Global). length v.items) w.marks-is ∙ c.loop-number.invariant
]

pub returns : goal.returns
returns c = c.loop-number.invariant
