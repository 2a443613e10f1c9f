use Rattle.std.proofs.Common.{◌∙◌, ap, refl, sym, take_all}
use Rattle.std.specs.Prelude.{not}
use Rattle.std.specs.List.{list_all}
use Rattle.change_steps.specs.Kinds.{falls_off_held, rises}
use Rattle.change_steps.proofs.MarkedLaws.{fallen_more, not_fallen, not_off}
use Rattle.change_steps.proofs.kinds.all_fall.Goals as goal
use Rattle.change_steps.proofs.kinds.all_fall.Goals.{then-variable_rises-via-then-variable_rises, then-variable_rises-via-else-variable_rises+then-marks-variable}

pub loop-variable-init : goal.loop-variable-init
loop-variable-init c = λ held are. refl

pub variable_rises-requires : goal.variable_rises-requires
variable_rises-requires c = c.requires.known c.loop-variable.variable-index 0 c.loop-variable-test.true

pub returns-then-variable_rises : goal.returns-then-variable_rises
returns-then-variable_rises c = λ held are. elim c.then-variable_rises.branch [
  | then-variable_rises-via-then-variable_rises w ↦
      not_fallen c.args.rollout.now held c.args.variables.now c.loop-variable.variable-index c.loop-variable-test.true
      (sym c.variable_rises.ensures ∙ w.if-variable_rises.true)
  | then-variable_rises-via-else-variable_rises+then-marks-variable w ↦
      not_off c.args.rollout.now held c.args.marks.now c.args.variables.now c.loop-variable.variable-index (λ v. not (rises c.args.rollout.now.moves v))
      c.loop-variable-test.true
      (c.requires.known c.loop-variable.variable-index 0 c.loop-variable-test.true) are w.if-marks-variable.true
]

pub loop-variable-preserved : goal.loop-variable-preserved
loop-variable-preserved c = λ held are.
    fallen_more c.args.rollout.now held c.args.marks.now c.args.variables.now c.loop-variable.variable-index c.loop-variable-test.true
    (c.requires.known c.loop-variable.variable-index 0 c.loop-variable-test.true) are (sym c.variable_rises.ensures ∙ c.if-variable_rises.false)
    c.if-marks-variable.false
    (c.loop-variable.invariant held are)

pub returns : goal.returns
returns c = λ held are.
    sym (c.loop-variable.invariant held are) ∙ ap (list_all (falls_off_held c.args.rollout.now held))
    (take_all c.loop-variable.variable-index c.args.variables.now c.loop-variable-test.false)
