use Rattle.std.proofs.Common.{◌∙◌, ap, refl, sym, take_all}
use Rattle.std.specs.List.{list_all}
use Rattle.change_steps.specs.Kinds.{rises, rises_off_held}
use Rattle.change_steps.proofs.MarkedLaws.{not_off, not_risen, risen_more}
use Rattle.change_steps.proofs.kinds.all_rise.Goals as goal
use Rattle.change_steps.proofs.kinds.all_rise.Goals.{then-not-variable_rises-via-then-not-variable_rises, then-not-variable_rises-via-else-not-variable_rises+then-marks-variable}

pub loop-variable-init : goal.loop-variable-init
loop-variable-init c = λ held are. refl

pub variable_rises-requires : goal.variable_rises-requires
variable_rises-requires c = c.requires.known c.loop-variable.variable-index 0 c.loop-variable-test.true

pub returns-then-not-variable_rises : goal.returns-then-not-variable_rises
returns-then-not-variable_rises c = λ held are. elim c.then-not-variable_rises.branch [
  | then-not-variable_rises-via-then-not-variable_rises w ↦
      not_risen c.args.rollout.now held c.args.variables.now c.loop-variable.variable-index c.loop-variable-test.true
      (sym c.variable_rises.ensures ∙ w.if-not-variable_rises.true)
  | then-not-variable_rises-via-else-not-variable_rises+then-marks-variable w ↦
      not_off c.args.rollout.now held c.args.marks.now c.args.variables.now c.loop-variable.variable-index (rises c.args.rollout.now.moves)
      c.loop-variable-test.true
      (c.requires.known c.loop-variable.variable-index 0 c.loop-variable-test.true) are w.if-marks-variable.true
]

pub loop-variable-preserved : goal.loop-variable-preserved
loop-variable-preserved c = λ held are.
    risen_more c.args.rollout.now held c.args.marks.now c.args.variables.now c.loop-variable.variable-index c.loop-variable-test.true
    (c.requires.known c.loop-variable.variable-index 0 c.loop-variable-test.true) are (sym c.variable_rises.ensures ∙ c.if-not-variable_rises.false)
    c.if-marks-variable.false
    (c.loop-variable.invariant held are)

pub returns : goal.returns
returns c = λ held are.
    sym (c.loop-variable.invariant held are) ∙ ap (list_all (rises_off_held c.args.rollout.now held))
    (take_all c.loop-variable.variable-index c.args.variables.now c.loop-variable-test.false)
