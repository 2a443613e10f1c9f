use Rattle.std.proofs.Common.{◌∙◌, ap, sym}
use Rattle.std.specs.List.{list_all}
use Rattle.change_steps.specs.Kinds.{falls_off_held, rises_off_held}
use Rattle.change_steps.proofs.KindLaws.{between_kind, first_kind, last_kind}
use Rattle.change_steps.proofs.kinds.kind_of.Goals as goal

pub returns-then-all_rise : goal.returns-then-all_rise
returns-then-all_rise c = λ held are.
    first_kind c.args.rollout.now held c.args.step
    (ap (list_all (rises_off_held c.args.rollout.now held)) (sym c.variables-variables.ensures) ∙ sym (c.all_rise.ensures held are) ∙ c.if-all_rise.true)

pub returns-then-all_fall : goal.returns-then-all_fall
returns-then-all_fall c = λ held are.
    last_kind c.args.rollout.now held c.args.step
    (ap (list_all (rises_off_held c.args.rollout.now held)) (sym c.variables-variables.ensures) ∙ sym (c.all_rise.ensures held are) ∙ c.if-all_rise.false)
    (ap (list_all (falls_off_held c.args.rollout.now held)) (sym c.variables-variables.ensures) ∙ sym (c.all_fall.ensures held are) ∙ c.if-all_fall.true)

pub returns-else-all_fall : goal.returns-else-all_fall
returns-else-all_fall c = λ held are.
    between_kind c.args.rollout.now held c.args.step
    (ap (list_all (rises_off_held c.args.rollout.now held)) (sym c.variables-variables.ensures) ∙ sym (c.all_rise.ensures held are) ∙ c.if-all_rise.false)
    (ap (list_all (falls_off_held c.args.rollout.now held)) (sym c.variables-variables.ensures) ∙ sym (c.all_fall.ensures held are) ∙ c.if-all_fall.false)
