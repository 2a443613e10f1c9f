use Rattle.std.proofs.Common.{refl, length, ◌++◌, ◌∷◌, []}
use Rattle.std.specs.Prelude.{codes}
use Rattle.cost_base.specs.Decimal.{decimal}
use Rattle.change_commands.specs.Steps.{step_lines_from}
use Rattle.change_commands.proofs.StepTexts.{lines_behind, step_more}
use Rattle.change_commands.proofs.step_text.push_steps.Goals as goal

pub loop-number-init : goal.loop-number-init
loop-number-init c =
    lines_behind c.args.text.now.items c.push_count_line.new.text.items ((codes "steps" ++ 32 ∷ decimal (length c.args.order.now)) ∷ [])
    (step_lines_from c.args.of.by c.args.of.names.now c.args.of.moves.now 0 c.args.order.now) c.in_ok-push_count_line.ensures

pub loop-number-preserved : goal.loop-number-preserved
loop-number-preserved c =
    step_more c.args.of.by c.args.of.names.now c.args.of.moves.now c.args.order.now c.loop-number.number _
    c.loop-number.text.items c.push_step.new.text.items _ c.loop-number-test.true refl c.in_ok-push_step.ensures c.loop-number.invariant
