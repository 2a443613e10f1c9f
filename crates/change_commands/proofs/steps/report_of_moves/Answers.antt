-- What was found of the moves is told.
use Rattle.std.proofs.lemmas.Result.{IfOk-weaker}
use Rattle.change_commands.proofs.steps.report_of_moves.Goals as goal

pub returns : goal.returns
returns c =
    IfOk-weaker c.report_of_steps-report.result _ _ (λ report reports. record { steps = c.in_ok-steps.steps; found = c.in_ok-steps.ensures; reports = reports })
    c.report_of_steps-report.ensures
