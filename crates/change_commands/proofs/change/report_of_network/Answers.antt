-- The present costs of the variables, and the report of their changes.
use Rattle.std.proofs.Common.{◌∙◌, refl}
use Rattle.std.proofs.lemmas.Result.{err_from_is_err_and}
use Rattle.change_commands.proofs.change.report_of_network.Goals as goal

pub returns-in_err-costs-clause-wanting : goal.returns-in_err-costs-clause-wanting
returns-in_err-costs-clause-wanting c =
    let e = err_from_is_err_and c.from_residual.result c.from_residual.ensures.1 in
    rw (e.1, e.2) refl

pub report_of_present-requires-clause-present : goal.report_of_present-requires-clause-present
report_of_present-requires-clause-present c = c.as_slice.ensures.value ∙ c.in_ok-costs.ensures

pub returns-in_err-report_of_present-clause-wanting : goal.returns-in_err-report_of_present-clause-wanting
returns-in_err-report_of_present-clause-wanting c =
    let e = err_from_is_err_and c.from_residual-in_err-report_of_present.result c.from_residual-in_err-report_of_present.ensures.1 in
    rw (e.1, e.2) refl

pub returns-clause-made : goal.returns-clause-made
returns-clause-made c = c.in_ok-report_of_present.ensures
