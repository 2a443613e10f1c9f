-- The files were read, and then memory was wanting for the line.
use Rattle.std.proofs.lemmas.Result.{err_from_is_err_and}
use Rattle.input_files.proofs.Stops.{gave_wanting}
use Rattle.evidence_commands.proofs.check.check_report.Goals as goal

pub returns-in_err-report_of_judgement : goal.returns-in_err-report_of_judgement
returns-in_err-report_of_judgement g c =
    let p = err_from_is_err_and c.from_residual-in_err-report_of_judgement.result c.from_residual-in_err-report_of_judgement.ensures.1 in
    rw (p.1, p.2) (gave_wanting _ _ _ _ c.in_ok-judgement.ensures)
