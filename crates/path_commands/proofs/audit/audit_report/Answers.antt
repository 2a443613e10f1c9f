-- The paths of the problem that was read were audited.
use Rattle.input_files.specs.declared.problem.View.TheVariants.{AtPresent}
use Rattle.std.proofs.lemmas.Result.{err_from_is_err_and}
use Rattle.input_files.specs.Stops.{files_named}
use Rattle.input_files.proofs.Stops.{gave_wanting}
use Rattle.path_commands.proofs.AuditRuns.{audit_found}
use Rattle.path_commands.proofs.audit.audit_report.Goals as goal

pub returns-in_err-report : goal.returns-in_err-report
returns-in_err-report g c =
    let p = err_from_is_err_and c.from_residual-in_err-report.result c.from_residual-in_err-report.ensures.1 in
    rw (p.1, p.2) (gave_wanting _ _ _ _ c.in_ok-problem.ensures.read)

pub returns : goal.returns
returns g c =
    audit_found (g.S.Shelf.gave c.args.shelf.now c.read_problem.new.shelf) AtPresent (files_named c.args.words)
    c.in_ok-problem.problem c.in_ok-report.field-0 c.in_ok-problem.ensures.read c.in_ok-report.ensures
