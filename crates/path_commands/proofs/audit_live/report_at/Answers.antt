-- The problem was read, and what was found of it is told.
use Rattle.std.proofs.Common.{subst}
use Rattle.std.proofs.lemmas.Result.{err_from_is_err_and}
use Rattle.path_commands.specs.LiveAudits.{ReportsLive}
use Rattle.path_commands.proofs.audit_live.report_at.Goals as goal

pub returns-in_err-problem : goal.returns-in_err-problem
returns-in_err-problem c =
    let p = err_from_is_err_and c.from_residual.result c.from_residual.ensures.1 in
    rw (p.1, p.2) c.in_err-problem.ensures.read

pub returns : goal.returns
returns c =
    let read = c.in_ok-problem.ensures.read in
    let area = c.args.running.now in
    record {
      said = read.said;
      ends = read.ends;
      fits = subst (ReportsLive area.lsdb area.missing.items c.in_ok-report.field-0) read.fits c.in_ok-report.ensures;
    }
