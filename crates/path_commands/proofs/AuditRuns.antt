-- What an audit reports.
use Rattle.std.proofs.Common.{refl, sym, subst, List}
use Rattle.cost_base.specs.declared.Status.TheVariants as status
use Rattle.cost_base.specs.Histories.{Taken}
use Rattle.design_problem.specs.Problems.{DesignProblem}
use Rattle.input_files.specs.declared.problem.View.{View}
use Rattle.input_files.specs.Inputs.{InputFiles}
use Rattle.input_files.specs.Readings.{Gave}
use Rattle.input_files.specs.Outcomes.{outcome}
use Rattle.input_files.specs.Stops.{IsReadAndMade}
use Rattle.input_files.proofs.Problems.{IsProblemOf}
use Rattle.report_writer.specs.declared.report.Report.{Report}
use Rattle.report_writer.specs.Reports.{bytes_in}
use Rattle.path_commands.specs.Audits.{MayAudit, ReportsAudit, audit_lines}
use Rattle.report_writer.proofs.ReportLaws.{may_report}

-- the report of an audit of the problem that was read
pub audit_found : (Given : List Taken → Type 0) (view : View) (names : InputFiles) (p : DesignProblem) (report : Report) →
    Gave Given (λ came. IsReadAndMade (outcome view names) came IsProblemOf p) → ReportsAudit report p →
    Gave Given (λ came. IsReadAndMade (outcome view names) came
    (λ (made : Report) d. MayAudit d made.status (bytes_in made.text)) report)
audit_found Given view names p report a r =
    let said = a.so.said in
    let told = subst (ReportsAudit report) (sym a.so.fits.0) r in
    record {
      came = a.came;
      given = a.given;
      so = record {
        said = said;
        ends = a.so.ends;
        fits = may_report (MayAudit said) status.Done (audit_lines 0 told.paths) report told.reports
            (record { paths = told.paths; audited = told.audited; spelled = refl });
      };
    }
