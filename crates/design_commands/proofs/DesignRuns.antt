-- What a design reports.
use Rattle.std.proofs.Common.{◌≡◌, sym, subst, List}
use Rattle.cost_base.specs.Histories.{Taken}
use Rattle.design_problem.specs.Problems.{DesignProblem}
use Rattle.design_problem.specs.Answers.{AnswerParts}
use Rattle.design_problem.specs.Text.{text}
use Rattle.wide_fraction.specs.SearchLimits.{SearchLimits}
use Rattle.input_files.specs.declared.problem.View.TheVariants.{AsRequested}
use Rattle.input_files.specs.Inputs.{InputFiles}
use Rattle.input_files.specs.Readings.{Gave}
use Rattle.input_files.specs.Outcomes.{Input, outcome}
use Rattle.input_files.specs.Stops.{IsReadAndMade}
use Rattle.input_files.proofs.Problems.{IsProblemOf}
use Rattle.input_files.proofs.ReadyInputs.{ready_is}
use Rattle.report_writer.specs.declared.report.Report.{Report}
use Rattle.report_writer.specs.Reports.{Reports, bytes_in}
use Rattle.design_commands.specs.AdvisorsAsked.{TellsAnswer}
use Rattle.design_commands.specs.Designs.{IsAnswerTo, verdict_status, MayDesign}
use Rattle.design_commands.proofs.DesignedLaws.{answer_may}
use Rattle.report_writer.proofs.ReportLaws.{may_report}

-- the report of an answer to the problem that was read, and for which the advisors were asked
pub design_found : (Given : List Taken → Type 0) (limits : SearchLimits) (names : InputFiles) (p : DesignProblem)
    (a : AnswerParts) (report : Report) (asks : Input → AnswerParts → Type 0) →
    Gave Given (λ came. IsReadAndMade (outcome AsRequested names) came IsProblemOf p) →
    IsAnswerTo limits p a → Reports (verdict_status a.verdict) (text a) report → ((d : Input) → d.problem ≡ p → asks d a) →
    Gave Given (λ came. IsReadAndMade (outcome AsRequested names) came
    (λ (made : Report) d. MayDesign limits d made.status (bytes_in made.text) × TellsAnswer (asks d) (bytes_in made.text)) report)
design_found Given limits names p a report asks read to r asked =
    let d : Input = read.so.said in
    let to_d : IsAnswerTo limits d.problem a = subst (λ (q : DesignProblem). IsAnswerTo limits q a) (sym read.so.fits.0) to in
    record {
      came = read.came;
      given = read.given;
      so = record {
        said = d;
        ends = read.so.ends;
        fits = (
          may_report (MayDesign limits d) (verdict_status a.verdict) (text a) report r
              (answer_may limits d a (ready_is names d read.came read.so.ends) to_d),
          (a, to.value, r.text, asked d read.so.fits.0),
        );
      };
    }
