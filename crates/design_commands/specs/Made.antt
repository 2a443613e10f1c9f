-- What is made of a problem by the answer to it. No public clause cites it.
use Rattle.std.specs.Prelude.{◌≡◌, ℕ, Result, Ok, Err}
use Rattle.cost_base.specs.declared.OutOfMemory.{OutOfMemory}
use Rattle.design_problem.specs.Problems.{DesignProblem}
use Rattle.design_problem.specs.Answers.{AnswerParts}
use Rattle.design_problem.specs.Text.{text}
use Rattle.wide_fraction.specs.SearchLimits.{SearchLimits}
use Rattle.input_files.specs.declared.stop.Stop.{Stop}
use Rattle.input_files.specs.declared.stop.Stop.TheVariants as stops
use Rattle.report_writer.specs.declared.report.Report.{Report}
use Rattle.input_files.specs.Outcomes.{Input}
use Rattle.report_writer.specs.Reports.{Reports, bytes_in}
use Rattle.design_commands.specs.Designs.{IsAnswerTo, verdict_status}
use Rattle.design_commands.specs.Trials.{MayTry, trial_text}

-- a report that is made like this of an answer to a problem, for which the advisors were asked as `Asks` tells
pub record ReportsAnswer (limits : SearchLimits) (p : DesignProblem) (Asks : AnswerParts → Type 0)
    (MadeOf : AnswerParts → Report → Type 0) (report : Report) : Type 0 where
  pub answer : AnswerParts
  pub to : IsAnswerTo limits p answer
  pub asked : Asks answer
  pub made : MadeOf answer report

-- the report of a design
abbrev pub ReportsDesign : AnswerParts → Report → Type 0
ReportsDesign a report = Reports (verdict_status a.verdict) (text a) report

-- the report of a trial, for whichever input with the problem
abbrev pub ReportsTrial : ℕ → ℕ → DesignProblem → AnswerParts → Report → Type 0
ReportsTrial blocks start p a report =
    ((d : Input) → d.problem ≡ p → MayTry blocks start d report.status (bytes_in report.text))
    × (bytes_in report.text ≡ trial_text blocks start p a a.verdict)

-- what was made, or the stop of want of memory
abbrev pub or_stop : Result Report OutOfMemory → Result Report Stop
or_stop (Ok report) = Ok report
or_stop (Err e) = Err stops.OutOfMemory
