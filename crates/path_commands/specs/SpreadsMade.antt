-- What `spread` makes of the problem and the sets that were read. No public clause cites it.
use Rattle.std.specs.Prelude.{◌≡◌, ℕ, ◌≤◌, List}
use Rattle.cost_base.specs.Histories.{Taken}
use Rattle.wide_fraction.specs.SearchLimits.{SearchLimits}
use Rattle.design_problem.specs.Answers.{greatest_bound}
use Rattle.design_problem.specs.Problems.{DesignProblem}
use Rattle.input_files.specs.declared.problem.View.TheVariants.{AsRequested}
use Rattle.input_files.specs.Inputs.{InputFiles}
use Rattle.input_files.specs.Outcomes.{Input, outcome}
use Rattle.input_files.specs.Readings.{EndsAs, Says}
use Rattle.report_writer.specs.declared.report.Report.{Report}
use Rattle.report_writer.specs.Reports.{Reports}
use Rattle.spread_sets.specs.declared.spread.Spread.{Spread}
use Rattle.spread_sets.specs.Answers.{IsSpreadFound}
use Rattle.path_commands.specs.Spreads.{spread_status, spread_text}

-- the problem is that of an input that files of these names say
pub record IsProblemAsked (names : InputFiles) (p : DesignProblem) (d : Input) : Type 0 where
  pub came : List Taken
  pub ends : EndsAs (outcome AsRequested names) came (Says d)
  pub same : d.problem ≡ p

-- the report is of what was found of sets of the problem's wanted paths
pub record ReportsSpread (limits : SearchLimits) (p : DesignProblem) (sets : List (List ℕ)) (report : Report) : Type 0 where
  pub spread : Spread
  pub found : IsSpreadFound p sets limits.top limits.nodes spread
  pub reports : Reports (spread_status spread) (spread_text p spread) report
  pub bound_small : greatest_bound p ≤ 65535
