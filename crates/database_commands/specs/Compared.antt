-- The report of a comparison. No public clause cites it.
use Rattle.std.specs.Prelude.{ℕ, List, if◌then◌else◌}
use Rattle.cost_base.specs.declared.Status.{Status}
use Rattle.cost_base.specs.declared.Status.TheVariants.{Done, Impossible}
use Rattle.lsdb_build.specs.Graphs.{Database}
use Rattle.input_files.specs.Readings.{Reading, Ready, ◌>>=◌}
use Rattle.input_files.specs.Outcomes.{Input}
use Rattle.live_input.specs.LiveReadings.{live_read}
use Rattle.report_writer.specs.declared.report.Report.{Report}
use Rattle.report_writer.specs.Reports.{Reports}
use Rattle.live_area.specs.declared.Difference.{Difference}
use Rattle.database_commands.specs.Compares.{Comparison, are_alike, difference_text}

-- 0 where there is no difference, else 1
abbrev pub status_of_lines : List Difference → Status
status_of_lines lines = if are_alike lines then Done else Impossible

-- the report has these lines, and the status that they make
abbrev pub ReportsLines : Database → List Difference → Report → Type 0
ReportsLines d lines report = Reports (status_of_lines lines) (difference_text d lines) report

-- what a live file says behind the files of a network
abbrev pub live_then : List ℕ → Input → Reading Comparison
live_then live d = live_read live d.asked.area >>= λ lsas. Ready (record { input = d; live = lsas })
