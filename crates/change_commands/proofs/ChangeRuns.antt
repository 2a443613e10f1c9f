-- What `change` reports of the network that was read.
use Rattle.std.proofs.Common.{◌≡◌, ◌≤◌, refl, sym, subst, List, Result, Ok, Err, IfOk, IfErr}
use Rattle.std.specs.Prelude.{IfSome}
use Rattle.cost_base.specs.Histories.{Taken}
use Rattle.lsdb_build.specs.Graphs.{Database}
use Rattle.design_problem.specs.Problems.{DesignProblem}
use Rattle.design_problem.specs.Answers.{greatest_bound}
use Rattle.request_reader.specs.Asked.{Asked}
use Rattle.wide_fraction.specs.SearchLimits.{SearchLimits}
use Rattle.input_files.specs.declared.network.Network.{Network}
use Rattle.input_files.specs.declared.problem.View.TheVariants.{BesidePresent}
use Rattle.input_files.specs.declared.stop.Stop.{Stop}
use Rattle.input_files.specs.declared.stop.Stop.TheVariants as stops
use Rattle.input_files.specs.Inputs.{InputFiles}
use Rattle.input_files.specs.Readings.{Gave}
use Rattle.input_files.specs.Outcomes.{Input, outcome}
use Rattle.input_files.specs.Networks.{IsNetworkOf}
use Rattle.input_files.specs.Stops.{IsReadAndMade, IsReadAs, StopsAs}
use Rattle.input_files.proofs.Stops.{gave_wanting}
use Rattle.input_files.proofs.ReadyInputs.{IsReadyInput, ready_beside_present}
use Rattle.report_writer.specs.declared.report.Report.{Report}
use Rattle.report_writer.specs.Reports.{bytes_in}
use Rattle.report_writer.proofs.ReportLaws.{may_report}
use Rattle.least_change.specs.declared.change.Change.{Change}
use Rattle.least_change.specs.declared.change.Change.TheVariants.{Fewest, Impossible, Undecided}
use Rattle.least_change.specs.Changes.{IsChangeFound}
use Rattle.change_commands.proofs.ChangesBack.{shown_back}
use Rattle.change_commands.specs.Changes.{AreChangesBack, IsReportIn, MayChange, costs_shown, change_status, change_text, question_of}

-- what was found may be written
found_may : (limits : SearchLimits) (d : Input) (change : Change) → IsReadyInput d → greatest_bound d.problem ≤ 65535 →
    IsChangeFound (question_of limits d) change → MayChange limits d (change_status change) (change_text d.asked d.database d.problem change)
found_may limits d change ready small found = by_change change found (shown_back limits d change ready small found)
  where
    by_change : (one : Change) → IsChangeFound (question_of limits d) one →
        IfSome (costs_shown one) (AreChangesBack d (change_text d.asked d.database d.problem one)) →
        MayChange limits d (change_status one) (change_text d.asked d.database d.problem one)
    by_change (Fewest w evidence) holds back = record { change = Fewest w evidence; found = holds; status = refl; spelled = refl; back = back }
    by_change (Impossible rows tree) holds back = record { change = Impossible rows tree; found = holds; status = refl; spelled = refl; back = back }
    by_change (Undecided w evidence undecided) holds back =
        record { change = Undecided w evidence undecided; found = holds; status = refl; spelled = refl; back = back }

-- what holds of a network's parts holds of those of its input
of_input : (P : Asked → Database → DesignProblem → Type 0) (names : InputFiles) (network : Network) (d : Input) →
    IsNetworkOf BesidePresent names network d → P network.request_file network.lsdb network.problem → P d.asked d.database d.problem
of_input P names network d of holds =
    subst (λ (a : Asked). P a d.database d.problem) of.request_file
    (subst (λ (b : Database). P network.request_file b d.problem) of.lsdb
    (subst (λ (p : DesignProblem). P network.request_file network.lsdb p) of.problem holds))

-- the report of what was found of the network that was read
change_found : (Given : List Taken → Type 0) (limits : SearchLimits) (names : InputFiles) (network : Network) (report : Report) →
    Gave Given (λ came. IsReadAndMade (outcome BesidePresent names) came (IsNetworkOf BesidePresent names) network) →
    IsReportIn limits network.request_file network.lsdb network.problem report →
    Gave Given (λ came. IsReadAndMade (outcome BesidePresent names) came
    (λ (made : Report) d. MayChange limits d made.status (bytes_in made.text)) report)
change_found Given limits names network report read told =
    let d : Input = read.so.said in
    let of_d = of_input (λ a b p. IsReportIn limits a b p report) names network d read.so.fits told in
    record {
      came = read.came;
      given = read.given;
      so = record {
        said = d;
        ends = read.so.ends;
        fits = may_report (MayChange limits d) (change_status of_d.change) (change_text d.asked d.database d.problem of_d.change) report of_d.reports
            (found_may limits d of_d.change (ready_beside_present names d read.came read.so.ends) of_d.bound_small of_d.found);
      };
    }

-- what the report of the network that was read came to
pub change_ended : (Given : List Taken → Type 0) (limits : SearchLimits) (names : InputFiles) (network : Network) (result : Result Report Stop) →
    Gave Given (λ came. IsReadAndMade (outcome BesidePresent names) came (IsNetworkOf BesidePresent names) network) →
    IfOk result (IsReportIn limits network.request_file network.lsdb network.problem) →
    IfErr result (λ stop. stop ≡ stops.OutOfMemory) →
    Gave Given (λ came. IsReadAs (outcome BesidePresent names) came
    (λ (made : Report) d. MayChange limits d made.status (bytes_in made.text)) result)
change_ended Given limits names network (Ok report) read told wanting = change_found Given limits names network report read told
change_ended Given limits names network (Err stop) read told wanting =
    subst (λ (s : Stop). Gave Given (λ came. StopsAs (outcome BesidePresent names) came s)) (sym wanting)
    (gave_wanting Given (outcome BesidePresent names) (IsNetworkOf BesidePresent names) network read)
