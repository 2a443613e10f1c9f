-- What `conflict` reports of the problem that was read.
use Rattle.std.proofs.Common.{◌≡◌, refl, sym, subst, List}
use Rattle.cost_base.specs.Histories.{Taken}
use Rattle.design_problem.specs.Problems.{DesignProblem}
use Rattle.wide_fraction.specs.SearchLimits.{SearchLimits}
use Rattle.input_files.specs.declared.problem.View.TheVariants.{AsRequested}
use Rattle.input_files.specs.Inputs.{InputFiles}
use Rattle.input_files.specs.Readings.{Gave}
use Rattle.input_files.specs.Outcomes.{Input, outcome}
use Rattle.input_files.specs.Stops.{IsReadAndMade}
use Rattle.input_files.proofs.Problems.{IsProblemOf}
use Rattle.report_writer.specs.declared.report.Report.{Report}
use Rattle.report_writer.specs.Reports.{Reports, bytes_in}
use Rattle.report_writer.proofs.ReportLaws.{may_report}
use Rattle.least_conflict.specs.declared.conflict.Conflict.{Conflict}
use Rattle.least_conflict.specs.declared.conflict.Conflict.TheVariants.{Fit, Least, Undecided}
use Rattle.least_conflict.specs.Conflicts.{IsConflictFound}
use Rattle.path_commands.specs.Conflicts.{MayConflict, TellsConflict, conflict_text, conflict_status}

-- what was found may be written
found_may : (limits : SearchLimits) (d : Input) (conflict : Conflict) →
    IsConflictFound d.problem limits.top limits.nodes conflict →
    MayConflict limits d (conflict_status conflict) (conflict_text d.problem conflict)
found_may limits d (Fit w) found = record { conflict = Fit w; found = found; status = refl; spelled = refl }
found_may limits d (Least members rows tree without) found = record { conflict = Least members rows tree without; found = found; status = refl; spelled = refl }
found_may limits d (Undecided members rows tree) found = record { conflict = Undecided members rows tree; found = found; status = refl; spelled = refl }

-- the report of what was found of the problem that was read, and for which the advisors were asked
pub conflict_found : (Given : List Taken → Type 0) (limits : SearchLimits) (names : InputFiles) (p : DesignProblem)
    (conflict : Conflict) (report : Report) (asks : Input → Conflict → Type 0) →
    Gave Given (λ came. IsReadAndMade (outcome AsRequested names) came IsProblemOf p) →
    IsConflictFound p limits.top limits.nodes conflict →
    Reports (conflict_status conflict) (conflict_text p conflict) report → ((d : Input) → d.problem ≡ p → asks d conflict) →
    Gave Given (λ came. IsReadAndMade (outcome AsRequested names) came
    (λ (made : Report) d. MayConflict limits d made.status (bytes_in made.text) × TellsConflict d.problem (asks d) (bytes_in made.text)) report)
conflict_found Given limits names p conflict report asks read found r asked =
    let d : Input = read.so.said in
    let same = read.so.fits.0 in
    let of_d : IsConflictFound d.problem limits.top limits.nodes conflict =
    subst (λ (q : DesignProblem). IsConflictFound q limits.top limits.nodes conflict) (sym same) found in
    let reports : Reports (conflict_status conflict) (conflict_text d.problem conflict) report =
    subst (λ (q : DesignProblem). Reports (conflict_status conflict) (conflict_text q conflict) report) (sym same) r in
    record {
      came = read.came;
      given = read.given;
      so = record {
        said = d;
        ends = read.so.ends;
        fits = (
          may_report (MayConflict limits d) (conflict_status conflict) (conflict_text d.problem conflict) report reports (found_may limits d conflict of_d),
          (conflict, reports.text, asked d same),
        );
      };
    }
