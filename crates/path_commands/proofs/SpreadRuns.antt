-- What `spread` reports of the problem and the sets that were read.
use Rattle.std.proofs.Common.{◌≡◌, ℕ, ◌≤◌, refl, sym, ◌∙◌, ap, subst, List, []}
use Rattle.std.specs.Prelude.{IfSome, IfOk, IfErr, Option, None, Result, Ok, Err}
use Rattle.std.specs.Borrow.{Bor}
use Rattle.cost_base.specs.Histories.{Taken}
use Rattle.cost_base.specs.declared.refusal.Refusal.{Refusal}
use Rattle.design_problem.specs.Answers.{greatest_bound}
use Rattle.design_problem.specs.Problems.{DesignProblem}
use Rattle.text_lines.specs.LineFaults.{FaultyLine, TellsFault}
use Rattle.set_reader.specs.declared.fault.SetFault.{SetFault}
use Rattle.set_reader.specs.FaultNumbers.{set_fault_number}
use Rattle.set_reader.specs.Reading.{AreSaid, set_fault}
use Rattle.set_reader.specs.SpreadSets.{AreSetsOf}
use Rattle.wide_fraction.specs.SearchLimits.{SearchLimits}
use Rattle.input_files.specs.declared.problem.View.TheVariants.{AsRequested}
use Rattle.input_files.specs.Inputs.{InputFiles}
use Rattle.input_files.specs.Outcomes.{Input, outcome}
use Rattle.input_files.proofs.Problems.{IsProblemOf}
use Rattle.input_files.proofs.ReadyInputs.{IsReadyInput}
use Rattle.input_files.specs.Readings.{Gave}
use Rattle.input_files.specs.Stops.{IsReadAndMade, IsReadAs, said_or_stop}
use Rattle.input_files.proofs.Parsed.{lines_parsed}
use Rattle.report_writer.specs.declared.report.Report.{Report}
use Rattle.report_writer.specs.Reports.{Reports, bytes_in}
use Rattle.spread_sets.specs.declared.spread.Spread.{Spread}
use Rattle.spread_sets.specs.declared.spread.Spread.TheVariants.{Fit, Impossible, Undecided}
use Rattle.spread_sets.specs.Answers.{IsSpreadFound}
use Rattle.path_commands.specs.SetFiles.{AreSetsIn, Sharing, sets_said, sets_read}
use Rattle.path_commands.specs.Spreads.{IsSpreadBack, MaySpread, shared_costs, spread_text, spread_status}
use Rattle.path_commands.specs.SpreadsMade.{IsProblemAsked}
use Rattle.path_commands.proofs.SpreadsBack.{spread_back}
use Rattle.report_writer.proofs.ReportLaws.{may_report}

-- a problem is that of an input that was read
abbrev pub IsProblemRead : DesignProblem → Input → Type 0
IsProblemRead p d = (d.problem ≡ p) × IsReadyInput d

-- the problem that was made is that of what was read
pub problem_asked : (Given : List Taken → Type 0) (names : InputFiles) (p : DesignProblem) →
    Gave Given (λ came. IsReadAndMade (outcome AsRequested names) came IsProblemOf p) →
    Gave Given (λ came. IsReadAndMade (outcome AsRequested names) came (IsProblemAsked names) p)
problem_asked Given names p read = record {
  came = read.came;
  given = read.given;
  so = record {
    said = read.so.said;
    ends = read.so.ends;
    fits = record { came = read.came; ends = read.so.ends; same = read.so.fits.0 };
  };
}

abbrev sharing_of : Input → List ℕ → Sharing
sharing_of d bytes = record { input = d; bytes = bytes }

-- the sets of an input's wanted paths that a file says
abbrev pub AreSetsFor : Input → List (List ℕ) → Sharing → Type 0
AreSetsFor d sets sharing = (sharing.input ≡ d) × AreSetsIn sets sharing

-- what a file of sets says, or its first faulty line
pub sets_parsed : (file : Bor (List ℕ)) (d : Input) (p : DesignProblem) (bytes : List ℕ) (parsed : Result (List (List ℕ)) (Refusal SetFault ℕ)) →
    d.problem ≡ p → IfOk parsed (λ sets. (set_fault p bytes ≡ None) × AreSaid bytes sets) → IfOk parsed (AreSetsOf p) →
    IfErr parsed (TellsFault (set_fault p bytes)) →
    IsReadAs (sets_said file.now d bytes) [] (AreSetsFor d) (said_or_stop set_fault_number parsed file)
sets_parsed file d p bytes parsed is said lawful tells =
    let same = sym (ap (λ (q : DesignProblem). set_fault q bytes) is) in
    lines_parsed set_fault_number file (sharing_of d bytes) (set_fault d.problem bytes) (AreSetsFor d) parsed
    (made parsed said lawful) (subst (λ (f : Option (FaultyLine SetFault)). IfErr parsed (TellsFault f)) same tells)
  where
    made : (r : Result (List (List ℕ)) (Refusal SetFault ℕ)) → IfOk r (λ sets. (set_fault p bytes ≡ None) × AreSaid bytes sets) →
        IfOk r (AreSetsOf p) → IfOk r (λ sets. (set_fault d.problem bytes ≡ None) × AreSetsFor d sets (sharing_of d bytes))
    made (Ok sets) so fits = (
      ap (λ (q : DesignProblem). set_fault q bytes) is ∙ so.0,
      (refl, record { said = so.1; lawful = subst (λ (q : DesignProblem). AreSetsOf q sets) (sym is) fits }),
    )
    made (Err refusal) so fits = tt

-- what was found may be written
found_may : (limits : SearchLimits) (sharing : Sharing) (sets : List (List ℕ)) (spread : Spread) → IsReadyInput sharing.input →
    greatest_bound sharing.input.problem ≤ 65535 → AreSetsIn sets sharing → IsSpreadFound sharing.input.problem sets limits.top limits.nodes spread →
    MaySpread limits sharing (spread_status spread) (spread_text sharing.input.problem spread)
found_may limits sharing sets spread ready small said found = by_spread spread found (spread_back limits sharing.input sets spread ready small found)
  where
    by_spread : (one : Spread) → IsSpreadFound sharing.input.problem sets limits.top limits.nodes one →
        IfSome (shared_costs one) (IsSpreadBack sharing.input sets (spread_text sharing.input.problem one)) →
        MaySpread limits sharing (spread_status one) (spread_text sharing.input.problem one)
    by_spread (Fit w) holds back = record { sets = sets; said = said; spread = Fit w; found = holds; status = refl; spelled = refl; back = back }
    by_spread (Impossible rows tree) holds back =
        record { sets = sets; said = said; spread = Impossible rows tree; found = holds; status = refl; spelled = refl; back = back }
    by_spread (Undecided rows tree) holds back =
        record { sets = sets; said = said; spread = Undecided rows tree; found = holds; status = refl; spelled = refl; back = back }

-- the report of what was found of the sets that were read
pub spread_found : (Given : List Taken → Type 0) (limits : SearchLimits) (file : List ℕ) (d : Input) (p : DesignProblem)
    (sets : List (List ℕ)) (spread : Spread) (report : Report) → IsProblemRead p d → greatest_bound p ≤ 65535 →
    Gave Given (λ came. IsReadAndMade (sets_read file d) came (AreSetsFor d) sets) →
    IsSpreadFound p sets limits.top limits.nodes spread → Reports (spread_status spread) (spread_text p spread) report →
    Gave Given (λ came. IsReadAndMade (sets_read file d) came
    (λ (made : Report) sharing. MaySpread limits sharing made.status (bytes_in made.text)) report)
spread_found Given limits file d p sets spread report of small read found r =
    let sharing : Sharing = read.so.said in
    let is : p ≡ sharing.input.problem = sym (ap (λ (e : Input). e.problem) read.so.fits.0 ∙ of.0) in
    let ready : IsReadyInput sharing.input = subst IsReadyInput (sym read.so.fits.0) of.1 in
    let bound_small : greatest_bound sharing.input.problem ≤ 65535 = subst (λ (q : DesignProblem). greatest_bound q ≤ 65535) is small in
    let of_said : IsSpreadFound sharing.input.problem sets limits.top limits.nodes spread =
    subst (λ (q : DesignProblem). IsSpreadFound q sets limits.top limits.nodes spread) is found in
    let reports : Reports (spread_status spread) (spread_text sharing.input.problem spread) report =
    subst (λ (q : DesignProblem). Reports (spread_status spread) (spread_text q spread) report) is r in
    record {
      came = read.came;
      given = read.given;
      so = record {
        said = sharing;
        ends = read.so.ends;
        fits = may_report (MaySpread limits sharing) (spread_status spread) (spread_text sharing.input.problem spread) report
            reports (found_may limits sharing sets spread ready bound_small read.so.fits.1 of_said);
      };
    }
