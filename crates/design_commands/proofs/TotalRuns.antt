-- What `total` reports.
use Rattle.std.proofs.Common.{◌≡◌, ℕ, ◌<◌, refl, sym, ◌∙◌, ap, subst, List, [], ◌∷◌, ◌++◌, append_assoc, true, Some, inl, inr}
use Rattle.std.specs.Prelude.{◌⊎◌, Option, codes}
use Rattle.cost_base.specs.Decimal.{decimal}
use Rattle.cost_base.specs.declared.Status.TheVariants as status
use Rattle.cost_base.specs.Histories.{Taken}
use Rattle.text_lines.specs.Lines.{with_ends}
use Rattle.text_lines.proofs.LineLaws.{with_ends-append}
use Rattle.config_reader.proofs.PrintedLines.{all_lack_end}
use Rattle.design_problem.specs.declared.answer.CapTree.{CapTree}
use Rattle.design_problem.specs.declared.answer.Verdict.{Verdict}
use Rattle.design_problem.specs.declared.answer.Verdict.TheVariants.{Optimal, Impossible, Undecided}
use Rattle.design_problem.specs.declared.form.Row.{Row}
use Rattle.design_problem.specs.declared.tree.Entry.{Entry}
use Rattle.design_problem.specs.Problems.{DesignProblem}
use Rattle.design_problem.specs.Rows.{greatest_cost}
use Rattle.design_problem.specs.Answers.{AnswerParts, IsValid}
use Rattle.design_problem.specs.ProblemLaws.{GivesBest}
use Rattle.design_problem.specs.Text.{text, spaced, tree_lines, rows_lines}
use Rattle.evidence_text.specs.AnswerValues.{IsAnswerValue}
use Rattle.least_bound.specs.Answered.{ProofIsPrinted, VerdictHolds, IsAnswerSheet}
use Rattle.least_total.specs.declared.finding.Total.{Total}
use Rattle.least_total.specs.declared.finding.Total.TheVariants.{Least, Undecided as TotalUndecided}
use Rattle.least_total.specs.declared.finding.TotalEvidence.{TotalEvidence}
use Rattle.least_total.specs.declared.finding.TotalEvidence.TheVariants.{Floor, Tree}
use Rattle.least_total.specs.Totals.{HasLeastTotal, total}
use Rattle.least_total.specs.Results.{IsTotalAnswer, IsRecosted, IsUndecidedTotal, ShowsLeastTotal}
use Rattle.wide_fraction.specs.SearchLimits.{SearchLimits}
use Rattle.input_files.specs.declared.problem.View.TheVariants.{AsRequested}
use Rattle.input_files.specs.Inputs.{InputFiles}
use Rattle.input_files.specs.Readings.{Gave}
use Rattle.input_files.specs.Outcomes.{Input, outcome}
use Rattle.input_files.specs.Stops.{IsReadAndMade}
use Rattle.input_files.proofs.Problems.{IsProblemOf}
use Rattle.input_files.proofs.ReadyInputs.{IsReadyInput, ready_is}
use Rattle.report_writer.specs.declared.report.Report.{Report}
use Rattle.report_writer.specs.Reports.{bytes_in}
use Rattle.design_commands.specs.Designs.{IsAnswerTo, IsDesigned, AreCheapestBack}
use Rattle.design_commands.specs.TotalRuns.{IsFloorTotal, IsProvedTotal, IsShownUndecidedTotal, IsTotalled, MayTotal, ReportsFoundAs, ReportsTotal, at_cap, bound_lines, found_text, proof_lines, shown_lines, total_text, IsTotalText, TellsTotal}
use Rattle.design_commands.proofs.DesignedLaws.{designed_costs, designed_is, impossible_is, undecided_is, answer_prints, cheapest_back, costs_back}
use Rattle.read_back_laws.specs.ReadBack.{IsReadBack}
use Rattle.read_back_laws.proofs.QuietLines.{AreQuiet, open_quiet, proof_quiet, quiet_append, quiet_cons, rows_quiet}
use Rattle.read_back_laws.proofs.PrintedText.{all_append, all_cons, decimals_lack, spaced_lacks}
use Rattle.read_back_laws.proofs.PrintedSections.{all_other, others_append}
use Rattle.report_writer.proofs.ReportLaws.{may_report}

abbrev cap_in : Verdict → ℕ
cap_in (Optimal k) = k
cap_in Impossible = 0
cap_in (Undecided cap) = cap

-- the text by the lines around the answer's

abbrev first_lines : List (List ℕ)
first_lines = codes "ospfcost total 1" ∷ []

abbrev total_around : AnswerParts → List (List ℕ) → List ℕ
total_around a behind = with_ends first_lines ++ text a ++ with_ends behind

-- the lines behind the answer
abbrev behind_it : ℕ → List (List ℕ) → List (List ℕ)
behind_it sum shown = (spaced (codes "total" ∷ decimal sum ∷ []) ∷ shown) ++ (codes "end" ∷ [])

total_around_is : (a : AnswerParts) (sum : ℕ) (shown : List (List ℕ)) → total_around a (behind_it sum shown) ≡ total_text (text a) sum shown
total_around_is a sum shown =
    let line : List (List ℕ) = spaced (codes "total" ∷ decimal sum ∷ []) ∷ [] in
    ap (λ (bytes : List ℕ). with_ends first_lines ++ text a ++ bytes)
    (with_ends-append (line ++ shown) (codes "end" ∷ [])
    ∙ ap (λ (bytes : List ℕ). bytes ++ with_ends (codes "end" ∷ [])) (with_ends-append line shown))
    ∙ regrouped (with_ends first_lines) (text a) (with_ends line) (with_ends shown) (with_ends (codes "end" ∷ []))
  where
    regrouped : (f t l s e : List ℕ) → f ++ t ++ ((l ++ s) ++ e) ≡ f ++ t ++ l ++ s ++ e
    regrouped f t l s e = simp append_assoc

behind_lacks : (sum : ℕ) (shown : List (List ℕ)) → all_lack_end shown ≡ true → all_lack_end (behind_it sum shown) ≡ true
behind_lacks sum shown lack =
    all_append (spaced (codes "total" ∷ decimal sum ∷ []) ∷ shown) (codes "end" ∷ [])
    (all_cons (spaced (codes "total" ∷ decimal sum ∷ [])) shown
    (spaced_lacks (codes "total" ∷ decimal sum ∷ []) (decimals_lack (sum ∷ []))) lack) refl

behind_other : (sum : ℕ) (shown : List (List ℕ)) → all_other shown ≡ true → all_other (behind_it sum shown) ≡ true
behind_other sum shown other = others_append (spaced (codes "total" ∷ decimal sum ∷ []) ∷ shown) (codes "end" ∷ []) other refl

shown_quiet : (k : ℕ) (proof : TotalEvidence) → AreQuiet (shown_lines k proof)
shown_quiet k Floor = record { lack = refl; other = refl }
shown_quiet k (Tree rows tree) =
    quiet_append (rows_lines rows.items) (tree_lines (codes "proof") (Some (at_cap k tree))) (rows_quiet rows.items) (proof_quiet (Some (at_cap k tree)))

bound_quiet : (bound k : ℕ) (rows : List Row) (tree : List Entry) → AreQuiet (bound_lines bound rows (at_cap k tree))
bound_quiet bound k rows tree =
    quiet_cons (spaced (codes "bound" ∷ decimal bound ∷ [])) (rows_lines rows ++ tree_lines (codes "open") (Some (at_cap k tree)))
    (spaced_lacks (codes "bound" ∷ decimal bound ∷ []) (decimals_lack (bound ∷ []))) refl
    (quiet_append (rows_lines rows) (tree_lines (codes "open") (Some (at_cap k tree))) (rows_quiet rows) (open_quiet (Some (at_cap k tree))))

-- an answer with the same rows and trees has the same sheet
same_sheet : (p : DesignProblem) (a b : AnswerParts) → b.rows ≡ a.rows → b.proof ≡ a.proof → b.undecided ≡ a.undecided →
    IsAnswerSheet p a.rows a.proof a.undecided → IsAnswerSheet p b.rows b.proof b.undecided
same_sheet p a b same_rows same_proof same_undecided sheet =
    subst (λ (t : Option CapTree). IsAnswerSheet p b.rows b.proof t) (sym same_undecided)
    (subst (λ (t : Option CapTree). IsAnswerSheet p b.rows t a.undecided) (sym same_proof)
    (subst (λ (rs : List Row). IsAnswerSheet p rs a.proof a.undecided) (sym same_rows) sheet))

-- the answer with other costs is an answer to the problem
recosted_to : (limits : SearchLimits) (p : DesignProblem) (a b : AnswerParts) (w : List ℕ) → IsAnswerTo limits p a →
    IsRecosted p a b w → IsAnswerValue b → IsAnswerTo limits p b
recosted_to limits p a b w to other value =
    let before : IsValid p a =
    subst (λ (v : Verdict). VerdictHolds p limits.top limits.nodes a v) (sym other.verdict ∙ other.tells) to.answered.holds in
    record {
      kept = to.kept;
      answered = record {
        holds = subst (λ (v : Verdict). VerdictHolds p limits.top limits.nodes b v) (sym other.tells) other.valid;
        proof =
            subst (λ (t : Option CapTree). ProofIsPrinted p limits.top limits.nodes b.rows t) (sym other.proof)
            (subst (λ (rs : List Row). ProofIsPrinted p limits.top limits.nodes rs a.proof) (sym other.rows) to.answered.proof);
        sheet = same_sheet p a b other.rows other.proof (other.valid.finished ∙ sym before.finished) to.answered.sheet;
      };
      value = value;
    }

-- its text is a design's, with these costs, which are read back from a text with their sections
record IsDesignedWith (limits : SearchLimits) (d : Input) (b : AnswerParts) (w : List ℕ) : Type 0 where
  designed : IsDesigned limits d (text b)
  costs_are : designed.costs ≡ w
  backs : (behind : List (List ℕ)) → all_lack_end behind ≡ true → all_other behind ≡ true → IsReadBack d (total_around b behind) w

recosted_designed : (limits : SearchLimits) (d : Input) (a b : AnswerParts) (w : List ℕ) → IsReadyInput d →
    IsAnswerTo limits d.problem a → IsRecosted d.problem a b w → IsAnswerValue b → IsDesignedWith limits d b w
recosted_designed limits d a b w ready to other value =
    let gives : GivesBest d.problem (greatest_cost w) b.costs =
    record {
      costs = other.costs;
      is_printed = other.printed;
      values = w;
      names = other.names;
      best = other.best;
      greatest = refl;
    } in
    let to_b = recosted_to limits d.problem a b w to other value in
    record {
      designed = designed_is limits d b (greatest_cost w) ready to_b other.tells other.valid gives;
      costs_are = designed_costs limits d b (greatest_cost w) ready to_b other.tells other.valid gives;
      backs = λ behind late back.
          costs_back d b (greatest_cost w) (total_around b behind) ready value gives
          (answer_prints first_lines behind b other.costs value other.printed refl late refl back);
    }

-- the greatest cost is the one that the verdict tells
same_cap : (p : DesignProblem) (a b : AnswerParts) (w : List ℕ) (k : ℕ) → a.verdict ≡ Optimal k → IsRecosted p a b w → greatest_cost w ≡ k
same_cap p a b w k is other = ap cap_in (sym other.tells ∙ other.verdict ∙ is)

shows_total : (limits : SearchLimits) (p : DesignProblem) (w : List ℕ) (k : ℕ) (proof : TotalEvidence) → greatest_cost w ≡ k →
    ShowsLeastTotal p limits.top limits.nodes (greatest_cost w) (total w) proof → IsFloorTotal p w (shown_lines k proof)
    ⊎ IsProvedTotal limits p w (shown_lines k proof)
shows_total limits p w k Floor same shows = inl (record { floor = shows; spelled = refl })
shows_total limits p w k (Tree rows tree) same shows =
    inr (record {
      most = shows.0;
      below = shows.1;
      rows = rows.items;
      sheet = shows.2;
      tree = tree;
      earnest = shows.3;
      closed = shows.4;
      spelled = ap (λ (cap : ℕ). proof_lines rows.items (at_cap cap tree)) (sym same);
    })

-- the costs are read back from the whole text
total_back : (limits : SearchLimits) (d : Input) (b : AnswerParts) (w : List ℕ) (sum : ℕ) (shown : List (List ℕ)) →
    IsDesignedWith limits d b w → AreQuiet shown → IsReadBack d (total_text (text b) sum shown) w
total_back limits d b w sum shown here quiet =
    subst (λ (bytes : List ℕ). IsReadBack d bytes w) (total_around_is b sum shown)
    (here.backs (behind_it sum shown) (behind_lacks sum shown quiet.lack) (behind_other sum shown quiet.other))

-- what was found from a valid optimal answer
found_may : (limits : SearchLimits) (d : Input) (a : AnswerParts) (k : ℕ) (found : Total) (report : Report) → IsReadyInput d →
    IsAnswerTo limits d.problem a → a.verdict ≡ Optimal k →
    IsTotalAnswer d.problem limits.top limits.nodes a found → ReportsFoundAs k found report →
    MayTotal limits d report.status (bytes_in report.text)
found_may limits d a k (Least answer sum proof) report ready to is answered reports =
    let w = answered.0 in
    let other = answered.1 in
    let here = recosted_designed limits d a answer w ready to other reports.value in
    let there = sym here.costs_are in
    let shown = shown_lines k proof in
    let back = total_back limits d answer w (total w) shown here (shown_quiet k proof) in
    let totalled : IsTotalled limits d (found_text k (Least answer sum proof)) = record {
      inside = text answer;
      designed = here.designed;
      back = subst (IsReadBack d (found_text k (Least answer sum proof))) there
          (subst (λ (n : ℕ). IsReadBack d (total_text (text answer) n shown) w) (sym answered.2) back);
      only = subst (λ (n : ℕ). AreCheapestBack d (total_text (text answer) n shown)) (sym answered.2)
          (cheapest_back d (total_text (text answer) (total w) shown) w back other.best.fit);
      least = subst (HasLeastTotal d.problem) there answered.3;
      shown = shown;
      shows = subst (λ (v : List ℕ). IsFloorTotal d.problem v shown ⊎ IsProvedTotal limits d.problem v shown) there
          (shows_total limits d.problem w k proof (same_cap d.problem a answer w k is other) answered.4);
      spelled = ap (λ (n : ℕ). total_text (text answer) n shown) answered.2 ∙ ap (λ (v : List ℕ). total_text (text answer) (total v) shown) there;
    } in
    may_report (MayTotal limits d) status.Done (found_text k (Least answer sum proof)) report reports.reports totalled
found_may limits d a k (TotalUndecided answer sum bound rows tree) report ready to is answered reports =
    let w = answered.0 in
    let other = answered.1 in
    let same = same_cap d.problem a answer w k is other in
    let here = recosted_designed limits d a answer w ready to other reports.value in
    let there = sym here.costs_are in
    let shown = bound_lines bound rows.items (at_cap k tree) in
    let back = total_back limits d answer w (total w) shown here (bound_quiet bound k rows.items tree) in
    let undecided : IsShownUndecidedTotal limits d (found_text k (TotalUndecided answer sum bound rows tree)) = record {
      inside = text answer;
      designed = here.designed;
      back = subst (IsReadBack d (found_text k (TotalUndecided answer sum bound rows tree))) there
          (subst (λ (n : ℕ). IsReadBack d (total_text (text answer) n shown) w) (sym answered.2) back);
      only = subst (λ (n : ℕ). AreCheapestBack d (total_text (text answer) n shown)) (sym answered.2)
          (cheapest_back d (total_text (text answer) (total w) shown) w back other.best.fit);
      bound = bound;
      from_lows = answered.3;
      below = subst (λ (v : List ℕ). bound < total v) there answered.4;
      rows = rows.items;
      sheet = answered.5;
      tree = tree;
      used_up = subst (λ (v : List ℕ). IsUndecidedTotal d.problem limits.top limits.nodes (greatest_cost v) bound rows.items tree) there answered.6;
      spelled = ap (λ (n : ℕ). total_text (text answer) n (bound_lines bound rows.items (at_cap k tree))) answered.2
          ∙ ap (λ (cap : ℕ). total_text (text answer) (total w)
          (bound_lines bound rows.items (at_cap cap tree))) (sym same)
          ∙ ap (λ (v : List ℕ). total_text (text answer) (total v) (bound_lines bound rows.items (at_cap (greatest_cost v) tree))) there;
    } in
    may_report (MayTotal limits d) status.Undecided (found_text k (TotalUndecided answer sum bound rows tree)) report reports.reports (inr undecided)

-- what is reported of an answer may be written
total_may : (limits : SearchLimits) (d : Input) (a : AnswerParts) (report : Report) → IsReadyInput d →
    IsAnswerTo limits d.problem a → ReportsTotal limits d.problem a a.verdict report →
    MayTotal limits d report.status (bytes_in report.text)
total_may limits d a report ready to reports = by_verdict a.verdict refl reports
  where
    by_verdict : (v : Verdict) → a.verdict ≡ v → ReportsTotal limits d.problem a v report → MayTotal limits d report.status (bytes_in report.text)
    by_verdict (Optimal k) is r = found_may limits d a k r.found report ready to is r.answered r.reports
    by_verdict Impossible is r =
        may_report (MayTotal limits d) status.Impossible (text a) report r
        (impossible_is limits d.problem a to is (subst (λ (v : Verdict). VerdictHolds d.problem limits.top limits.nodes a v) is to.answered.holds))
    by_verdict (Undecided cap) is r = may_report (MayTotal limits d) status.Undecided (text a) report r (inl (undecided_is limits d.problem a cap to is))

-- the text of the report
total_told : (limits : SearchLimits) (p : DesignProblem) (a : AnswerParts) (v : Verdict) (report : Report) → ReportsTotal limits p a v report →
    IsTotalText limits p a v (bytes_in report.text)
total_told limits p a (Optimal k) report r = (r.found, r.answered, r.reports.reports.text)
total_told limits p a Impossible report r = r.text
total_told limits p a (Undecided cap) report r = r.text

-- the report of an answer to the problem that was read, and for which the advisors were asked
pub total_found : (Given : List Taken → Type 0) (limits : SearchLimits) (names : InputFiles) (p : DesignProblem)
    (a : AnswerParts) (report : Report) (asks : Input → AnswerParts → Type 0) →
    Gave Given (λ came. IsReadAndMade (outcome AsRequested names) came IsProblemOf p) →
    IsAnswerTo limits p a → ReportsTotal limits p a a.verdict report → ((d : Input) → d.problem ≡ p → asks d a) →
    Gave Given (λ came. IsReadAndMade (outcome AsRequested names) came
    (λ (made : Report) d. MayTotal limits d made.status (bytes_in made.text) × TellsTotal limits d.problem (asks d) (bytes_in made.text)) report)
total_found Given limits names p a report asks read to reports asked =
    let d : Input = read.so.said in
    let here = sym read.so.fits.0 in
    let to_d : IsAnswerTo limits d.problem a = subst (λ (q : DesignProblem). IsAnswerTo limits q a) here to in
    let reports_d : ReportsTotal limits d.problem a a.verdict report = subst (λ (q : DesignProblem). ReportsTotal limits q a a.verdict report) here reports in
    record {
      came = read.came;
      given = read.given;
      so = record {
        said = d;
        ends = read.so.ends;
        fits = (
          total_may limits d a report (ready_is names d read.came read.so.ends) to_d reports_d,
          (a, to.value, total_told limits d.problem a a.verdict report reports_d, asked d read.so.fits.0),
        );
      };
    }
