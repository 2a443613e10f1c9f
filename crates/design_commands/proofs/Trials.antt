-- What a trial reports is what it may write.
use Rattle.std.proofs.Common.{◌≡◌, ℕ, ◌⊎◌, refl, sym, ◌∙◌, ap, subst, inl, inr, List, [], length}
use Rattle.std.specs.Prelude.{Option, Result, Ok, Err, Some, IfErr, IfOk, codes, ◌++◌, slice_index}
use Rattle.std.specs.List.{sum}
use Rattle.std.proofs.lemmas.Result.{IfOk-weaker}
use Rattle.std.proofs.lemmas.Slice.Zip.{AllZip-long}
use Rattle.cost_base.specs.declared.OutOfMemory.{OutOfMemory}
use Rattle.cost_base.specs.declared.Status.{Status}
use Rattle.cost_base.specs.declared.Status.TheVariants as status
use Rattle.cost_base.specs.Decimal.{decimal}
use Rattle.cost_base.specs.Histories.{Taken, AreTold, HasGiven, failures}
use Rattle.trial_maker.specs.declared.TrialTexts.{TrialTexts}
use Rattle.trial_maker.specs.TrialTexts.{made_trial}
use Rattle.design_problem.specs.declared.answer.CostLine.{CostLine}
use Rattle.design_problem.specs.declared.answer.Verdict.{Verdict}
use Rattle.design_problem.specs.declared.answer.Verdict.TheVariants.{Optimal, Impossible, Undecided}
use Rattle.design_problem.specs.Problems.{DesignProblem}
use Rattle.design_problem.specs.Rows.{AreBestCosts, greatest_cost}
use Rattle.design_problem.specs.GivenCosts.{costs_given}
use Rattle.design_problem.proofs.GivenCosts.{names_written}
use Rattle.design_problem.specs.Answers.{AnswerParts, CostLinesOf, lines_in}
use Rattle.design_problem.specs.Text.{text}
use Rattle.evidence_text.specs.AnswerValues.{IsAnswerValue}
use Rattle.least_bound.specs.Answered.{VerdictHolds}
use Rattle.input_files.specs.declared.problem.View.TheVariants.{AsRequested}
use Rattle.input_files.specs.declared.stop.Stop.{Stop}
use Rattle.input_files.specs.declared.stop.Stop.TheVariants as stops
use Rattle.input_files.specs.Inputs.{InputFiles}
use Rattle.input_files.specs.Readings.{End, Says, Faulty, Failed, Reading, EndsAs, Gave}
use Rattle.input_files.specs.Outcomes.{Input, outcome}
use Rattle.input_files.specs.Stops.{IsReadAndMade, IsReadAs, refusal_in}
use Rattle.input_files.specs.Ends.{text_named, end_of_reading}
use Rattle.input_files.proofs.Problems.{IsProblemOf}
use Rattle.input_files.proofs.Ends.{ends_on, no_failure}
use Rattle.report_writer.specs.declared.report.Report.{Report}
use Rattle.report_writer.specs.Reports.{Reports, ReportsAny, bytes_in}
use Rattle.report_writer.specs.Texts.{refused_line}
use Rattle.design_commands.specs.Designs.{IsAnswerTo, IsShownImpossible, IsShownUndecided, verdict_status}
use Rattle.design_commands.specs.Trials.{MayTry, MayTryEnd, MayTrial, trial_end, trial_files, named_trial_texts, costless_line, summary_line, trial_limits, TellsTrial, trial_text}
use Rattle.design_commands.specs.AdvisorsAsked.{AsksAt, IsMadeText}
use Rattle.design_commands.proofs.Asking.{asked_of_report, asks_one, read_alone}
use Rattle.design_commands.proofs.DesignedLaws.{gives_best, impossible_is, undecided_is}
use Rattle.report_writer.proofs.ReportLaws.{may_report}

abbrev TriesAll : ℕ → ℕ → DesignProblem → Report → Type 0
TriesAll blocks start p report = (d : Input) → d.problem ≡ p → MayTry blocks start d report.status (bytes_in report.text)

-- a report that may be written of every input with the problem, where it may be of one
tries : (blocks start : ℕ) (p : DesignProblem) (s : Status) (bytes : List ℕ) (report : Report) →
    Reports s bytes report → ((d : Input) → d.problem ≡ p → MayTry blocks start d s bytes) →
    TriesAll blocks start p report
tries blocks start p s bytes report r may d is = may_report (MayTry blocks start d) s bytes report r (may d is)

-- the lines of an answer with best costs are as many as the free interfaces
pub best_lines : (p : DesignProblem) (a : AnswerParts) (k : ℕ) (lines : List CostLine) → IsAnswerTo trial_limits p a →
    a.verdict ≡ Optimal k → lines ≡ lines_in a.costs → length p.vars ≡ length lines
best_lines p a k lines to is are =
    let gives = (gives_best trial_limits p a k to is).1 in
    sym (AllZip-long (λ name line. (line.router ≡ name.router) × (line.interface ≡ name.interface)
    × (line.cost ≡ slice_index gives.values name.var)) p.vars gives.costs.lines gives.names)
    ∙ ap length (sym (are ∙ ap lines_in gives.is_printed))

-- the summary line of best costs
pub best_tried : (blocks start : ℕ) (p : DesignProblem) (a : AnswerParts) (k : ℕ) (lines : List CostLine)
    (result : Result Report OutOfMemory) → IsAnswerTo trial_limits p a → a.verdict ≡ Optimal k →
    lines ≡ lines_in a.costs →
    IfOk result (Reports status.Done
    (summary_line blocks start (codes "optimal") (decimal k) (decimal (sum (costs_given p lines))))) →
    IfOk result (TriesAll blocks start p)
best_tried blocks start p a k lines result to is are made =
    let gives = (gives_best trial_limits p a k to is).1 in
    let w : List ℕ = gives.values in
    let printed : lines ≡ gives.costs.lines = are ∙ ap lines_in gives.is_printed in
    let names : CostLinesOf w p.vars lines = subst (λ (ls : List CostLine). CostLinesOf w p.vars ls) (sym printed) gives.names in
    let given : costs_given p lines ≡ w = names_written p lines w to.kept.each_named gives.best.fit.within.low_count names in
    let line : List ℕ = summary_line blocks start (codes "optimal") (decimal k) (decimal (sum (costs_given p lines))) in
    let line_is : line ≡ summary_line blocks start (codes "optimal") (decimal (greatest_cost w)) (decimal (sum w))
    = ap (λ (g : ℕ). summary_line blocks start (codes "optimal") (decimal g) (decimal (sum (costs_given p lines)))) (sym gives.greatest)
    ∙ ap (λ (xs : List ℕ). summary_line blocks start (codes "optimal") (decimal (greatest_cost w)) (decimal (sum xs))) given in
    IfOk-weaker result (Reports status.Done line) (TriesAll blocks start p)
    (λ report r. tries blocks start p status.Done line report r
    (λ d same. record {
      costs = w;
      best = subst (λ (q : DesignProblem). AreBestCosts q w) (sym same) gives.best;
      spelled = line_is;
    }))
    made

-- the summary line, and the text of an impossible answer
pub impossible_tried : (blocks start : ℕ) (p : DesignProblem) (a : AnswerParts) (result : Result Report OutOfMemory) →
    IsAnswerTo trial_limits p a → a.verdict ≡ Impossible →
    IfOk result (Reports (verdict_status a.verdict) (costless_line blocks start (codes "impossible") ++ text a)) → IfOk result (TriesAll blocks start p)
impossible_tried blocks start p a result to is made =
    let line : List ℕ = costless_line blocks start (codes "impossible") in
    IfOk-weaker result (Reports (verdict_status a.verdict) (line ++ text a)) (TriesAll blocks start p)
    (λ report r. tries blocks start p status.Impossible (line ++ text a) report
    (subst (λ (v : Verdict). Reports (verdict_status v) (line ++ text a) report) is r)
    (λ d same. record {
      behind = text a;
      spelled = refl;
      is_text = subst (λ (q : DesignProblem). IsShownImpossible trial_limits q (text a)) (sym same)
          (impossible_is trial_limits p a to is (subst (λ (v : Verdict). VerdictHolds p trial_limits.top trial_limits.nodes a v) is to.answered.holds));
    }))
    made

-- the summary line, and the text of an undecided answer
pub undecided_tried : (blocks start : ℕ) (p : DesignProblem) (a : AnswerParts) (cap : ℕ)
    (result : Result Report OutOfMemory) → IsAnswerTo trial_limits p a → a.verdict ≡ Undecided cap →
    IfOk result (Reports (verdict_status a.verdict) (costless_line blocks start (codes "undecided") ++ text a)) → IfOk result (TriesAll blocks start p)
undecided_tried blocks start p a cap result to is made =
    let line : List ℕ = costless_line blocks start (codes "undecided") in
    IfOk-weaker result (Reports (verdict_status a.verdict) (line ++ text a)) (TriesAll blocks start p)
    (λ report r. tries blocks start p status.Undecided (line ++ text a) report
    (subst (λ (v : Verdict). Reports (verdict_status v) (line ++ text a) report) is r)
    (λ d same. record {
      behind = text a;
      spelled = refl;
      is_text = subst (λ (q : DesignProblem). IsShownUndecided trial_limits q (text a)) (sym same) (undecided_is trial_limits p a cap to is);
    }))
    made

-- the report of the answer to the problem that was read, and for which the advisors were asked
pub tried_found : (Given : List Taken → Type 0) (blocks start : ℕ) (names : InputFiles) (p : DesignProblem)
    (a : AnswerParts) (report : Report) (asks : Input → AnswerParts → Type 0) →
    Gave Given (λ came. IsReadAndMade (outcome AsRequested names) came IsProblemOf p) → IsAnswerValue a →
    TriesAll blocks start p report → bytes_in report.text ≡ trial_text blocks start p a a.verdict → ((d : Input) → d.problem ≡ p → asks d a) →
    Gave Given (λ came. IsReadAndMade (outcome AsRequested names) came
    (λ (made : Report) d. MayTry blocks start d made.status (bytes_in made.text) × TellsTrial blocks start d.problem (asks d) (bytes_in made.text)) report)
tried_found Given blocks start names p a report asks read value all spelled asked =
    let d : Input = read.so.said in
    let same = read.so.fits.0 in
    let here : bytes_in report.text ≡ trial_text blocks start d.problem a a.verdict =
    subst (λ (q : DesignProblem). bytes_in report.text ≡ trial_text blocks start q a a.verdict) (sym same) spelled in
    record { came = read.came; given = read.given; so = record { said = d; ends = read.so.ends; fits = (all d same, (a, value, here, asked d same)) } }

-- what came of the texts of a trial is true to them, and none failed
pub record AreTexts (texts : List (List ℕ × List ℕ)) (came : List Taken) : Type 0 where
  pub told : AreTold (λ name. Some (text_named texts name)) came
  pub sure : failures came ≡ []

-- what a shelf gave that has these texts and notes no name
pub given_texts : (texts before now : List (List ℕ × List ℕ)) (came : List Taken) →
    ((name : List ℕ) → Some (text_named before name) ≡ Some (text_named texts name)) →
    HasGiven (λ name. Some (text_named before name)) (λ name. Some (text_named now name)) [] [] came → AreTexts texts came
given_texts texts before now came same given = record {
  told = subst (λ (held : List ℕ → Option (List ℕ)). AreTold held came) (λ i name. same name i) given.told;
  sure = sym given.noted;
}

-- what a trial makes of texts is what it may write by their end
end_tried : (blocks start : ℕ) (texts : List (List ℕ × List ℕ)) (names : InputFiles) (came : List Taken)
    (made : Result Report Stop) (result : Result Report OutOfMemory) → AreTexts texts came →
    IsReadAs (outcome AsRequested names) came (λ report d. MayTry blocks start d report.status (bytes_in report.text)) made → ReportsAny made result →
    IfOk result (λ report. MayTryEnd blocks start (end_of_reading texts (outcome AsRequested names)) report.status (bytes_in report.text))
end_tried blocks start texts names came (Ok report) result are read same =
    let end : end_of_reading texts (outcome AsRequested names) ≡ Says read.said =
    ends_on texts (outcome AsRequested names) came (Says read.said) read.ends are.told are.sure in
    subst (λ (r : Result Report OutOfMemory).
    IfOk r (λ made. MayTryEnd blocks start (end_of_reading texts (outcome AsRequested names)) made.status
    (bytes_in made.text))) (sym same)
    (subst (λ (e : End Input). MayTryEnd blocks start e report.status (bytes_in report.text)) (sym end) read.fits)
end_tried blocks start texts names came (Err (stops.Refused number file line)) result are read r =
    let fault = refusal_in number file line in
    let end : end_of_reading texts (outcome AsRequested names) ≡ Faulty fault = ends_on texts (outcome AsRequested names) came (Faulty fault) read are.told
    are.sure in
    IfOk-weaker result (Reports status.InputRefused (refused_line fault))
    (λ made. MayTryEnd blocks start (end_of_reading texts (outcome AsRequested names)) made.status (bytes_in made.text))
    (λ report is. subst (λ (e : End Input). MayTryEnd blocks start e report.status (bytes_in report.text)) (sym end)
    (may_report (MayTryEnd blocks start (Faulty fault)) status.InputRefused (refused_line fault) report is refl))
    r
end_tried blocks start texts names came (Err (stops.ReadFault file)) result are read r =
    absurd (no_failure texts (outcome AsRequested names) file.now (ends_on texts (outcome AsRequested names) came (Failed file.now) read are.told are.sure))
end_tried blocks start texts names came (Err stops.OutOfMemory) result are read r =
    IfOk-weaker result (λ report. ⊥)
    (λ made. MayTryEnd blocks start (end_of_reading texts (outcome AsRequested names)) made.status (bytes_in made.text))
    (λ report never. absurd never) r

-- so is what it makes of its own texts
pub trial_tried : (Given : List Taken → Type 0) (blocks start : ℕ) (trial : TrialTexts) (names : InputFiles)
    (made : Result Report Stop) (result : Result Report OutOfMemory) (asks : Report → Input → Type 0) →
    ((came : List Taken) → Given came → AreTexts (named_trial_texts trial) came) →
    names ≡ trial_files trial → trial ≡ made_trial blocks start →
    Gave Given (λ came. IsReadAs (outcome AsRequested names) came
    (λ report d. MayTry blocks start d report.status (bytes_in report.text) × asks report d) made) → ReportsAny made result →
    IfOk result (λ report. MayTrial blocks start report.status (bytes_in report.text))
unfolding trial_end
trial_tried Given blocks start trial names made result asks are named is gave r =
    subst (λ (c : TrialTexts). IfOk result
    (λ report. MayTryEnd blocks start (end_of_reading (named_trial_texts c) (outcome AsRequested (trial_files c))) report.status
    (bytes_in report.text))) is
    (subst (λ (n : InputFiles). IfOk result
    (λ report. MayTryEnd blocks start (end_of_reading (named_trial_texts trial) (outcome AsRequested n)) report.status
    (bytes_in report.text))) named
    (end_tried blocks start (named_trial_texts trial) names gave.came made result (are gave.came gave.given)
    (read_alone (outcome AsRequested names) gave.came (λ (report : Report) d. MayTry blocks start d report.status (bytes_in report.text)) asks
    made gave.so) r))

-- of what they are asked by what the texts say, for these bytes
abbrev AsksTrial : ℕ → ℕ → (Input → AnswerParts → Type 0) → List ℕ → Input → Type 0
AsksTrial blocks start Asks bytes d = TellsTrial blocks start d.problem (Asks d) bytes

-- the same at the end of reading them
abbrev AsksAtEnd : ℕ → ℕ → (Input → AnswerParts → Type 0) → Type 0 → End Input → List ℕ → Type 0
AsksAtEnd blocks start Asks nobody end bytes = AsksAt (AsksTrial blocks start Asks bytes) nobody end

-- the advisors are asked by the end of the texts of the trial
pub trial_asked : (Given : List Taken → Type 0) (blocks start : ℕ) (trial : TrialTexts) (names : InputFiles)
    (made : Result Report Stop) (result : Result Report OutOfMemory) (Fits : Report → Input → Type 0)
    (Asks : Input → AnswerParts → Type 0) (nobody : Type 0) →
    ((came : List Taken) → Given came → AreTexts (named_trial_texts trial) came) →
    names ≡ trial_files trial → trial ≡ made_trial blocks start →
    Gave Given (λ came. IsReadAs (outcome AsRequested names) came
    (λ report d. Fits report d × TellsTrial blocks start d.problem (Asks d) (bytes_in report.text)) made) →
    IfErr made (λ stop. (stop ≡ stops.OutOfMemory) ⊎ nobody) → ReportsAny made result →
    IfOk result (λ report. AsksAt (λ d. TellsTrial blocks start d.problem (Asks d) (bytes_in report.text)) nobody (trial_end (made_trial blocks start)))
unfolding trial_end
trial_asked Given blocks start trial names made result Fits Asks nobody are named is gave stopped r =
    let m : Reading Input = outcome AsRequested names in
    let texts = named_trial_texts trial in
    let here : IfOk result (λ report. AsksAtEnd blocks start Asks nobody (end_of_reading texts m) (bytes_in report.text)) =
    asked_of_report made result (AsksAtEnd blocks start Asks nobody (end_of_reading texts m)) r
    (either (asks_one m gave.came Fits (AsksTrial blocks start Asks) nobody made gave.so stopped)) in
    subst (λ (c : TrialTexts). IfOk result (λ report.
    AsksAtEnd blocks start Asks nobody (end_of_reading (named_trial_texts c) (outcome AsRequested (trial_files c))) (bytes_in report.text))) is
    (subst (λ (n : InputFiles). IfOk result
    (λ report. AsksAtEnd blocks start Asks nobody (end_of_reading texts (outcome AsRequested n)) (bytes_in report.text))) named here)
  where
    either : (made ≡ Err stops.OutOfMemory) ⊎ ((bytes : List ℕ) → IsMadeText made bytes → (one : End Input) →
        ((end : End Input) → EndsAs (outcome AsRequested names) gave.came end → end ≡ one) → AsksAtEnd blocks start Asks nobody one bytes) →
        (made ≡ Err stops.OutOfMemory) ⊎ ((bytes : List ℕ) → IsMadeText made bytes →
        AsksAtEnd blocks start Asks nobody (end_of_reading (named_trial_texts trial) (outcome AsRequested names)) bytes)
    either (inl wanting) = inl wanting
    either (inr asked) = inr (λ bytes text. asked bytes text (end_of_reading (named_trial_texts trial) (outcome AsRequested names))
        (λ end ends. sym (ends_on (named_trial_texts trial) (outcome AsRequested names) gave.came end ends
        (are gave.came gave.given).told (are gave.came gave.given).sure)))

-- The text by the answer.

-- with best costs
pub best_text : (blocks start : ℕ) (p : DesignProblem) (a : AnswerParts) (k : ℕ) (lines : List CostLine) (result : Result Report OutOfMemory) →
    a.verdict ≡ Optimal k → lines ≡ lines_in a.costs →
    IfOk result (Reports status.Done (summary_line blocks start (codes "optimal") (decimal k) (decimal (sum (costs_given p lines))))) →
    IfOk result (λ report. bytes_in report.text ≡ trial_text blocks start p a a.verdict)
best_text blocks start p a k lines result is are made =
    IfOk-weaker result _ _
    (λ report r. r.text
    ∙ ap (λ (ls : List CostLine). summary_line blocks start (codes "optimal") (decimal k) (decimal (sum (costs_given p ls)))) are
    ∙ ap (λ (v : Verdict). trial_text blocks start p a v) (sym is))
    made

-- without
pub costless_text : (blocks start : ℕ) (p : DesignProblem) (a : AnswerParts) (v : Verdict) (s : Status) (result : Result Report OutOfMemory) →
    a.verdict ≡ v → IfOk result (Reports s (trial_text blocks start p a v)) →
    IfOk result (λ report. bytes_in report.text ≡ trial_text blocks start p a a.verdict)
costless_text blocks start p a v s result is made =
    IfOk-weaker result _ _ (λ report r. r.text ∙ ap (λ (w : Verdict). trial_text blocks start p a w) (sym is)) made
