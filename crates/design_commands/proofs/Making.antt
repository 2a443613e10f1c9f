-- What was made of what was read, or the stop of want of memory.
use Rattle.std.proofs.Common.{◌≡◌, ◌⊎◌, ℕ, refl, sym, subst, inl, List, Result, Ok, Err}
use Rattle.std.specs.Prelude.{IfErr, IfOk}
use Rattle.cost_base.specs.declared.OutOfMemory.{OutOfMemory}
use Rattle.cost_base.specs.Histories.{Taken}
use Rattle.design_problem.specs.Problems.{DesignProblem}
use Rattle.design_problem.specs.Answers.{AnswerParts}
use Rattle.wide_fraction.specs.SearchLimits.{SearchLimits}
use Rattle.input_files.specs.declared.stop.Stop.{Stop}
use Rattle.input_files.specs.declared.stop.Stop.TheVariants as stops
use Rattle.input_files.specs.Readings.{Reading, Gave}
use Rattle.input_files.specs.Stops.{IsReadAs, IsReadAndMade}
use Rattle.input_files.specs.Outcomes.{Input}
use Rattle.input_files.proofs.Stops.{gave_wanting}
use Rattle.report_writer.specs.declared.report.Report.{Report}
use Rattle.report_writer.specs.Reports.{bytes_in}
use Rattle.design_commands.specs.Designs.{IsAnswerTo}
use Rattle.design_commands.specs.Made.{ReportsAnswer, ReportsTrial, or_stop}
use Rattle.design_commands.specs.Trials.{MayTry, trial_limits, trial_text}

-- the files were read, and of what was read a report was made
pub gave_made_of : {A T : Type 0} (Given : List Taken → Type 0) (m : Reading A) (Read : T → A → Type 0) (read : T)
    (made : Result Report OutOfMemory) (result : Result Report Stop) (P : Report → Type 0) (Fits : Report → A → Type 0) →
    Gave Given (λ came. IsReadAndMade m came Read read) → IfOk made P → result ≡ or_stop made →
    ((report : Report) → P report → Gave Given (λ came. IsReadAndMade m came Fits report)) →
    Gave Given (λ came. IsReadAs m came Fits result)
gave_made_of Given m Read read (Ok report) result P Fits gave so is fits =
    subst (λ (r : Result Report Stop). Gave Given (λ came. IsReadAs m came Fits r)) (sym is) (fits report so)
gave_made_of Given m Read read (Err e) result P Fits gave so is fits =
    subst (λ (r : Result Report Stop). Gave Given (λ came. IsReadAs m came Fits r)) (sym is) (gave_wanting Given m Read read gave)

-- want of memory alone stops it
pub wanting_alone : (made : Result Report OutOfMemory) (result : Result Report Stop) (nobody : Type 0) → result ≡ or_stop made →
    IfErr result (λ stop. (stop ≡ stops.OutOfMemory) ⊎ nobody)
wanting_alone (Ok report) result nobody is = subst (λ (r : Result Report Stop). IfErr r (λ stop. (stop ≡ stops.OutOfMemory) ⊎ nobody)) (sym is) tt
wanting_alone (Err e) result nobody is =
    subst (λ (r : Result Report Stop). IfErr r (λ stop. (stop ≡ stops.OutOfMemory) ⊎ nobody)) (sym is) (inl refl)

-- the report of an answer
pub answered : (limits : SearchLimits) (p : DesignProblem) (Asks : AnswerParts → Type 0) (MadeOf : AnswerParts → Report → Type 0)
    (a : AnswerParts) (result : Result Report OutOfMemory) → IsAnswerTo limits p a → Asks a → IfOk result (MadeOf a) →
    IfOk result (ReportsAnswer limits p Asks MadeOf)
answered limits p Asks MadeOf a (Ok report) to asked made = record { answer = a; to = to; asked = asked; made = made }
answered limits p Asks MadeOf a (Err e) to asked made = tt

-- the report of a trial
pub trial_answered : (blocks start : ℕ) (p : DesignProblem) (Asks : AnswerParts → Type 0) (a : AnswerParts)
    (result : Result Report OutOfMemory) → IsAnswerTo trial_limits p a → Asks a →
    IfOk result (λ report. (d : Input) → d.problem ≡ p → MayTry blocks start d report.status (bytes_in report.text)) →
    IfOk result (λ report. bytes_in report.text ≡ trial_text blocks start p a a.verdict) →
    IfOk result (ReportsAnswer trial_limits p Asks (ReportsTrial blocks start p))
trial_answered blocks start p Asks a (Ok report) to asked tries text = record { answer = a; to = to; asked = asked; made = (tries, text) }
trial_answered blocks start p Asks a (Err e) to asked tries text = tt
