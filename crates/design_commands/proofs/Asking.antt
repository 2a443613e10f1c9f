-- What is made of files, and of what the advisors are asked besides.
use Rattle.std.proofs.Common.{◌≡◌, ℕ, ◌⊎◌, refl, ap, sym, subst, inl, inr, List, [], Result, Ok, Err}
use Rattle.std.specs.Prelude.{IfErr, IfOk}
use Rattle.cost_base.specs.declared.OutOfMemory.{OutOfMemory}
use Rattle.cost_base.specs.Histories.{Taken}
use Rattle.design_problem.specs.Problems.{DesignProblem}
use Rattle.design_problem.specs.Answers.{AnswerParts}
use Rattle.design_problem.specs.declared.tree.Entry.{Entry}
use Rattle.cut_advisors.specs.declared.candidate.Candidate.{Candidate}
use Rattle.least_bound.specs.AdvisorsAsked.{IsAskedAnswering}
use Rattle.wide_fraction.specs.SearchLimits.{SearchLimits}
use Rattle.input_files.specs.declared.stop.Stop.{Stop}
use Rattle.input_files.specs.declared.stop.Stop.TheVariants as stops
use Rattle.input_files.specs.Readings.{Reading, End, Says, Faulty, Failed, EndsAs}
use Rattle.input_files.specs.Stops.{IsReadAs, refusal_in}
use Rattle.report_writer.specs.declared.report.Report.{Report}
use Rattle.report_writer.specs.Reports.{ReportsAny, bytes_in}
use Rattle.design_commands.specs.AdvisorsAsked.{AsksAt, IsMadeText}

-- asked of the same problem, within the same limits
pub same_asked : {A : Type 0} (IsItself : A → A → Type 0) (state : A → List ℕ) (would : A → List ℕ → List Candidate → ℕ)
    (left : A → List ℕ → List Candidate → List ℕ) (after : A → List ℕ → Entry → List ℕ) (p q : DesignProblem) (limits other : SearchLimits)
    (old new : List A) (a : AnswerParts) → q ≡ p → limits ≡ other →
    IsAskedAnswering IsItself state would left after p limits.top limits.nodes old new a →
    IsAskedAnswering IsItself state would left after q other.top other.nodes old new a
same_asked IsItself state would left after p q limits other old new a same within asked =
    subst (λ (r : DesignProblem). IsAskedAnswering IsItself state would left after r other.top other.nodes old new a) (sym same)
    (subst (λ (b : SearchLimits). IsAskedAnswering IsItself state would left after p b.top b.nodes old new a) within asked)

-- what is made of what the files say, alone
pub read_alone : {A : Type 0} (m : Reading A) (came : List Taken) (Fits asks : Report → A → Type 0) (made : Result Report Stop) →
    IsReadAs m came (λ t x. Fits t x × asks t x) made → IsReadAs m came Fits made
read_alone m came Fits asks (Ok made) h = record { said = h.said; ends = h.ends; fits = h.fits.0 }
read_alone m came Fits asks (Err stop) h = h

-- where nobody is asked once a file stopped it, the advisors are asked by the one end that the reading has, and for
-- what is printed
pub asks_one : {A : Type 0} (m : Reading A) (came : List Taken) (Fits : Report → A → Type 0) (asks : List ℕ → A → Type 0) (nobody : Type 0)
    (made : Result Report Stop) → IsReadAs m came (λ report x. Fits report x × asks (bytes_in report.text) x) made →
    IfErr made (λ stop. (stop ≡ stops.OutOfMemory) ⊎ nobody) →
    (made ≡ Err stops.OutOfMemory) ⊎ ((bytes : List ℕ) → IsMadeText made bytes → (one : End A) →
    ((end : End A) → EndsAs m came end → end ≡ one) → AsksAt (asks bytes) nobody one)
asks_one {A} m came Fits asks nobody (Ok made) h stopped =
    inr (λ bytes is one only. subst (λ (e : End A). AsksAt (asks bytes) nobody e) (only (Says h.said) h.ends)
    (subst (λ (bs : List ℕ). asks bs h.said) (sym is) h.fits.1))
asks_one m came Fits asks nobody (Err (stops.Refused number file line)) h (inl wanting) = absurd (cc)
asks_one {A} m came Fits asks nobody (Err (stops.Refused number file line)) h (inr same) =
    inr (λ bytes is one only. subst (λ (e : End A). AsksAt (asks bytes) nobody e) (only (Faulty (refusal_in number file line)) h) same)
asks_one m came Fits asks nobody (Err (stops.ReadFault file)) h (inl wanting) = absurd (cc)
asks_one {A} m came Fits asks nobody (Err (stops.ReadFault file)) h (inr same) =
    inr (λ bytes is one only. subst (λ (e : End A). AsksAt (asks bytes) nobody e) (only (Failed file.now) h) same)
asks_one m came Fits asks nobody (Err stops.OutOfMemory) h stopped = inl refl

-- the bytes of a report that was made, in place of none
abbrev text_of : Result Report OutOfMemory → List ℕ
text_of (Ok report) = bytes_in report.text
text_of (Err e) = []

-- the advisors were asked so for the report of what was made
pub asked_of_report : (made : Result Report Stop) (result : Result Report OutOfMemory) (asked : List ℕ → Type 0) → ReportsAny made result →
    (made ≡ Err stops.OutOfMemory) ⊎ ((bytes : List ℕ) → IsMadeText made bytes → asked bytes) →
    IfOk result (λ report. asked (bytes_in report.text))
asked_of_report made (Err e) asked r how = tt
asked_of_report made (Ok report) asked r (inl wanting) = absurd (subst (λ (m : Result Report Stop). ReportsAny m (Ok report)) wanting r)
asked_of_report (Ok made) (Ok report) asked r (inr asks) = asks (bytes_in report.text) (ap text_of r)
asked_of_report (Err stop) (Ok report) asked r (inr asks) = asks (bytes_in report.text) tt
