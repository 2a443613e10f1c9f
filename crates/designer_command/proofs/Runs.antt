-- How a run ends, by what it reports and what of that was put.
use Rattle.std.proofs.Common.{◌≡◌, ℕ, refl, sym, subst, List, [], inl, inr}
use Rattle.std.specs.Prelude.{Option, Result, Ok, Err, Some, None, IfOk, MatchResult, take}
use Rattle.cost_base.specs.declared.OutOfMemory.{OutOfMemory}
use Rattle.cost_base.specs.declared.Status.{Status}
use Rattle.cost_base.specs.declared.Status.TheVariants as status
use Rattle.cost_base.specs.Outside.{GotAll}
use Rattle.cost_base.specs.Histories.{Taken}
use Rattle.command_words.specs.declared.job.StepUnit.{StepUnit}
use Rattle.command_words.specs.Jobs.{JobRead, seen}
use Rattle.command_words.specs.Jobs as read
use Rattle.input_files.specs.declared.stop.Stop.{Stop}
use Rattle.input_files.specs.declared.stop.Stop.TheVariants as stops
use Rattle.input_files.specs.Readings.{Reading, Gave, End, Says, Faulty, Failed}
use Rattle.input_files.specs.Stops.{StopsAs, IsReadAs, refusal_in}
use Rattle.input_files.proofs.Stops.{read_begins}
use Rattle.report_writer.specs.declared.report.Report.{Report}
use Rattle.report_writer.specs.Reports.{Reports, ReportsStop, ReportsAny, IsWritten, bytes_in}
use Rattle.input_files.specs.Inputs.{InputFiles}
use Rattle.input_files.specs.Outcomes.{Input}
use Rattle.database_commands.specs.Compares.{MayCompare}
use Rattle.database_commands.specs.Lsas.{MayLsas}
use Rattle.database_commands.specs.Routes.{MayRoute}
use Rattle.path_commands.specs.Audits.{MayAudit}
use Rattle.path_commands.specs.Conflicts.{MayConflict}
use Rattle.path_commands.specs.LiveAudits.{MayAuditLive}
use Rattle.path_commands.specs.Spreads.{MaySpread}
use Rattle.evidence_commands.specs.Checks.{MayCheck}
use Rattle.evidence_commands.specs.Rewrites.{MayRewrite}
use Rattle.design_commands.specs.Designs.{MayDesign}
use Rattle.change_commands.specs.Changes.{MayChange}
use Rattle.change_commands.specs.WantedMoves.{steps_read}
use Rattle.change_commands.specs.Steps.{MaySteps}
use Rattle.design_commands.specs.TotalRuns.{MayTotal}
use Rattle.trial_maker.specs.TrialTexts.{made_trial}
use Rattle.design_commands.specs.Trials.{MayTryEnd, trial_end}
use Rattle.designer_command.specs.Runs.{IsMadeAs, IsTold, IsTried, OnSaid, MayAfter, MayReport, MayTell, MayWant, MayWrite, WritesNothing, WritesAll, Writes}
use Rattle.help_texts.specs.Texts.{help_text, version_text}
use Rattle.designer_command.proofs.OwnStatuses.{SaysItsOwn, own_audit, own_audit_live, own_change, own_check, own_compare, own_conflict, own_design, own_lsas, own_rewrite, own_route, own_spread, own_steps, own_total}

said_after : {A : Type 0} (reading : Reading A) (may : A → Status → List ℕ → Type 0) (came : List Taken) (s : Status)
    (bytes : List ℕ) → SaysItsOwn may → OnSaid reading came may s bytes → MayAfter reading may came s bytes
said_after reading may came status.Done bytes own h = h
said_after reading may came status.Impossible bytes own h = h
said_after reading may came status.Undecided bytes own h = h
said_after reading may came status.InputRefused bytes own h = absurd (own.refused h.said bytes h.allowed)
said_after reading may came status.ReadFault bytes own h = absurd (own.failed h.said bytes h.allowed)
said_after reading may came status.WriteFault bytes own h = absurd (own.unwritten h.said bytes h.allowed)
said_after reading may came status.OutOfMemory bytes own h = absurd (own.wanting h.said bytes h.allowed)
said_after reading may came status.WordsRefused bytes own h = h
said_after reading may came status.EvidenceRefused bytes own h = h

stop_after : {A : Type 0} (reading : Reading A) (may : A → Status → List ℕ → Type 0) (came : List Taken) (stop : Stop)
    (made : Result Report OutOfMemory) → StopsAs reading came stop → ReportsStop stop made →
    IfOk made (λ report. MayAfter reading may came report.status (bytes_in report.text))
stop_after reading may came stop (Err e) h r = tt
stop_after reading may came (stops.Refused number file line) (Ok report) h r =
    subst (λ (s : Status). MayAfter reading may came s (bytes_in report.text)) (sym r.status)
    (record { fault = refusal_in number file line; ends = h; written = r.text })
stop_after reading may came (stops.ReadFault file) (Ok report) h r =
    subst (λ (s : Status). MayAfter reading may came s (bytes_in report.text)) (sym r.status) (record { file = file.now; ends = h; written = r.text })
stop_after reading may came stops.OutOfMemory (Ok report) h r = absurd r

report_after : {A : Type 0} (reading : Reading A) (may : A → Status → List ℕ → Type 0) (came : List Taken)
    (made : Result Report Stop) (result : Result Report OutOfMemory) → SaysItsOwn may →
    IsReadAs reading came (λ report x. may x report.status (bytes_in report.text)) made → ReportsAny made result →
    IfOk result (λ report. MayAfter reading may came report.status (bytes_in report.text))
report_after reading may came (Ok report) result own h same =
    subst (λ (r : Result Report OutOfMemory). IfOk r (λ made. MayAfter reading may came made.status (bytes_in made.text))) (sym same)
    (said_after reading may came report.status (bytes_in report.text) own (record { said = h.said; ends = h.ends; allowed = h.fits }))
report_after reading may came (Err stop) result own h r = stop_after reading may came stop result h r

trial_after : (blocks start : ℕ) (came : List Taken) (made : Result Report Stop) (result : Result Report OutOfMemory) →
    (came ≡ []) × IsTried blocks start made → ReportsAny made result →
    IfOk result (λ report. MayWrite (Some (read.Trial blocks start)) came report.status (bytes_in report.text))
trial_after blocks start came (Ok report) result h same =
    subst (λ (r : Result Report OutOfMemory). IfOk r (λ made. MayWrite (Some (read.Trial blocks start)) came made.status (bytes_in made.text)))
    (sym same) (h.0, h.1)
trial_after blocks start came (Err stop) (Err e) h r = tt
trial_after blocks start came (Err stop) (Ok report) h r = absurd (subst (λ (s : Stop). ReportsStop s (Ok report)) h.1 r)

told_report : (text : List ℕ) (came : List Taken) (report : Report) → came ≡ [] → Reports status.Done text report →
    MayTell text came report.status (bytes_in report.text)
told_report text came report none told =
    subst (λ (s : Status). MayTell text came s (bytes_in report.text)) (sym told.status) (none, told.text)

told_after : (text : List ℕ) (came : List Taken) (made : Result Report Stop) (result : Result Report OutOfMemory) →
    (came ≡ []) × IsTold text made → ReportsAny made result →
    IfOk result (λ report. MayTell text came report.status (bytes_in report.text))
told_after text came (Ok report) result h same =
    subst (λ (r : Result Report OutOfMemory). IfOk r (λ made. MayTell text came made.status (bytes_in made.text))) (sym same)
    (told_report text came report h.0 h.1)
told_after text came (Err stop) result h r = absurd h.1

-- what the command of a job makes is, once it is a report, what the job may write
pub done_after : (job : JobRead) (came : List Taken) (made : Result Report Stop) (result : Result Report OutOfMemory) →
    IsMadeAs job came made → ReportsAny made result → IfOk result (λ report. MayWrite (Some job) came report.status (bytes_in report.text))
done_after (read.Design s) came made result h r = report_after _ (MayDesign s.limits) came made result (own_design s.limits) h r
done_after (read.Check request answer configs) came made result h r = report_after _ MayCheck came made result own_check h r
done_after (read.Audit request None configs) came made result h r = report_after _ MayAudit came made result own_audit h r
done_after (read.Audit request (Some live) configs) came made result h r = report_after _ MayAuditLive came made result own_audit_live h r
done_after (read.Rewrite answer config) came made result h r = report_after _ MayRewrite came made result own_rewrite h r
done_after (read.Trial blocks start) came made result h r = trial_after blocks start came made result h r
done_after (read.Conflict s) came made result h r = report_after _ (MayConflict s.limits) came made result (own_conflict s.limits) h r
done_after (read.Spread s sets) came made result h r = report_after _ (MaySpread s.limits) came made result (own_spread s.limits) h r
done_after (read.Total s) came made result h r = report_after _ (MayTotal s.limits) came made result (own_total s.limits) h r
done_after (read.Change s) came made result h r = report_after _ (MayChange s.limits) came made result (own_change s.limits) h r
done_after (read.Steps request answer nodes by configs) came made result h r =
    report_after _ (MaySteps nodes by) came made result (own_steps nodes by) h r
done_after (read.Compare live request configs) came made result h r = report_after _ MayCompare came made result own_compare h r
done_after (read.Lsas request configs) came made result h r = report_after _ MayLsas came made result own_lsas h r
done_after (read.Route lsas from to) came made result h r = report_after _ (MayRoute from to) came made result (own_route from to) h r
done_after (read.Help topic) came made result h r = told_after (help_text topic) came made result h r
done_after read.Version came made result h r = told_after version_text came made result h r

-- whatever it makes, what came begins what the words ask for
pub wanting_after : (job : JobRead) (came : List Taken) (made : Result Report Stop) → IsMadeAs job came made → MayWant (Some job) came
wanting_after (read.Design s) came made h = read_begins _ came _ made h
wanting_after (read.Check request answer configs) came made h = read_begins _ came _ made h
wanting_after (read.Audit request None configs) came made h = read_begins _ came _ made h
wanting_after (read.Audit request (Some live) configs) came made h = read_begins _ came _ made h
wanting_after (read.Rewrite answer config) came made h = read_begins _ came _ made h
wanting_after (read.Trial blocks start) came made h = h.0
wanting_after (read.Conflict s) came made h = read_begins _ came _ made h
wanting_after (read.Spread s sets) came made h = read_begins _ came _ made h
wanting_after (read.Total s) came made h = read_begins _ came _ made h
wanting_after (read.Change s) came made h = read_begins _ came _ made h
wanting_after (read.Steps request answer nodes by configs) came made h = read_begins _ came _ made h
wanting_after (read.Compare live request configs) came made h = read_begins _ came _ made h
wanting_after (read.Lsas request configs) came made h = read_begins _ came _ made h
wanting_after (read.Route lsas from to) came made h = read_begins _ came _ made h
wanting_after (read.Help topic) came made h = h.0
wanting_after read.Version came made h = h.0

-- no file was asked for
pub wants_none : (job : Option JobRead) → MayWant job []
wants_none None = refl
wants_none (Some (read.Design s)) = tt
wants_none (Some (read.Check request answer configs)) = tt
wants_none (Some (read.Audit request None configs)) = tt
wants_none (Some (read.Audit request (Some live) configs)) = tt
wants_none (Some (read.Rewrite answer config)) = tt
wants_none (Some (read.Trial blocks start)) = refl
wants_none (Some (read.Conflict s)) = tt
wants_none (Some (read.Spread s sets)) = tt
wants_none (Some (read.Total s)) = tt
wants_none (Some (read.Change s)) = tt
wants_none (Some (read.Steps request answer nodes by configs)) = tt
wants_none (Some (read.Compare live request configs)) = tt
wants_none (Some (read.Lsas request configs)) = tt
wants_none (Some (read.Route lsas from to)) = tt
wants_none (Some (read.Help topic)) = refl
wants_none (Some read.Version) = refl

-- files by another name make the same
pub files_made : {A : Type 0} (Given : List Taken → Type 0) (reading : InputFiles → Reading A) (may : A → Status → List ℕ → Type 0)
    (made : Result Report Stop) (names other : InputFiles) → names ≡ other →
    Gave Given (λ came. IsReadAs (reading names) came (MayReport may) made) → Gave Given (λ came. IsReadAs (reading other) came (MayReport may) made)
files_made Given reading may made names other same a =
    subst (λ (n : InputFiles). Gave Given (λ came. IsReadAs (reading n) came (MayReport may) made)) same a

-- so do steps by words that say the same
pub steps_made : (Given : List Taken → Type 0) (names other : InputFiles) (answer said : List ℕ) (nodes most : ℕ) (by step : StepUnit)
    (made : Result Report Stop) → names ≡ other → answer ≡ said → nodes ≡ most → by ≡ step →
    Gave Given (λ came. IsReadAs (steps_read names answer) came (MayReport (MaySteps nodes by)) made) →
    Gave Given (λ came. IsReadAs (steps_read other said) came (MayReport (MaySteps most step)) made)
steps_made Given names other answer said nodes most by step made named answered counted stepped a =
    subst (λ (s : StepUnit). Gave Given (λ came. IsReadAs (steps_read other said) came (MayReport (MaySteps most s)) made)) stepped
    (subst (λ (n : ℕ). Gave Given (λ came. IsReadAs (steps_read other said) came (MayReport (MaySteps n by)) made)) counted
    (subst (λ (bytes : List ℕ). Gave Given (λ came. IsReadAs (steps_read other bytes) came (MayReport (MaySteps nodes by)) made)) answered
    (files_made Given (λ files. steps_read files answer) (MaySteps nodes by) made names other named a)))

-- statuses with which no whole text is written
abbrev pub WritesNone : (Status → List ℕ → Type 0) → Type 0
WritesNone may = ((bytes : List ℕ) → may status.WriteFault bytes → ⊥) × ((bytes : List ℕ) → may status.OutOfMemory bytes → ⊥)

try_unwritten : (blocks start : ℕ) (end : End Input) (bytes : List ℕ) → MayTryEnd blocks start end status.WriteFault bytes → ⊥
try_unwritten blocks start (Says d) bytes h = h
try_unwritten blocks start (Faulty fault) bytes h = h
try_unwritten blocks start (Failed file) bytes h = h

try_wanting : (blocks start : ℕ) (end : End Input) (bytes : List ℕ) → MayTryEnd blocks start end status.OutOfMemory bytes → ⊥
try_wanting blocks start (Says d) bytes h = h
try_wanting blocks start (Faulty fault) bytes h = h
try_wanting blocks start (Failed file) bytes h = h

-- no whole text goes with a fault of writing or with want of memory
pub writes_none : (job : Option JobRead) (came : List Taken) → WritesNone (MayWrite job came)
writes_none None came = (λ bytes h. h, λ bytes h. h)
writes_none (Some (read.Design s)) came = (λ bytes h. h, λ bytes h. h)
writes_none (Some (read.Check request answer configs)) came = (λ bytes h. h, λ bytes h. h)
writes_none (Some (read.Audit request None configs)) came = (λ bytes h. h, λ bytes h. h)
writes_none (Some (read.Audit request (Some live) configs)) came = (λ bytes h. h, λ bytes h. h)
writes_none (Some (read.Rewrite answer config)) came = (λ bytes h. h, λ bytes h. h)
writes_none (Some (read.Trial blocks start)) came = (
  λ bytes h. try_unwritten blocks start (trial_end (made_trial blocks start)) bytes h.1,
  λ bytes h. try_wanting blocks start (trial_end (made_trial blocks start)) bytes h.1,
)
writes_none (Some (read.Conflict s)) came = (λ bytes h. h, λ bytes h. h)
writes_none (Some (read.Spread s sets)) came = (λ bytes h. h, λ bytes h. h)
writes_none (Some (read.Total s)) came = (λ bytes h. h, λ bytes h. h)
writes_none (Some (read.Change s)) came = (λ bytes h. h, λ bytes h. h)
writes_none (Some (read.Steps request answer nodes by configs)) came = (λ bytes h. h, λ bytes h. h)
writes_none (Some (read.Compare live request configs)) came = (λ bytes h. h, λ bytes h. h)
writes_none (Some (read.Lsas request configs)) came = (λ bytes h. h, λ bytes h. h)
writes_none (Some (read.Route lsas from to)) came = (λ bytes h. h, λ bytes h. h)
writes_none (Some (read.Help topic)) came = (λ bytes h. h, λ bytes h. h)
writes_none (Some read.Version) came = (λ bytes h. h, λ bytes h. h)

-- a text that may be written, written whole
whole_meets : (may : Status → List ℕ → Type 0) (handed : List ℕ → Type 0) (got_before got_now : Option (List ℕ))
    (count_before count_now : ℕ) (aim : Status) → WritesNone may →
    WritesAll may handed got_before got_now aim → Writes may handed got_before got_now count_before count_now aim
whole_meets may handed got_before got_now count_before count_now status.Done none h = h
whole_meets may handed got_before got_now count_before count_now status.Impossible none h = h
whole_meets may handed got_before got_now count_before count_now status.Undecided none h = h
whole_meets may handed got_before got_now count_before count_now status.InputRefused none h = h
whole_meets may handed got_before got_now count_before count_now status.ReadFault none h = h
whole_meets may handed got_before got_now count_before count_now status.WriteFault none h = absurd (none.0 h.bytes h.allowed)
whole_meets may handed got_before got_now count_before count_now status.OutOfMemory none h = absurd (none.1 h.bytes h.allowed)
whole_meets may handed got_before got_now count_before count_now status.WordsRefused none h = h
whole_meets may handed got_before got_now count_before count_now status.EvidenceRefused none h = h

-- what was put of a report that may be written ends a run
pub written_meets : (may : Status → List ℕ → Type 0) (handed : List ℕ → Type 0) (got_before got_now : Option (List ℕ))
    (count_before count_now : ℕ) (aim : Status) (bytes : List ℕ) (end : Status) → WritesNone may →
    ((some : List ℕ) → handed some → GotAll got_before got_now some) → may aim bytes →
    IsWritten aim bytes handed count_before count_now end →
    Writes may handed got_before got_now count_before count_now end
written_meets may handed got_before got_now count_before count_now aim bytes end none got allowed (inl h) =
    subst (λ (s : Status). Writes may handed got_before got_now count_before count_now s) (sym h.0)
    (whole_meets may handed got_before got_now count_before count_now aim none
    (record { bytes = bytes; allowed = allowed; written = h.1; whole = got bytes h.1 }))
written_meets may handed got_before got_now count_before count_now aim bytes end none got allowed (inr h) =
    subst (λ (s : Status). Writes may handed got_before got_now count_before count_now s) (sym h.0)
    (record { status = aim; bytes = bytes; allowed = allowed; length = h.1.0; written = h.1.1; part = got (take h.1.0 bytes) h.1.1; cause = h.2 })

-- a report that memory sufficed for, or not, ends a run
pub made_meets : (Same : Type 0) (may : Status → List ℕ → Type 0) (handed : List ℕ → Type 0)
    (got_before got_now : Option (List ℕ)) (count_before count_now : ℕ) (made : Result Report OutOfMemory)
    (end : Status) → WritesNone may →
    ((some : List ℕ) → handed some → GotAll got_before got_now some) →
    (Same → WritesNothing handed got_before got_now) →
    IfOk made (λ report. may report.status (bytes_in report.text)) →
    MatchResult made (λ report. IsWritten report.status (bytes_in report.text) handed count_before count_now end)
    (λ e. (end ≡ status.OutOfMemory) × Same) → Writes may handed got_before got_now count_before count_now end
made_meets Same may handed got_before got_now count_before count_now (Ok report) end none got same allowed h =
    written_meets may handed got_before got_now count_before count_now report.status (bytes_in report.text) end none got allowed h
made_meets Same may handed got_before got_now count_before count_now (Err e) end none got same allowed h =
    subst (λ (s : Status). Writes may handed got_before got_now count_before count_now s) (sym h.0) (same h.1)

-- an audit with the same live file, or without one, makes the same
pub audit_made : (Given : List Taken → Type 0) (request : List ℕ) (configs : List (List ℕ)) (live other : Option (List ℕ))
    (made : Result Report Stop) → live ≡ other → Gave Given (λ came. IsMadeAs (read.Audit request other configs) came made) →
    Gave Given (λ came. IsMadeAs (read.Audit request live configs) came made)
audit_made Given request configs live other made same a =
    subst (λ (o : Option (List ℕ)). Gave Given (λ came. IsMadeAs (read.Audit request o configs) came made)) (sym same) a
