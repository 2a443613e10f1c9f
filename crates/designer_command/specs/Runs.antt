-- What a run may write, with the status that it ends with.
use Rattle.std.specs.Prelude.{◌≡◌, ℕ, List, [], take, Option, None, Some, Result, MatchResult}
use Rattle.cost_base.specs.declared.Status.{Status}
use Rattle.cost_base.specs.declared.Status.TheVariants.{Done, Impossible, Undecided, InputRefused, ReadFault, WriteFault, OutOfMemory, WordsRefused, EvidenceRefused}
use Rattle.cost_base.specs.Outside.{Rose, GotAll}
use Rattle.cost_base.specs.Histories.{Taken, AreTold, CountsFailures}
use Rattle.command_words.specs.Jobs.{JobRead, SearchRead, Design, Check, Audit, Rewrite, Trial, Conflict, Spread, Total, Change, Steps, Compare, Lsas, Route, Help, Version}
use Rattle.command_words.specs.Commands.{job_of}
use Rattle.input_files.specs.declared.problem.View.TheVariants.{AsRequested, BesidePresent, AtPresent}
use Rattle.input_files.specs.Inputs.{InputFiles}
use Rattle.input_files.specs.Readings.{InputRefusal, Reading, Says, Faulty, Failed, EndsAs, Begins}
use Rattle.input_files.specs.declared.stop.Stop.{Stop}
use Rattle.input_files.specs.declared.stop.Stop.TheVariants.{OutOfMemory as NoMemoryLeft}
use Rattle.input_files.specs.Stops.{IsReadAs}
use Rattle.input_files.specs.Outcomes.{outcome}
use Rattle.evidence_commands.specs.Checks.{MayCheck, claim_read}
use Rattle.evidence_commands.specs.Rewrites.{MayRewrite, revision_read}
use Rattle.database_commands.specs.Compares.{MayCompare, compare_read}
use Rattle.database_commands.specs.Lsas.{MayLsas, identified_read}
use Rattle.database_commands.specs.Routes.{MayRoute, route_read}
use Rattle.report_writer.specs.declared.report.Report.{Report}
use Rattle.report_writer.specs.Reports.{Reports, bytes_in}
use Rattle.report_writer.specs.Texts.{refused_line, read_fault_line}
use Rattle.path_commands.specs.Audits.{MayAudit}
use Rattle.path_commands.specs.Conflicts.{MayConflict}
use Rattle.path_commands.specs.LiveAudits.{MayAuditLive, live_audit_read}
use Rattle.path_commands.specs.SetFiles.{spread_read}
use Rattle.path_commands.specs.Spreads.{MaySpread}
use Rattle.change_commands.specs.Changes.{MayChange}
use Rattle.change_commands.specs.WantedMoves.{steps_read}
use Rattle.change_commands.specs.Steps.{MaySteps}
use Rattle.help_texts.specs.Texts.{help_text, version_text}
use Rattle.designer_command.specs.Usage.{usage}
use Rattle.design_commands.specs.Designs.{MayDesign}
use Rattle.design_commands.specs.Trials.{MayTrial}
use Rattle.design_commands.specs.TotalRuns.{MayTotal}

-- what came of the files says this, and the text is one that the command may write of that with this status
pub record OnSaid {A : Type 0} (reading : Reading A) (came : List Taken) (may : A → Status → List ℕ → Type 0) (status : Status) (bytes : List ℕ) : Type 0 where
  pub said : A
  pub ends : EndsAs reading came (Says said)
  pub allowed : may said status bytes

-- status 3, `InputRefused`: the line of the first fault of the files is written
pub record OnFault {A : Type 0} (reading : Reading A) (came : List Taken) (bytes : List ℕ) : Type 0 where
  pub fault : InputRefusal
  pub ends : EndsAs reading came (Faulty fault)
  pub written : bytes ≡ refused_line fault

-- status 4, `ReadFault`: the line of the file that failed is written
pub record OnFailure {A : Type 0} (reading : Reading A) (came : List Taken) (bytes : List ℕ) : Type 0 where
  pub file : List ℕ
  pub ends : EndsAs reading came (Failed file)
  pub written : bytes ≡ read_fault_line file

-- What a command that reads these files may write where this came of them.
abbrev pub MayAfter : {A : Type 0} → Reading A → (A → Status → List ℕ → Type 0) → List Taken → Status → List ℕ → Type 0
MayAfter reading may came InputRefused bytes = OnFault reading came bytes
MayAfter reading may came ReadFault bytes = OnFailure reading came bytes
MayAfter reading may came WriteFault bytes = ⊥
MayAfter reading may came OutOfMemory bytes = ⊥
MayAfter reading may came Done bytes = OnSaid reading came may Done bytes
MayAfter reading may came Impossible bytes = OnSaid reading came may Impossible bytes
MayAfter reading may came Undecided bytes = OnSaid reading came may Undecided bytes
MayAfter reading may came WordsRefused bytes = OnSaid reading came may WordsRefused bytes
MayAfter reading may came EvidenceRefused bytes = OnSaid reading came may EvidenceRefused bytes

-- what a run may write whose words are refused: the usage text, and no file is asked for
abbrev pub MayRefuse : List Taken → Status → List ℕ → Type 0
MayRefuse came WordsRefused bytes = (came ≡ []) × (bytes ≡ usage)
MayRefuse came status bytes = ⊥

-- what `help` or `version` may write: this text, which is always the same, and no file is asked for
abbrev pub MayTell : List ℕ → List Taken → Status → List ℕ → Type 0
MayTell text came Done bytes = (came ≡ []) × (bytes ≡ text)
MayTell text came status bytes = ⊥

-- a request file and configurations
abbrev pub input_files_of : List ℕ → List (List ℕ) → InputFiles
input_files_of request configs = record { request = request; configs = configs }

-- the files that a search is asked about
abbrev pub searched : SearchRead → InputFiles
searched s = input_files_of s.request s.configs

-- The whole text that a run writes with a status, where this came of its files.
abbrev pub MayWrite : Option JobRead → List Taken → Status → List ℕ → Type 0
MayWrite (Some (Design s)) came status bytes = MayAfter (outcome AsRequested (searched s)) (MayDesign s.limits) came status bytes
MayWrite (Some (Check request answer configs)) came status bytes = MayAfter (claim_read (input_files_of request configs) answer) MayCheck came status bytes
MayWrite (Some (Audit request None configs)) came status bytes = MayAfter (outcome AtPresent (input_files_of request configs)) MayAudit came status bytes
MayWrite (Some (Audit request (Some live) configs)) came status bytes =
    MayAfter (live_audit_read (input_files_of request configs) live) MayAuditLive came status bytes
MayWrite (Some (Rewrite answer config)) came status bytes = MayAfter (revision_read config answer) MayRewrite came status bytes
MayWrite (Some (Trial blocks start)) came status bytes = (came ≡ []) × MayTrial blocks start status bytes
MayWrite (Some (Conflict s)) came status bytes = MayAfter (outcome AsRequested (searched s)) (MayConflict s.limits) came status bytes
MayWrite (Some (Spread s sets)) came status bytes = MayAfter (spread_read (searched s) sets) (MaySpread s.limits) came status bytes
MayWrite (Some (Total s)) came status bytes = MayAfter (outcome AsRequested (searched s)) (MayTotal s.limits) came status bytes
MayWrite (Some (Change s)) came status bytes = MayAfter (outcome BesidePresent (searched s)) (MayChange s.limits) came status bytes
MayWrite (Some (Steps request answer nodes by configs)) came status bytes =
    MayAfter (steps_read (input_files_of request configs) answer) (MaySteps nodes by) came status bytes
MayWrite (Some (Compare live request configs)) came status bytes =
    MayAfter (compare_read (input_files_of request configs) live) MayCompare came status bytes
MayWrite (Some (Lsas request configs)) came status bytes = MayAfter (identified_read (input_files_of request configs)) MayLsas came status bytes
MayWrite (Some (Route lsas from to)) came status bytes = MayAfter (route_read lsas from to) (MayRoute from to) came status bytes
MayWrite (Some (Help topic)) came status bytes = MayTell (help_text topic) came status bytes
MayWrite (Some Version) came status bytes = MayTell version_text came status bytes
MayWrite None came status bytes = MayRefuse came status bytes

-- a report has a status and a text that a command may write of what its files say
abbrev pub MayReport : {A : Type 0} → (A → Status → List ℕ → Type 0) → Report → A → Type 0
MayReport may report said = may said report.status (bytes_in report.text)

-- what a trial of so many blocks and this start makes: a report of what it may write; only want of memory stops it
abbrev pub IsTried : ℕ → ℕ → Result Report Stop → Type 0
IsTried blocks start made = MatchResult made (λ report. MayTrial blocks start report.status (bytes_in report.text)) (λ stop. stop ≡ NoMemoryLeft)

-- a report of this text, which nothing stops
abbrev pub IsTold : List ℕ → Result Report Stop → Type 0
IsTold text made = MatchResult made (Reports Done text) (λ stop. ⊥)

-- what the command of a job makes, a report or what stopped it, is as what came of its files says
abbrev pub IsMadeAs : JobRead → List Taken → Result Report Stop → Type 0
IsMadeAs (Design s) came made = IsReadAs (outcome AsRequested (searched s)) came (MayReport (MayDesign s.limits)) made
IsMadeAs (Check request answer configs) came made = IsReadAs (claim_read (input_files_of request configs) answer) came (MayReport MayCheck) made
IsMadeAs (Audit request None configs) came made = IsReadAs (outcome AtPresent (input_files_of request configs)) came (MayReport MayAudit) made
IsMadeAs (Audit request (Some live) configs) came made =
    IsReadAs (live_audit_read (input_files_of request configs) live) came (MayReport MayAuditLive) made
IsMadeAs (Rewrite answer config) came made = IsReadAs (revision_read config answer) came (MayReport MayRewrite) made
IsMadeAs (Trial blocks start) came made = (came ≡ []) × IsTried blocks start made
IsMadeAs (Conflict s) came made = IsReadAs (outcome AsRequested (searched s)) came (MayReport (MayConflict s.limits)) made
IsMadeAs (Spread s sets) came made = IsReadAs (spread_read (searched s) sets) came (MayReport (MaySpread s.limits)) made
IsMadeAs (Total s) came made = IsReadAs (outcome AsRequested (searched s)) came (MayReport (MayTotal s.limits)) made
IsMadeAs (Change s) came made = IsReadAs (outcome BesidePresent (searched s)) came (MayReport (MayChange s.limits)) made
IsMadeAs (Steps request answer nodes by configs) came made =
    IsReadAs (steps_read (input_files_of request configs) answer) came (MayReport (MaySteps nodes by)) made
IsMadeAs (Compare live request configs) came made =
    IsReadAs (compare_read (input_files_of request configs) live) came (MayReport MayCompare) made
IsMadeAs (Lsas request configs) came made = IsReadAs (identified_read (input_files_of request configs)) came (MayReport MayLsas) made
IsMadeAs (Route lsas from to) came made = IsReadAs (route_read lsas from to) came (MayReport (MayRoute from to)) made
IsMadeAs (Help topic) came made = (came ≡ []) × IsTold (help_text topic) made
IsMadeAs Version came made = (came ≡ []) × IsTold version_text made

-- Where memory was wanting, what came is a beginning of what the words ask for; of no file where they ask for none.
abbrev pub MayWant : Option JobRead → List Taken → Type 0
MayWant (Some (Design s)) came = Begins (outcome AsRequested (searched s)) came
MayWant (Some (Check request answer configs)) came = Begins (claim_read (input_files_of request configs) answer) came
MayWant (Some (Audit request None configs)) came = Begins (outcome AtPresent (input_files_of request configs)) came
MayWant (Some (Audit request (Some live) configs)) came = Begins (live_audit_read (input_files_of request configs) live) came
MayWant (Some (Rewrite answer config)) came = Begins (revision_read config answer) came
MayWant (Some (Trial blocks start)) came = came ≡ []
MayWant (Some (Conflict s)) came = Begins (outcome AsRequested (searched s)) came
MayWant (Some (Spread s sets)) came = Begins (spread_read (searched s) sets) came
MayWant (Some (Total s)) came = Begins (outcome AsRequested (searched s)) came
MayWant (Some (Change s)) came = Begins (outcome BesidePresent (searched s)) came
MayWant (Some (Steps request answer nodes by configs)) came = Begins (steps_read (input_files_of request configs) answer) came
MayWant (Some (Compare live request configs)) came = Begins (compare_read (input_files_of request configs) live) came
MayWant (Some (Lsas request configs)) came = Begins (identified_read (input_files_of request configs)) came
MayWant (Some (Route lsas from to)) came = Begins (route_read lsas from to) came
MayWant (Some (Help topic)) came = came ≡ []
MayWant (Some Version) came = came ≡ []
MayWant None came = came ≡ []

-- the sink was handed the whole of a text that may be written, and no more
pub record WritesAll (may : Status → List ℕ → Type 0) (handed : List ℕ → Type 0) (got_before got_now : Option (List ℕ)) (status : Status) : Type 0 where
  pub bytes : List ℕ
  pub allowed : may status bytes
  pub written : handed bytes
  pub whole : GotAll got_before got_now bytes

-- the sink's count of faults rose, and it was handed a prefix of a text that may be written
pub record WritesPart (may : Status → List ℕ → Type 0) (handed : List ℕ → Type 0) (got_before got_now : Option (List ℕ))
    (count_before count_now : ℕ) : Type 0 where
  pub status : Status
  pub bytes : List ℕ
  pub allowed : may status bytes
  pub length : ℕ
  pub written : handed (take length bytes)
  pub part : GotAll got_before got_now (take length bytes)
  pub cause : Rose count_before count_now

-- the sink was handed nothing
pub record WritesNothing (handed : List ℕ → Type 0) (got_before got_now : Option (List ℕ)) : Type 0 where
  pub written : handed []
  pub same : got_now ≡ got_before

-- How a run ends of which it is known what it may write: `handed` tells what the sink was handed, and it got that where
-- it tells its bytes.
abbrev pub Writes : (Status → List ℕ → Type 0) → (List ℕ → Type 0) → Option (List ℕ) → Option (List ℕ) → ℕ → ℕ → Status → Type 0
Writes may handed got_before got_now count_before count_now WriteFault = WritesPart may handed got_before got_now count_before count_now
Writes may handed got_before got_now count_before count_now OutOfMemory = WritesNothing handed got_before got_now
Writes may handed got_before got_now count_before count_now Done = WritesAll may handed got_before got_now Done
Writes may handed got_before got_now count_before count_now Impossible = WritesAll may handed got_before got_now Impossible
Writes may handed got_before got_now count_before count_now Undecided = WritesAll may handed got_before got_now Undecided
Writes may handed got_before got_now count_before count_now InputRefused = WritesAll may handed got_before got_now InputRefused
Writes may handed got_before got_now count_before count_now ReadFault = WritesAll may handed got_before got_now ReadFault
Writes may handed got_before got_now count_before count_now WordsRefused = WritesAll may handed got_before got_now WordsRefused
Writes may handed got_before got_now count_before count_now EvidenceRefused = WritesAll may handed got_before got_now EvidenceRefused

-- a text that may be written, and for which the advisors were asked as the second tells
abbrev pub MayWriteAsking : (Status → List ℕ → Type 0) → (List ℕ → Type 0) → Status → List ℕ → Type 0
MayWriteAsking may asked status bytes = may status bytes × asked bytes

-- A run of these words: this came of the files that the shelf was asked for, true to what it holds and to its counts of
-- faults, and what was written is right for that. `Asked` tells by which searches of what came a job asks the advisors
-- before it writes these bytes.
pub record RunMeets (words : List (List ℕ)) (Asked : Option JobRead → List Taken → List ℕ → Type 0) (gave : List Taken → Type 0)
    (held : List ℕ → Option (List ℕ))
    (before now : List ℕ → ℕ) (handed : List ℕ → Type 0) (got_before got_now : Option (List ℕ))
    (count_before count_now : ℕ) (status : Status) : Type 0 where
  pub came : List Taken
  pub given : gave came
  pub told : AreTold held came
  pub counted : CountsFailures before now came
  pub written : Writes (MayWriteAsking (MayWrite (job_of words) came) (Asked (job_of words) came)) handed got_before got_now count_before count_now status
  pub begun : status ≡ OutOfMemory → MayWant (job_of words) came
