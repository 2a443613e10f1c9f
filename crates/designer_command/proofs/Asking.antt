-- By which searches commands ask the advisors.
use Rattle.std.proofs.Common.{◌≡◌, ℕ, ◌⊎◌, refl, sym, ap, subst, inl, inr, List, []}
use Rattle.std.specs.Prelude.{Option, None, Some, Result, Ok, Err, IfErr, IfOk}
use Rattle.cost_base.specs.declared.OutOfMemory.{OutOfMemory}
use Rattle.cost_base.specs.declared.Status.{Status}
use Rattle.cost_base.specs.declared.Status.TheVariants as status
use Rattle.cost_base.specs.Outside.{GotAll}
use Rattle.cost_base.specs.Histories.{Taken, AreTold, CountsFailures}
use Rattle.command_words.specs.declared.job.Job.{Job}
use Rattle.command_words.specs.Commands.{job_of}
use Rattle.command_words.specs.Jobs.{JobRead, seen}
use Rattle.command_words.specs.Jobs as read
use Rattle.input_files.specs.declared.problem.View.TheVariants.{AsRequested}
use Rattle.input_files.specs.declared.stop.Stop.{Stop}
use Rattle.input_files.specs.declared.stop.Stop.TheVariants as stops
use Rattle.input_files.specs.Inputs.{InputFiles}
use Rattle.input_files.specs.Outcomes.{Input, outcome}
use Rattle.input_files.specs.Readings.{Gave, End, EndsAs}
use Rattle.input_files.specs.Stops.{IsReadAs}
use Rattle.input_files.proofs.Readings.{one_end}
use Rattle.report_writer.specs.declared.report.Report.{Report}
use Rattle.report_writer.specs.Reports.{IsWritten, Reports, ReportsAny, bytes_in}
use Rattle.report_writer.proofs.ReportLaws.{may_report}
use Rattle.design_commands.specs.AdvisorsAsked.{AsksAt, IsMadeText}
use Rattle.design_commands.proofs.Asking.{asked_of_report, asks_one, read_alone}
use Rattle.designer_command.specs.AdvisorsAsked.{IsMadeAsking}
use Rattle.designer_command.specs.Runs.{IsMadeAs, IsTried, MayReport, MayWant, MayWrite, MayWriteAsking, RunMeets, Writes}
use Rattle.designer_command.specs.Usage.{usage}
use Rattle.designer_command.proofs.Runs.{WritesNone, done_after, wanting_after, writes_none, written_meets}

-- a job with these words makes what a command without advisors does
pub job_made : (Given : List Taken → Type 0) (Asked : Option JobRead → List Taken → List ℕ → Type 0) (job : Job) (said : JobRead)
    (made : Result Report Stop) → seen job ≡ said → ((came : List Taken) (bytes : List ℕ) → Asked (Some said) came bytes) →
    Gave Given (λ came. IsMadeAs said came made) → Gave Given (λ came. IsMadeAsking Asked (seen job) came made)
job_made Given Asked job said made is asked a =
    subst (λ (j : JobRead). Gave Given (λ came. IsMadeAsking Asked j came made)) (sym is)
    (record { came = a.came; given = a.given; so = record { is_made = a.so; asked = inr (λ bytes text. asked a.came bytes) } })

-- the same of a command that asks the advisors of what it read
pub search_made : (Given : List Taken → Type 0) (Asked : Option JobRead → List Taken → List ℕ → Type 0) (job : Job) (said : JobRead)
    (may : Input → Status → List ℕ → Type 0) (asks : List ℕ → Input → Type 0) (nobody : Type 0) (made : Result Report Stop)
    (names other : InputFiles) → seen job ≡ said → names ≡ other →
    Gave Given (λ came. IsReadAs (outcome AsRequested names) came
    (λ report d. may d report.status (bytes_in report.text) × asks (bytes_in report.text) d) made) →
    IfErr made (λ stop. (stop ≡ stops.OutOfMemory) ⊎ nobody) →
    ((came : List Taken) → IsReadAs (outcome AsRequested other) came (MayReport may) made → IsMadeAs said came made) →
    ((came : List Taken) (bytes : List ℕ) → ((end : End Input) → EndsAs (outcome AsRequested other) came end → AsksAt (asks bytes) nobody end) →
    Asked (Some said) came bytes) →
    Gave Given (λ came. IsMadeAsking Asked (seen job) came made)
search_made Given Asked job said may asks nobody made names other is same a stopped makes asked =
    subst (λ (j : JobRead). Gave Given (λ came. IsMadeAsking Asked j came made)) (sym is)
    (record {
      came = a.came;
      given = a.given;
      so = record { is_made = makes a.came here; asked = either (asks_one _ a.came (MayReport may) asks nobody made there stopped) };
    })
  where
    there : IsReadAs (outcome AsRequested other) a.came
        (λ (report : Report) d. may d report.status (bytes_in report.text) × asks (bytes_in report.text) d) made
    there = subst (λ (n : InputFiles). IsReadAs (outcome AsRequested n) a.came
        (λ (report : Report) d. may d report.status (bytes_in report.text) × asks (bytes_in report.text) d) made)
        same a.so

    here : IsReadAs (outcome AsRequested other) a.came (MayReport may) made
    here = read_alone (outcome AsRequested other) a.came (MayReport may) (λ report. asks (bytes_in report.text)) made there

    either : (made ≡ Err stops.OutOfMemory) ⊎ ((bytes : List ℕ) → IsMadeText made bytes → (one : End Input) →
        ((end : End Input) → EndsAs (outcome AsRequested other) a.came end → end ≡ one) → AsksAt (asks bytes) nobody one) →
        (made ≡ Err stops.OutOfMemory) ⊎ ((bytes : List ℕ) → IsMadeText made bytes → Asked (Some said) a.came bytes)
    either (inl wanting) = inl wanting
    either (inr h) = inr (λ bytes text. asked a.came bytes
        (λ end ends. h bytes text end (λ other_end so. one_end (outcome AsRequested other) a.came other_end end so ends)))

-- the same of a trial, where it writes this
pub trial_made : (Given : List Taken → Type 0) (Asked : Option JobRead → List Taken → List ℕ → Type 0) (job : Job) (blocks start : ℕ)
    (made : Result Report Stop) → seen job ≡ read.Trial blocks start → Given [] → IsTried blocks start made →
    IfOk made (λ report. Asked (Some (read.Trial blocks start)) [] (bytes_in report.text)) →
    Gave Given (λ came. IsMadeAsking Asked (seen job) came made)
trial_made Given Asked job blocks start made is given tried asked =
    subst (λ (j : JobRead). Gave Given (λ came. IsMadeAsking Asked j came made)) (sym is)
    (record { came = []; given = given; so = record { is_made = (refl, tried); asked = by_made made tried asked } })
  where
    by_made : (m : Result Report Stop) → IsTried blocks start m → IfOk m (λ report. Asked (Some (read.Trial blocks start)) [] (bytes_in report.text)) →
        (m ≡ Err stops.OutOfMemory) ⊎ ((bytes : List ℕ) → IsMadeText m bytes → Asked (Some (read.Trial blocks start)) [] bytes)
    by_made (Ok report) done asks = inr (λ bytes text. subst (λ (bs : List ℕ). Asked (Some (read.Trial blocks start)) [] bs) (sym text) asks)
    by_made (Err stop) done asks = inl (ap (λ (s : Stop). Err s) done)

-- a job's report may be written, and the advisors were asked so for it; what came begins what the words ask for
pub record IsDoneAsking (Asked : Option JobRead → List Taken → List ℕ → Type 0) (job : JobRead) (came : List Taken) (result : Result Report OutOfMemory) : Type
    0 where
  pub done : IfOk result (λ report. MayWriteAsking (MayWrite (Some job) came) (Asked (Some job) came) report.status (bytes_in report.text))
  pub begun : MayWant (Some job) came

-- a report that may be written, and for which the advisors were asked so
may_asking : (result : Result Report OutOfMemory) (may : Status → List ℕ → Type 0) (asked : List ℕ → Type 0) →
    IfOk result (λ report. may report.status (bytes_in report.text)) → IfOk result (λ report. asked (bytes_in report.text)) →
    IfOk result (λ report. MayWriteAsking may asked report.status (bytes_in report.text))
may_asking (Ok report) may asked done asks = (done, asks)
may_asking (Err e) may asked done asks = tt

pub job_done : (Given : List Taken → Type 0) (Asked : Option JobRead → List Taken → List ℕ → Type 0) (job : JobRead) (made : Result Report Stop)
    (result : Result Report OutOfMemory) → Gave Given (λ came. IsMadeAsking Asked job came made) → ReportsAny made result →
    Gave Given (λ came. IsDoneAsking Asked job came result)
job_done Given Asked job made result a r = record {
  came = a.came;
  given = a.given;
  so = record {
    done = may_asking result (MayWrite (Some job) a.came) (Asked (Some job) a.came) (done_after job a.came made result a.so.is_made r)
        (asked_of_report made result (Asked (Some job) a.came) r a.so.asked);
    begun = wanting_after job a.came made a.so.is_made;
  };
}

-- also where the advisors were asked, no whole text goes with a fault of writing or with want of memory
pub asking_none : (may : Status → List ℕ → Type 0) (asked : List ℕ → Type 0) → WritesNone may → WritesNone (MayWriteAsking may asked)
asking_none may asked none = (λ bytes h. none.0 bytes h.0, λ bytes h. none.1 bytes h.0)

-- a run of words by the job that they ask for
pub run_meets : (words : List (List ℕ)) (Asked : Option JobRead → List Taken → List ℕ → Type 0) (gave : List Taken → Type 0)
    (held : List ℕ → Option (List ℕ)) (before now : List ℕ → ℕ) (handed : List ℕ → Type 0) (got_before got_now : Option (List ℕ))
    (count_before count_now : ℕ) (end : Status) (job : Option JobRead) (came : List Taken) → job_of words ≡ job →
    gave came → AreTold held came → CountsFailures before now came →
    Writes (MayWriteAsking (MayWrite job came) (Asked job came)) handed got_before got_now count_before count_now end → MayWant job came →
    RunMeets words Asked gave held before now handed got_before got_now count_before count_now end
run_meets words Asked gave held before now handed got_before got_now count_before count_now end job came is given told counted written begun =
    record {
      came = came;
      given = given;
      told = told;
      counted = counted;
      written = subst (λ (j : Option JobRead).
          Writes (MayWriteAsking (MayWrite j came) (Asked j came)) handed got_before got_now count_before count_now end) (sym is) written;
      begun = λ wanting. subst (λ (j : Option JobRead). MayWant j came) (sym is) begun;
    }

-- a run of refused words writes the usage, and asks nobody
pub refused_meets : (words : List (List ℕ)) (Asked : Option JobRead → List Taken → List ℕ → Type 0) (gave : List Taken → Type 0)
    (held : List ℕ → Option (List ℕ)) (before now : List ℕ → ℕ) (handed : List ℕ → Type 0) (got_before got_now : Option (List ℕ))
    (count_before count_now : ℕ) (report : Report) (end : Status) → job_of words ≡ None → gave [] → CountsFailures before now [] →
    ((some : List ℕ) → handed some → GotAll got_before got_now some) → Reports status.WordsRefused usage report →
    IsWritten report.status (bytes_in report.text) handed count_before count_now end → Asked None [] usage →
    RunMeets words Asked gave held before now handed got_before got_now count_before count_now end
refused_meets words Asked gave held before now handed got_before got_now count_before count_now report end none given counted got is written asked =
    let may : Status → List ℕ → Type 0 = MayWriteAsking (MayWrite None []) (Asked None []) in
    run_meets words Asked gave held before now handed got_before got_now count_before count_now end None [] none given tt counted
    (written_meets may handed got_before got_now count_before count_now report.status (bytes_in report.text) end
    (asking_none (MayWrite None []) (Asked None []) (writes_none None [])) got
    (may_report may status.WordsRefused usage report is ((refl, refl), asked)) written)
    refl
