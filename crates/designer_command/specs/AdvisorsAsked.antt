-- By which searches a run asks the advisors.
use Rattle.std.specs.Prelude.{◌≡◌, ◌⊎◌, ℕ, List, Option, Some, Result, Err}
use Rattle.cost_base.specs.Histories.{Taken}
use Rattle.command_words.specs.Jobs.{JobRead, Design, Trial, Conflict, Total}
use Rattle.cut_advisors.specs.declared.advisor.Advisor.{Ghosts}
use Rattle.least_bound.specs.AdvisorsAsked.{AreAskedAnswering}
use Rattle.least_conflict.specs.AdvisorsAsked.{AreAskedFinding}
use Rattle.input_files.specs.declared.problem.View.TheVariants.{AsRequested}
use Rattle.input_files.specs.declared.stop.Stop.{Stop}
use Rattle.input_files.specs.declared.stop.Stop.TheVariants.{OutOfMemory as NoMemoryLeft}
use Rattle.input_files.specs.Outcomes.{Input, outcome}
use Rattle.input_files.specs.Readings.{End, EndsAs}
use Rattle.report_writer.specs.declared.report.Report.{Report}
use Rattle.trial_maker.specs.TrialTexts.{made_trial}
use Rattle.design_commands.specs.AdvisorsAsked.{AsksAt, IsMadeText, TellsAnswer}
use Rattle.design_commands.specs.TotalRuns.{TellsTotal}
use Rattle.design_commands.specs.Trials.{TellsTrial, trial_end, trial_limits}
use Rattle.path_commands.specs.Conflicts.{TellsConflict}
use Rattle.designer_command.specs.Runs.{IsMadeAs, searched}

-- By which searches a command asks the advisors, where this came of its files and it writes these bytes: `design` and
-- `total` by one for each cap that settles the files' problem; `conflict` by one for each set of requests that settles
-- whether all are a conflict; `trial` as `design`, of its made texts. The bytes are the text of what these searches
-- found. No advisor is asked where files have a fault or one failed, by another command, and of refused words.
abbrev pub AreAskedBy : {A V : Type 0} {X : V → Type 0} → ((rules : V) → Ghosts (X rules)) → (A → V) → (A → List ℕ) →
    List A → List A → Option JobRead → List Taken → List ℕ → Type 0
AreAskedBy members rules state old new (Some (Design s)) came bytes =
    (end : End Input) → EndsAs (outcome AsRequested (searched s)) came end →
    AsksAt (λ d. TellsAnswer (AreAskedAnswering members rules state d.problem s.limits.top s.limits.nodes old new) bytes) (new ≡ old) end
AreAskedBy members rules state old new (Some (Total s)) came bytes =
    (end : End Input) → EndsAs (outcome AsRequested (searched s)) came end →
    AsksAt (λ d. TellsTotal s.limits d.problem (AreAskedAnswering members rules state d.problem s.limits.top s.limits.nodes old new) bytes)
    (new ≡ old) end
AreAskedBy members rules state old new (Some (Conflict s)) came bytes =
    (end : End Input) → EndsAs (outcome AsRequested (searched s)) came end →
    AsksAt (λ d. TellsConflict d.problem (AreAskedFinding members rules state d.problem s.limits.top s.limits.nodes old new) bytes) (new ≡ old) end
AreAskedBy members rules state old new (Some (Trial blocks start)) came bytes =
    AsksAt (λ d. TellsTrial blocks start d.problem (AreAskedAnswering members rules state d.problem trial_limits.top trial_limits.nodes old new) bytes)
    (new ≡ old) (trial_end (made_trial blocks start))
AreAskedBy members rules state old new job came bytes = new ≡ old

-- what the command of a job makes is as what came of its files says, and where memory sufficed, the advisors were asked
-- as `Asked` tells for what it writes
pub record IsMadeAsking (Asked : Option JobRead → List Taken → List ℕ → Type 0) (job : JobRead) (came : List Taken) (made : Result Report Stop) : Type 0 where
  pub is_made : IsMadeAs job came made
  pub asked : (made ≡ Err NoMemoryLeft) ⊎ ((bytes : List ℕ) → IsMadeText made bytes → Asked (Some job) came bytes)
