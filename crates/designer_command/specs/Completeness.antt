-- When a run has to answer, and may not refuse: laws over what came of its files.
use Rattle.std.specs.Prelude.{◌≡◌, ◌⊎◌, ℕ, ◌+◌, ◌*◌, ◌^◌, ◌≤◌, List, All, Contains, Option, None, Some, length, true, false}
use Rattle.cost_base.specs.declared.Status.{Status}
use Rattle.cost_base.specs.declared.Status.TheVariants as status
use Rattle.cost_base.specs.Histories.{Taken}
use Rattle.input_files.specs.declared.problem.View.TheVariants.{AsRequested, BesidePresent, AtPresent}
use Rattle.input_files.specs.Inputs.{InputFiles}
use Rattle.input_files.specs.Readings.{Says, EndsAs}
use Rattle.input_files.specs.Outcomes.{Input, outcome}
use Rattle.design_problem.specs.declared.tree.Entry.{Entry}
use Rattle.design_problem.specs.declared.tree.Entry.TheVariants.{Undone}
use Rattle.design_problem.specs.declared.answer.CostLine.{CostLine}
use Rattle.design_problem.specs.declared.form.Row.{Row}
use Rattle.design_problem.specs.Problems.{DesignProblem}
use Rattle.design_problem.specs.Boxes.{capped, points}
use Rattle.design_problem.specs.Rows.{AreBestCosts, IsFit, IsRow, box_of, greatest_cost}
use Rattle.design_problem.specs.Trees.{entry_count}
use Rattle.design_problem.specs.Earnest.{IsEarnestFor, IsEarnestOver}
use Rattle.design_problem.specs.Answers.{AnswerParts, IsValid, whole_box}
use Rattle.design_problem.specs.ProblemLaws.{HasNoFit}
use Rattle.design_problem.specs.Text.{text}
use Rattle.evidence_text.specs.AnswerValues.{IsAnswerValue}
use Rattle.command_words.specs.Jobs.{Help, Version}
use Rattle.wide_fraction.specs.SearchLimits.{SearchLimits}
use Rattle.command_words.specs.declared.job.CommandName.{CommandName}
use Rattle.trial_maker.specs.TrialTexts.{made_trial}
use Rattle.config_writer.specs.Rewriting.{first_missing}
use Rattle.evidence_commands.specs.Checks.{Claim, claim_read}
use Rattle.sections_reader.specs.Texts.{SaysCosts}
use Rattle.evidence_commands.specs.Rewrites.{Revision, new_costs, revision_read}
use Rattle.path_commands.specs.Conflicts.{MayConflict}
use Rattle.path_commands.specs.SetFiles.{AreSetsIn, Sharing, spread_read}
use Rattle.path_commands.specs.Spreads.{MaySpread}
use Rattle.spread_sets.specs.Spreads.{IsSpreadFit, all_sets}
use Rattle.spread_sets.specs.Answers.{HasNoSpread}
use Rattle.spread_sets.specs.Laws.{IsSufficientForSpread}
use Rattle.least_conflict.specs.Laws.{IsSufficientForSets}
use Rattle.least_total.specs.Totals.{IsFormWithin, LeadsWithin, forms_within}
use Rattle.least_change.specs.Laws.{IsSufficientForChanges}
use Rattle.change_commands.specs.Changes.{MayChange, question_of}
use Rattle.change_commands.specs.WantedMoves.{StepsInput, steps_read, rollout_of, first_line_fault}
use Rattle.change_commands.specs.Steps.{MaySteps}
use Rattle.change_steps.specs.Kinds.{steps_between}
use Rattle.change_steps.specs.Rollouts.{Rollout}
use Rattle.change_steps.specs.Orders.{AreHeld, IsSafeOrder}
use Rattle.sections_reader.specs.Texts.{SaysCosts}
use Rattle.command_words.specs.declared.job.StepUnit.{StepUnit}
use Rattle.design_problem.specs.declared.answer.CostLine.{CostLine}
use Rattle.lsa_bytes.specs.declared.Lsa.{Lsa}
use Rattle.database_commands.specs.Compares.{Comparison, MayCompare, are_alike, compare_read, difference_text, differences_of}
use Rattle.database_commands.specs.Lsas.{MayLsas, identified_read}
use Rattle.database_commands.specs.Routes.{MayRoute, route_read}
use Rattle.design_commands.specs.TotalRuns.{MayTotal}
use Rattle.design_commands.specs.Trials.{MayTrial, trial_end, trial_limits}
use Rattle.designer_command.specs.Runs.{MayAfter, MayWrite}
use Rattle.help_texts.specs.Texts.{help_text, version_text}
use Rattle.path_commands.specs.Audits.{MayAudit}
use Rattle.path_commands.specs.LiveAudits.{MayAuditLive, Running, live_audit_read}
use Rattle.evidence_commands.specs.Checks.{MayCheck}
use Rattle.design_commands.specs.Designs.{MayDesign}
use Rattle.evidence_commands.specs.Rewrites.{MayRewrite}

-- The budget can't be used up: over the box at any cap that isn't below a lower bound no earnest tree has an undone
-- entry and exactly as many entries as the budget.
abbrev pub IsSufficient : SearchLimits → DesignProblem → Type 0
IsSufficient limits p =
    (cap : ℕ) (rows : List Row) (tree : List Entry) → All (λ low. low ≤ cap) p.low → All (IsRow p) rows →
    IsEarnestFor p limits.top rows (capped (box_of p) cap) tree → Contains tree Undone → entry_count tree ≡ limits.nodes → ⊥

-- a run on a problem ends Done where there are fit costs, Impossible where there are none, and with no other status
pub record IsRunSettled (p : DesignProblem) (end : Status) : Type 0 where
  pub either : (end ≡ status.Done) ⊎ (end ≡ status.Impossible)
  pub fit : (w : List ℕ) → IsFit p w → end ≡ status.Done
  pub unfit : HasNoFit p → end ≡ status.Impossible

-- A design of well-formed input is settled, where the budget can't be used up.
abbrev pub WellFormedInputIsDesigned : Type 0
WellFormedInputIsDesigned =
    (limits : SearchLimits) (names : InputFiles) (came : List Taken) (d : Input) (end : Status) (bytes : List ℕ) →
    EndsAs (outcome AsRequested names) came (Says d) → IsSufficient limits d.problem →
    MayAfter (outcome AsRequested names) (MayDesign limits) came end bytes → IsRunSettled d.problem end

-- A trial whose texts have no fault is settled, where the budget can't be used up.
abbrev pub TrialsAreDesigned : Type 0
TrialsAreDesigned =
    (blocks start : ℕ) (d : Input) (end : Status) (bytes : List ℕ) →
    trial_end (made_trial blocks start) ≡ Says d → IsSufficient trial_limits d.problem → MayTrial blocks start end bytes → IsRunSettled d.problem end

-- Where the files of a check say a problem and the text of a valid answer, nothing may be written but that it is
-- accepted.
abbrev pub ValidAnswersAreAccepted : Type 0
ValidAnswersAreAccepted =
    (names : InputFiles) (answer : List ℕ) (came : List Taken) (claim : Claim) (a : AnswerParts) (end : Status) (bytes : List ℕ) →
    EndsAs (claim_read names answer) came (Says claim) → IsAnswerValue a → claim.bytes ≡ text a → IsValid claim.problem a →
    MayAfter (claim_read names answer) MayCheck came end bytes → end ≡ status.Done

-- A check of what a design printed with status Done or Impossible, after the same input, may write nothing but that it
-- is accepted.
abbrev pub DesignsAreAccepted : Type 0
DesignsAreAccepted =
    (limits : SearchLimits) (d : Input) (aim : Status) (printed : List ℕ) → (aim ≡ status.Done) ⊎ (aim ≡ status.Impossible) → MayDesign limits d aim printed →
    (names : InputFiles) (answer : List ℕ) (came : List Taken) (end : Status) (bytes : List ℕ) →
    EndsAs (claim_read names answer) came (Says (record { problem = d.problem; bytes = printed })) →
    MayAfter (claim_read names answer) MayCheck came end bytes → end ≡ status.Done

-- Where the files of an audit say a problem, nothing may be written but its lines.
abbrev pub WellFormedInputIsAudited : Type 0
WellFormedInputIsAudited =
    (names : InputFiles) (came : List Taken) (d : Input) (end : Status) (bytes : List ℕ) →
    EndsAs (outcome AtPresent names) came (Says d) → MayAfter (outcome AtPresent names) MayAudit came end bytes → end ≡ status.Done

-- Where the files of a rewrite say a configuration and a text with costs, an answer's or another one, whose lines of
-- its router are of interfaces with heads in it, nothing may be written but the configuration with these costs.
abbrev pub HeadedCostsAreWritten : Type 0
HeadedCostsAreWritten =
    (config answer : List ℕ) (came : List Taken) (r : Revision) (costs : List CostLine) (end : Status) (bytes : List ℕ) →
    EndsAs (revision_read config answer) came (Says r) → SaysCosts r.bytes (Some costs) →
    first_missing (new_costs r.config costs) r.config.bytes ≡ None →
    MayAfter (revision_read config answer) MayRewrite came end bytes → end ≡ status.Done

-- the budget is large: at least twice as many entries as the box at the greatest bound has points, less one
abbrev pub IsLarge : SearchLimits → DesignProblem → Type 0
IsLarge limits p = 2 * points (whole_box p) ≤ limits.nodes + 1

-- Where its files say a problem, `conflict` may write nothing but what it found: that is settled where the budget can't
-- be used up for a set of requests.
abbrev pub ConflictsAreFound : Type 0
ConflictsAreFound =
    (limits : SearchLimits) (names : InputFiles) (came : List Taken) (d : Input) (end : Status) (bytes : List ℕ) →
    EndsAs (outcome AsRequested names) came (Says d) → MayAfter (outcome AsRequested names) (MayConflict limits) came end bytes →
    ((end ≡ status.Done) ⊎ (end ≡ status.Undecided)) × (IsSufficientForSets d.problem limits.top limits.nodes → end ≡ status.Done)

-- `spread` ends Done where some costs are spread-fit for the sets of its file, Impossible where none are, never else
pub record IsSpreadSettled (sharing : Sharing) (end : Status) : Type 0 where
  pub sets : List (List ℕ)
  pub said : AreSetsIn sets sharing
  pub either : (end ≡ status.Done) ⊎ (end ≡ status.Impossible)
  pub fit : (w : List ℕ) → IsSpreadFit sharing.input.problem (all_sets sharing.input.problem sets) w → end ≡ status.Done
  pub unfit : HasNoSpread sharing.input.problem (all_sets sharing.input.problem sets) → end ≡ status.Impossible

-- the budget can't be used up for any sets of wanted paths that the file may say
abbrev pub IsSufficientForSharing : SearchLimits → Sharing → Type 0
IsSufficientForSharing limits sharing =
    (sets : List (List ℕ)) → AreSetsIn sets sharing → IsSufficientForSpread sharing.input.problem sets limits.top limits.nodes

-- Where its files say a problem and sets of its wanted paths, `spread` may write nothing but what it found: that is
-- settled where the budget can't be used up.
abbrev pub SpreadsAreFound : Type 0
SpreadsAreFound =
    (limits : SearchLimits) (names : InputFiles) (file : List ℕ) (came : List Taken) (sharing : Sharing) (end : Status) (bytes : List ℕ) →
    EndsAs (spread_read names file) came (Says sharing) → MayAfter (spread_read names file) (MaySpread limits) came end bytes →
    ((end ≡ status.Done) ⊎ (end ≡ status.Impossible) ⊎ (end ≡ status.Undecided))
    × (IsSufficientForSharing limits sharing → IsSpreadSettled sharing end)

-- The budget can't be used up for a bound of the total: over the box at the greatest of best costs no earnest tree, by
-- rivals and the form of the total, has an undone entry and exactly as many entries as the budget.
abbrev pub IsSufficientForTotal : SearchLimits → DesignProblem → Type 0
IsSufficientForTotal limits p =
    (w : List ℕ) (bound : ℕ) (rows : List Row) (tree : List Entry) → AreBestCosts p w → All (IsRow p) rows →
    IsEarnestOver (LeadsWithin p bound) (IsFormWithin p bound) limits.top (forms_within p bound rows) (capped (box_of p) (greatest_cost w)) tree →
    Contains tree Undone → entry_count tree ≡ limits.nodes → ⊥

-- Where its files say a problem, `total` may write nothing but what it found: settled if the budget can't be used up.
abbrev pub TotalsAreFound : Type 0
TotalsAreFound =
    (limits : SearchLimits) (names : InputFiles) (came : List Taken) (d : Input) (end : Status) (bytes : List ℕ) →
    EndsAs (outcome AsRequested names) came (Says d) → MayAfter (outcome AsRequested names) (MayTotal limits) came end bytes →
    ((end ≡ status.Done) ⊎ (end ≡ status.Impossible) ⊎ (end ≡ status.Undecided))
    × (IsSufficient limits d.problem → IsSufficientForTotal limits d.problem → IsRunSettled d.problem end)

-- The budget can't be used up by `design`, `conflict`, `spread` or `total` on this problem.
pub record LargeBudgetIsSufficient (limits : SearchLimits) (p : DesignProblem) : Type 0 where
  pub design : IsSufficient limits p
  pub conflict : IsSufficientForSets p limits.top limits.nodes
  pub spread : (sets : List (List ℕ)) → IsSufficientForSpread p sets limits.top limits.nodes
  pub total : IsSufficientForTotal limits p

-- For well-formed input a large budget can't be used up; nor for the sets that a file of well-formed input says.
abbrev pub LargeBudgetsSuffice : Type 0
LargeBudgetsSuffice =
    ((limits : SearchLimits) (names : InputFiles) (came : List Taken) (d : Input) →
    EndsAs (outcome AsRequested names) came (Says d) → IsLarge limits d.problem → LargeBudgetIsSufficient limits d.problem)
    × ((limits : SearchLimits) (names : InputFiles) (file : List ℕ) (came : List Taken) (sharing : Sharing) →
    EndsAs (spread_read names file) came (Says sharing) → IsLarge limits sharing.input.problem → IsSufficientForSharing limits sharing)

-- Where its files say a problem, `change` may write nothing but what it found: that is settled where the budget can't
-- be used up for a set of variables that keep their present costs, or for a cover tree.
abbrev pub ChangesAreFound : Type 0
ChangesAreFound =
    (limits : SearchLimits) (names : InputFiles) (came : List Taken) (d : Input) (end : Status) (bytes : List ℕ) →
    EndsAs (outcome BesidePresent names) came (Says d) → MayAfter (outcome BesidePresent names) (MayChange limits) came end bytes →
    ((end ≡ status.Done) ⊎ (end ≡ status.Impossible) ⊎ (end ≡ status.Undecided))
    × (IsSufficientForChanges (question_of limits d) → IsRunSettled d.problem end)

-- `steps` ends Done where its steps have a safe order for the held paths, Impossible where they have none, never else
pub record AreStepsSettled (by : StepUnit) (handed : StepsInput) (lines : List CostLine) (end : Status) : Type 0 where
  pub held : List ℕ
  pub are_held : AreHeld (rollout_of by handed.input lines) held
  pub either : (end ≡ status.Done) ⊎ (end ≡ status.Impossible)
  pub order : (order : List ℕ) → IsSafeOrder (rollout_of by handed.input lines) held order → end ≡ status.Done
  pub none : ((order : List ℕ) → IsSafeOrder (rollout_of by handed.input lines) held order → ⊥) → end ≡ status.Impossible

-- the budget of states can't be used up by `steps`: there are at least as many as sets of the steps between
abbrev pub IsSufficientForSteps : ℕ → Rollout → Type 0
IsSufficientForSteps nodes r = (held : List ℕ) → AreHeld r held → 2 ^ length (steps_between r held) ≤ nodes

-- Where its files say a network and a text with cost lines of its linked interfaces, none named twice, `steps` may
-- write nothing but what it found: that is settled where the budget can't be used up.
abbrev pub StepsAreFound : Type 0
StepsAreFound =
    (nodes : ℕ) (by : StepUnit) (names : InputFiles) (answer : List ℕ) (came : List Taken) (handed : StepsInput) (lines : List CostLine)
    (end : Status) (bytes : List ℕ) → EndsAs (steps_read names answer) came (Says handed) → SaysCosts handed.bytes (Some lines) →
    first_line_fault handed.input.database lines ≡ None → MayAfter (steps_read names answer) (MaySteps nodes by) came end bytes →
    ((end ≡ status.Done) ⊎ (end ≡ status.Impossible) ⊎ (end ≡ status.Undecided))
    × (IsSufficientForSteps nodes (rollout_of by handed.input lines) → AreStepsSettled by handed lines end)

-- Where the files of `lsas` say a problem, and each configuration a router ID of its own, nothing may be written but
-- the LSAs.
abbrev pub IdentifiedInputIsWritten : Type 0
IdentifiedInputIsWritten =
    (names : InputFiles) (came : List Taken) (d : Input) (end : Status) (bytes : List ℕ) →
    EndsAs (identified_read names) came (Says d) → MayAfter (identified_read names) MayLsas came end bytes → end ≡ status.Done

-- Where the files of an audit of a running area say such an area, nothing may be written but the lines of its audit.
abbrev pub RunningAreaIsAudited : Type 0
RunningAreaIsAudited =
    (names : InputFiles) (live : List ℕ) (came : List Taken) (now : Running) (end : Status) (bytes : List ℕ) →
    EndsAs (live_audit_read names live) came (Says now) → MayAfter (live_audit_read names live) MayAuditLive came end bytes →
    end ≡ status.Done

-- `compare` ends Done where the running area has no difference from its configurations, Impossible where it has one
abbrev pub IsCompared : Comparison → Status → Type 0
IsCompared c end =
    (are_alike (differences_of c) ≡ true → end ≡ status.Done) × (are_alike (differences_of c) ≡ false → end ≡ status.Impossible)

-- Where the files of `compare` say a running area and its configurations, nothing may be written but the differences.
abbrev pub DifferencesAreWritten : Type 0
DifferencesAreWritten =
    (names : InputFiles) (live : List ℕ) (came : List Taken) (c : Comparison) (end : Status) (bytes : List ℕ) →
    EndsAs (compare_read names live) came (Says c) → MayAfter (compare_read names live) MayCompare came end bytes →
    IsCompared c end × (bytes ≡ difference_text c.input.database (differences_of c))

-- Words that ask for help, or for the version, may write nothing but the text on that, whatever the files.
abbrev pub HelpIsWritten : Type 0
HelpIsWritten =
    (came : List Taken) (end : Status) (bytes : List ℕ) →
    ((topic : Option CommandName) → MayWrite (Some (Help topic)) came end bytes → (end ≡ status.Done) × (bytes ≡ help_text topic))
    × (MayWrite (Some Version) came end bytes → (end ≡ status.Done) × (bytes ≡ version_text))

-- Where the file of `route` says LSAs among which both routers have one, nothing may be written but the route.
abbrev pub KnownRoutersAreRouted : Type 0
KnownRoutersAreRouted =
    (file : List ℕ) (from to : ℕ) (came : List Taken) (lsas : List Lsa) (end : Status) (bytes : List ℕ) →
    EndsAs (route_read file from to) came (Says lsas) → MayAfter (route_read file from to) (MayRoute from to) came end bytes → end ≡ status.Done
