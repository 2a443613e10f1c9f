-- When a run has to answer.
use Rattle.std.proofs.Common.{◌≡◌, ◌∙◌, ℕ, ◌+◌, ◌<◌, ◌≤◌, refl, sym, ap, subst, arith, List, [], ◌∷◌, ◌++◌, Bool, true, cond, inl, inr}
use Rattle.std.specs.Prelude.{All, Option, None, Some, Result, Ok, Err, bytes_eq}
use Rattle.std.proofs.lemmas.List.Sums.{sum_by-cons}
use Rattle.std.proofs.lemmas.Slice.Eq.{bytes_eq-Decides}
use Rattle.std.proofs.lemmas.Option.{same_Some}
use Rattle.cost_base.specs.declared.ShelfStop.{ShelfStop}
use Rattle.cost_base.specs.declared.ShelfStop.TheVariants as stop
use Rattle.cost_base.specs.declared.Status.{Status}
use Rattle.cost_base.specs.declared.Status.TheVariants as status
use Rattle.cost_base.specs.Files.{count_of_name}
use Rattle.cost_base.specs.Outside.{Rose}
use Rattle.cost_base.specs.Histories.{Taken, CountsFailures, failure, failures}
use Rattle.design_problem.specs.declared.answer.CapTree.{CapTree}
use Rattle.design_problem.specs.declared.answer.CostLine.{CostLine}
use Rattle.design_problem.specs.Problems.{DesignProblem}
use Rattle.design_problem.specs.Rows.{AreBestCosts}
use Rattle.design_problem.specs.ProblemLaws.{HasNoFit}
use Rattle.sections_reader.proofs.SaidCosts.{said_once, said_read}
use Rattle.least_bound.specs.Answered.{UndecidedAt}
use Rattle.config_writer.specs.Rewriting.{first_missing}
use Rattle.command_words.specs.Jobs.{JobRead}
use Rattle.wide_fraction.specs.SearchLimits.{SearchLimits}
use Rattle.command_words.specs.Jobs as read
use Rattle.command_words.specs.Commands.{job_of}
use Rattle.trial_maker.specs.TrialTexts.{made_trial}
use Rattle.input_files.specs.Readings.{Reading, Take, Refused, Ready, End, Says, Faulty, Failed, too_long, OnCame, EndsAs}
use Rattle.input_files.specs.Outcomes.{Input}
use Rattle.input_files.proofs.Readings.{failed, faulty_failed, file_as, said_failed}
use Rattle.report_writer.specs.declared.rejection.Rejection.{Rejection}
use Rattle.evidence_commands.specs.Checks.{MayCheck}
use Rattle.evidence_commands.specs.Rewrites.{IsUnfit, new_costs, MayRewrite}
use Rattle.design_commands.specs.Designs.{IsDesigned, IsShownImpossible, IsShownUndecided, MayDesign}
use Rattle.design_commands.specs.Trials.{MayTry, MayTryEnd, trial_end, trial_limits}
use Rattle.path_commands.specs.Audits.{MayAudit}
use Rattle.designer_command.specs.Runs.{MayWrite, MayWriteAsking, OnFailure, RunMeets, Writes}
use Rattle.designer_command.specs.Completeness.{IsSufficient, DesignsAreAccepted, HeadedCostsAreWritten, IsRunSettled, TrialsAreDesigned, ValidAnswersAreAccepted, WellFormedInputIsAudited, WellFormedInputIsDesigned}
use Rattle.designer_command.proofs.OwnStatuses.{only_done, own_audit, own_check, own_design, own_end, own_rewrite, own_try, said_end}

pub audited : WellFormedInputIsAudited
audited names came d end bytes ends h = only_done _ MayAudit came d end bytes own_audit (λ h. h) (λ h. h) (λ h. h) ends h

pub accepted : ValidAnswersAreAccepted
accepted names answer came claim a end bytes ends value spelled valid h =
    only_done _ MayCheck came claim end bytes own_check (λ h. h) (λ h. h) (λ h. h.1.never a value spelled valid) ends h

-- best costs settle a problem, and so does that there are no fit ones
pub best_settles : (p : DesignProblem) (w : List ℕ) → AreBestCosts p w → IsRunSettled p status.Done
best_settles p w best = record {
  either = inl refl;
  fit = λ other fits. refl;
  unfit = λ none. absurd (none w best.fit);
}

pub none_settles : (p : DesignProblem) → HasNoFit p → IsRunSettled p status.Impossible
none_settles p none = record {
  either = inr refl;
  fit = λ other fits. absurd (none other fits);
  unfit = λ same. refl;
}

-- where the budget can't be used up, no text shows that it was
pub never_undecided : (limits : SearchLimits) (p : DesignProblem) (bytes : List ℕ) → IsSufficient limits p → IsShownUndecided limits p bytes → ⊥
never_undecided limits p bytes never shown = by_tree shown.answer.undecided shown.undecided.undecided
  where
    by_tree : (t : Option CapTree) → UndecidedAt p limits.top limits.nodes shown.answer.rows shown.cap t → ⊥
    by_tree None h = h
    by_tree (Some t) h =
        never t.cap shown.answer.rows t.tree
        (subst (λ (cap : ℕ). All (λ low. low ≤ cap) p.low) (sym h.0) shown.undecided.no_higher) shown.undecided.rows
        h.1.printed.earnest h.1.undone h.1.used_up

pub designed : WellFormedInputIsDesigned
designed limits names came d end bytes ends never h =
    said_end _ (MayDesign limits) came d end bytes (IsRunSettled d.problem) (own_design limits)
    (record {
      done = λ h. best_settles d.problem h.costs h.best;
      impossible = λ h. none_settles d.problem h.none;
      undecided = λ h. absurd (never_undecided limits d.problem bytes never h);
      rejected = λ h. absurd h;
    }) ends h

pub trials_designed : TrialsAreDesigned
trials_designed blocks start d end bytes says never h =
    own_end (MayTry blocks start) d end bytes (IsRunSettled d.problem) (own_try blocks start)
    (record {
      done = λ h. best_settles d.problem h.costs h.best;
      impossible = λ h. none_settles d.problem h.is_text.none;
      undecided = λ h. absurd (never_undecided trial_limits d.problem h.behind never h.is_text);
      rejected = λ h. absurd h;
    }) (subst (λ (e : End Input). MayTryEnd blocks start e end bytes) says h)

pub designs_accepted : DesignsAreAccepted
designs_accepted limits d aim printed (inl is) may names answer came end bytes ends h =
    let shown : IsDesigned limits d printed = subst (λ (s : Status). MayDesign limits d s printed) is may in
    accepted names answer came (record { problem = d.problem; bytes = printed }) shown.answer end bytes ends shown.value shown.spelled shown.valid h
designs_accepted limits d aim printed (inr is) may names answer came end bytes ends h =
    let shown : IsShownImpossible limits d.problem printed = subst (λ (s : Status). MayDesign limits d s printed) is may in
    accepted names answer came (record { problem = d.problem; bytes = printed }) shown.answer end bytes ends shown.value shown.spelled shown.valid h

none_some : (x : List CostLine) → Some x ≡ None → ⊥
none_some x e = cc

pub written : HeadedCostsAreWritten
written config answer came r costs end bytes ends said headed h =
    only_done _ MayRewrite came r end bytes own_rewrite (λ h. h) (λ h. h) (λ h. fit h.0 h.1) ends h
  where
    fit : (rejection : Rejection) → IsUnfit r rejection → ⊥
    fit rejection (inl off) = said_read r.bytes (Some costs) off.fault rejection.place said off.refused
    fit rejection (inr (inl without)) = none_some costs (said_once r.bytes (Some costs) None said without.none)
    fit rejection (inr (inr missing)) =
        missing.missing
        (subst (λ (cs : List CostLine). first_missing (new_costs r.config cs) r.config.bytes ≡ None)
        (same_Some costs missing.costs (said_once r.bytes (Some costs) (Some missing.costs) said missing.said)) headed)

abbrev mark : Bool → ℕ
mark b = cond b 1 0

-- a file that failed is counted
one_failed : (name file : List ℕ) (names : List (List ℕ)) → name ≡ file → 0 < count_of_name (name ∷ names) file
one_failed name file names same =
    let here : bytes_eq name file ≡ true = (bytes_eq-Decides name file).1 same in
    let counted : count_of_name (name ∷ names) file ≡ mark (bytes_eq name file) + count_of_name names file = sum_by-cons
    (λ (x : List ℕ). mark (bytes_eq x file)) name names in
    let one : mark (bytes_eq name file) ≡ mark true = ap mark here in
    omega (arith, counted, one)

same_file : {A : Type 0} (e f : End A) (x y : List ℕ) → e ≡ Failed x → f ≡ Failed y → e ≡ f → x ≡ y
same_file e f x y first second same = sym (ap (λ t. file_as [] t) first) ∙ ap (λ t. file_as [] t) same ∙ ap (λ t. file_as [] t) second

-- what came of a file, and the failed file among it and the others
failed_here : {A : Type 0} (taken_name name : List ℕ) (next : List ℕ → Reading A) (more : List Taken) (file : List ℕ)
    (came : Result (List ℕ) ShelfStop) → taken_name ≡ name →
    OnCame came (λ bytes. EndsAs (next bytes) more (Failed file))
    ((more ≡ []) × (failed A file ≡ Faulty (too_long name))) ((more ≡ []) × (failed A file ≡ Failed name)) →
    ((bytes : List ℕ) → EndsAs (next bytes) more (Failed file) → 0 < count_of_name (failures more) file) →
    0 < count_of_name (failure taken_name came ++ failures more) file
failed_here taken_name name next more file (Ok bytes) is then rest = rest bytes then
failed_here {A = A} taken_name name next more file (Err stop.TooLong) is then rest = absurd (faulty_failed {A = A} (too_long name) file (sym then.1))
failed_here {A = A} taken_name name next more file (Err stop.Failed) is then rest =
    one_failed taken_name file (failures more)
    (is ∙ sym (same_file (failed A file) (failed A name) file name refl refl then.1))
failed_here taken_name name next more file (Err stop.OutOfMemory) is then rest = absurd then

-- the file that failed is among those that failed
failed_among : {A : Type 0} (reading : Reading A) (came : List Taken) (file : List ℕ) → EndsAs reading came (Failed file) →
    0 < count_of_name (failures came) file
failed_among (Ready x) [] file is = absurd (said_failed x file (sym is))
failed_among (Ready x) (taken ∷ more) file is = absurd is
failed_among {A = A} (Refused r) [] file is = absurd (faulty_failed {A = A} r file (sym is))
failed_among (Refused r) (taken ∷ more) file is = absurd is
failed_among (Take name most next) [] file is = absurd is
failed_among (Take name most next) (taken ∷ more) file is =
    failed_here taken.name name next more file taken.came is.0 is.2 (λ bytes ends. failed_among (next bytes) more file ends)

-- no command whose reading fails writes where no count rose
none_failed : {A : Type 0} (reading : Reading A) (came : List Taken) (bytes : List ℕ) →
    CountsFailures (λ name. 0) (λ name. 0) came → OnFailure reading came bytes → ⊥
none_failed reading came bytes counted failed =
    let rose : 0 < 0 = counted.failed failed.file (failed_among reading came failed.file failed.ends) in
    omega arith

try_failed : (blocks start : ℕ) (end : End Input) (bytes : List ℕ) → MayTryEnd blocks start end status.ReadFault bytes → ⊥
try_failed blocks start (Says d) bytes h = h
try_failed blocks start (Faulty fault) bytes h = h
try_failed blocks start (Failed file) bytes h = h

no_read_fault : (job : Option JobRead) (came : List Taken) (bytes : List ℕ) →
    CountsFailures (λ name. 0) (λ name. 0) came → MayWrite job came status.ReadFault bytes → ⊥
no_read_fault None came bytes counted h = h
no_read_fault (Some (read.Design s)) came bytes counted h = none_failed _ came bytes counted h
no_read_fault (Some (read.Check request answer configs)) came bytes counted h = none_failed _ came bytes counted h
no_read_fault (Some (read.Audit request None configs)) came bytes counted h = none_failed _ came bytes counted h
no_read_fault (Some (read.Audit request (Some live) configs)) came bytes counted h = none_failed _ came bytes counted h
no_read_fault (Some (read.Rewrite answer config)) came bytes counted h = none_failed _ came bytes counted h
no_read_fault (Some (read.Trial blocks start)) came bytes counted h = try_failed blocks start (trial_end (made_trial blocks start)) bytes h.1
no_read_fault (Some (read.Conflict s)) came bytes counted h = none_failed _ came bytes counted h
no_read_fault (Some (read.Spread s sets)) came bytes counted h = none_failed _ came bytes counted h
no_read_fault (Some (read.Total s)) came bytes counted h = none_failed _ came bytes counted h
no_read_fault (Some (read.Change s)) came bytes counted h = none_failed _ came bytes counted h
no_read_fault (Some (read.Steps request answer nodes by configs)) came bytes counted h = none_failed _ came bytes counted h
no_read_fault (Some (read.Compare live request configs)) came bytes counted h = none_failed _ came bytes counted h
no_read_fault (Some (read.Lsas request configs)) came bytes counted h = none_failed _ came bytes counted h
no_read_fault (Some (read.Route lsas from to)) came bytes counted h = none_failed _ came bytes counted h
no_read_fault (Some (read.Help topic)) came bytes counted h = h
no_read_fault (Some read.Version) came bytes counted h = h

-- over counts that stay 0 no run ends with a fault of a shelf
pub sure_shelf : (words : List (List ℕ)) (Asked : Option JobRead → List Taken → List ℕ → Type 0) (gave : List Taken → Type 0) (held : List ℕ → Option (List ℕ))
    (handed : List ℕ → Type 0) (got_before got_now : Option (List ℕ)) (count_before count_now : ℕ) (end : Status) →
    RunMeets words Asked gave held (λ name. 0) (λ name. 0) handed got_before got_now count_before count_now end → end ≡ status.ReadFault → ⊥
sure_shelf words Asked gave held handed got_before got_now count_before count_now end meets is =
    let whole = subst (λ (s : Status). Writes (MayWriteAsking (MayWrite (job_of words) meets.came) (Asked (job_of words) meets.came)) handed got_before got_now
    count_before count_now s) is meets.written in
    no_read_fault (job_of words) meets.came whole.bytes meets.counted whole.allowed.0

-- nor with one of a sink
pub sure_sink : (words : List (List ℕ)) (Asked : Option JobRead → List Taken → List ℕ → Type 0) (gave : List Taken → Type 0) (held : List ℕ → Option (List ℕ))
    (before now : List ℕ → ℕ) (handed : List ℕ → Type 0) (got_before got_now : Option (List ℕ)) (end : Status) →
    RunMeets words Asked gave held before now handed got_before got_now 0 0 end → end ≡ status.WriteFault → ⊥
sure_sink words Asked gave held before now handed got_before got_now end meets is =
    let part = subst (λ (s : Status). Writes (MayWriteAsking (MayWrite (job_of words) meets.came) (Asked (job_of words) meets.came)) handed got_before got_now 0
    0 s) is meets.written in
    never_rose part.cause
  where
    never_rose : Rose 0 0 → ⊥
    never_rose rose = omega arith
