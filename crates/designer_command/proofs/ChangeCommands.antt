-- When `change` and `steps` have to answer.
use Rattle.std.proofs.Common.{◌≡◌, ℕ, ◌≤◌, refl, sym, ◌∙◌, subst, List, length, inl, inr, arith}
use Rattle.std.specs.Prelude.{◌^◌, None, Some}
use Rattle.cost_base.specs.declared.Status.{Status}
use Rattle.cost_base.specs.declared.Status.TheVariants as status
use Rattle.design_problem.specs.Problems.{DesignProblem}
use Rattle.design_problem.specs.Rows.{IsFit}
use Rattle.wide_fraction.specs.SearchLimits.{SearchLimits}
use Rattle.input_files.specs.Outcomes.{Input}
use Rattle.least_change.specs.declared.change.Change.{Change}
use Rattle.least_change.specs.declared.change.Change.TheVariants.{Fewest, Impossible, Undecided}
use Rattle.least_change.specs.Changes.{IsChangeFound}
use Rattle.least_change.specs.Laws.{IsSufficientForChanges}
use Rattle.least_change.proofs.Sufficient.{sufficient_settle as changes_settle}
use Rattle.change_commands.specs.Changes.{MayChange, ShowsChange, change_status, question_of}
use Rattle.design_problem.specs.declared.answer.CostLine.{CostLine}
use Rattle.sections_reader.specs.Texts.{SaysCosts}
use Rattle.sections_reader.proofs.SaidCosts.{said_once, said_read}
use Rattle.change_steps.specs.declared.found.Outcome.{Outcome}
use Rattle.change_steps.specs.declared.found.Outcome.TheVariants.{Order, NoOrder, Undecided as StepsUndecided}
use Rattle.change_steps.specs.declared.found.Steps.{Steps}
use Rattle.change_steps.specs.Kinds.{steps_between}
use Rattle.change_steps.specs.Outcomes.{AreStepsFound, IsOutcome}
use Rattle.command_words.specs.declared.job.StepUnit.{StepUnit}
use Rattle.report_writer.specs.declared.rejection.Rejection.{Rejection}
use Rattle.change_commands.specs.WantedMoves.{StepsInput, first_line_fault, rollout_of}
use Rattle.change_commands.specs.Steps.{IsStepsInputRefused, MaySteps, ShowsSteps, outcome_status}
use Rattle.designer_command.specs.Completeness.{AreStepsSettled, IsSufficientForSteps, ChangesAreFound, IsRunSettled, StepsAreFound}
use Rattle.designer_command.proofs.CompletenessLaws.{none_settles}
use Rattle.designer_command.proofs.FurtherCommands.{IsFound, done_impossible, done_undecided, impossible_done, impossible_undecided, undecided_done, undecided_impossible}
use Rattle.designer_command.proofs.OwnStatuses.{own_change, own_steps, said_end}

-- costs that are fit settle a run
fit_settles : (p : DesignProblem) (w : List ℕ) → IsFit p w → IsRunSettled p status.Done
fit_settles p w fits = record {
  either = inl refl;
  fit = λ other is. refl;
  unfit = λ none. absurd (none w fits);
}

change_settles : (limits : SearchLimits) (d : Input) (bytes : List ℕ) → ShowsChange limits d status.Done bytes → IsRunSettled d.problem status.Done
change_settles limits d bytes shown = by_found shown.change shown.found shown.status
  where
    by_found : (change : Change) → IsChangeFound (question_of limits d) change → change_status change ≡ status.Done → IsRunSettled d.problem status.Done
    by_found (Fewest w evidence) found is = fit_settles d.problem w found.fewest.fit
    by_found (Impossible rows tree) found is = absurd (impossible_done is)
    by_found (Undecided w evidence undecided) found is = absurd (undecided_done is)

none_change : (limits : SearchLimits) (d : Input) (bytes : List ℕ) → ShowsChange limits d status.Impossible bytes → IsRunSettled d.problem status.Impossible
none_change limits d bytes shown = by_found shown.change shown.found shown.status
  where
    by_found : (change : Change) → IsChangeFound (question_of limits d) change → change_status change ≡ status.Impossible →
        IsRunSettled d.problem status.Impossible
    by_found (Fewest w evidence) found is = absurd (done_impossible is)
    by_found (Impossible rows tree) found is = none_settles d.problem found.none
    by_found (Undecided w evidence undecided) found is = absurd (undecided_impossible is)

undecided_changes : (limits : SearchLimits) (d : Input) (bytes : List ℕ) → IsSufficientForChanges (question_of limits d) →
    ShowsChange limits d status.Undecided bytes → ⊥
undecided_changes limits d bytes cannot shown = by_found shown.change shown.found shown.status
  where
    by_found : (change : Change) → IsChangeFound (question_of limits d) change → change_status change ≡ status.Undecided → ⊥
    by_found (Fewest w evidence) found is = done_undecided is
    by_found (Impossible rows tree) found is = impossible_undecided is
    by_found (Undecided w evidence undecided) found is = changes_settle (question_of limits d) (Undecided w evidence undecided) cannot found

pub changes_found : ChangesAreFound
changes_found limits names came d end bytes ends h =
    said_end _ (MayChange limits) came d end bytes
    (λ s. IsFound s × (IsSufficientForChanges (question_of limits d) → IsRunSettled d.problem s)) (own_change limits)
    (record {
      done = λ h. (inl refl, λ cannot. change_settles limits d bytes h);
      impossible = λ h. (inr (inl refl), λ cannot. none_change limits d bytes h);
      undecided = λ h. (inr (inr refl), λ cannot. absurd (undecided_changes limits d bytes cannot h));
      rejected = λ h. absurd h;
    }) ends h

-- The steps.

-- a text that says these lines says no others
lines_said : (handed : StepsInput) (lines others : List CostLine) → SaysCosts handed.bytes (Some lines) → SaysCosts handed.bytes (Some others) → others ≡ lines
lines_said handed lines others said other = one (said_once handed.bytes (Some others) (Some lines) other said)
  where
    one : {x y : List CostLine} → Some x ≡ Some y → x ≡ y
    one e = cc

-- what was found of the steps of these lines
record IsFoundOf (nodes : ℕ) (by : StepUnit) (handed : StepsInput) (lines : List CostLine) (aim : Status) : Type 0 where
  steps : Steps
  found : AreStepsFound (rollout_of by handed.input lines) nodes steps
  status : outcome_status steps.outcome ≡ aim

found_of : (nodes : ℕ) (by : StepUnit) (handed : StepsInput) (lines : List CostLine) (aim : Status) (bytes : List ℕ) →
    SaysCosts handed.bytes (Some lines) → ShowsSteps nodes by handed aim bytes → IsFoundOf nodes by handed lines aim
found_of nodes by handed lines aim bytes said shown = record {
  steps = shown.steps;
  found = subst (λ (ls : List CostLine). AreStepsFound (rollout_of by handed.input ls) nodes shown.steps)
      (lines_said handed lines shown.lines said shown.said) shown.found;
  status = shown.status;
}

order_settles : (nodes : ℕ) (by : StepUnit) (handed : StepsInput) (lines : List CostLine) → IsFoundOf nodes by handed lines status.Done →
    AreStepsSettled by handed lines status.Done
order_settles nodes by handed lines of = by_outcome of.steps.outcome of.found.outcome of.status
  where
    by_outcome : (outcome : Outcome) → IsOutcome (rollout_of by handed.input lines) of.steps.held.items nodes outcome →
        outcome_status outcome ≡ status.Done → AreStepsSettled by handed lines status.Done
    by_outcome (Order order) found is = record {
      held = of.steps.held.items;
      are_held = of.found.held;
      either = inl refl;
      order = λ other safe. refl;
      none = λ none. absurd (none order.items found);
    }
    by_outcome (NoOrder stuck) found is = absurd (impossible_done is)
    by_outcome (StepsUndecided stuck) found is = absurd (undecided_done is)

none_steps : (nodes : ℕ) (by : StepUnit) (handed : StepsInput) (lines : List CostLine) → IsFoundOf nodes by handed lines status.Impossible →
    AreStepsSettled by handed lines status.Impossible
none_steps nodes by handed lines of = by_outcome of.steps.outcome of.found.outcome of.status
  where
    by_outcome : (outcome : Outcome) → IsOutcome (rollout_of by handed.input lines) of.steps.held.items nodes outcome →
        outcome_status outcome ≡ status.Impossible → AreStepsSettled by handed lines status.Impossible
    by_outcome (Order order) found is = absurd (done_impossible is)
    by_outcome (NoOrder stuck) found is = record {
      held = of.steps.held.items;
      are_held = of.found.held;
      either = inr refl;
      order = λ other safe. absurd (found.none other safe);
      none = λ none. refl;
    }
    by_outcome (StepsUndecided stuck) found is = absurd (undecided_impossible is)

undecided_steps : (nodes : ℕ) (by : StepUnit) (handed : StepsInput) (lines : List CostLine) →
    IsSufficientForSteps nodes (rollout_of by handed.input lines) → IsFoundOf nodes by handed lines status.Undecided → ⊥
undecided_steps nodes by handed lines cannot of = by_outcome of.steps.outcome of.found.outcome of.status
  where
    by_outcome : (outcome : Outcome) → IsOutcome (rollout_of by handed.input lines) of.steps.held.items nodes outcome →
        outcome_status outcome ≡ status.Undecided → ⊥
    by_outcome (Order order) found is = done_undecided is
    by_outcome (NoOrder stuck) found is = impossible_undecided is
    by_outcome (StepsUndecided stuck) found is =
        let enough : 2 ^ length (steps_between (rollout_of by handed.input lines) of.steps.held.items) ≤ nodes
        = cannot of.steps.held.items of.found.held in
        let less = found.1 in
        absurd (omega (arith, enough, less))

never_refused : (handed : StepsInput) (lines : List CostLine) (rejection : Rejection) → SaysCosts handed.bytes (Some lines) →
    first_line_fault handed.input.database lines ≡ None → IsStepsInputRefused handed rejection → ⊥
never_refused handed lines rejection said faultless (inl off) = said_read handed.bytes (Some lines) off.fault rejection.place said off.refused
never_refused handed lines rejection said faultless (inr (inl without)) = none_some (said_once handed.bytes None (Some lines) without.said said)
  where
    none_some : {x : List CostLine} → None ≡ Some x → ⊥
    none_some e = cc
never_refused handed lines rejection said faultless (inr (inr faulty)) =
    no_fault (sym (subst (λ (ls : List CostLine). first_line_fault handed.input.database ls ≡ Some faulty.fault)
    (lines_said handed lines faulty.lines said faulty.said) faulty.first) ∙ faultless)
  where
    no_fault : {X : Type 0} {x : X} → Some x ≡ None → ⊥
    no_fault e = cc

pub steps_found : StepsAreFound
steps_found nodes by names answer came handed lines end bytes ends said faultless h =
    said_end _ (MaySteps nodes by) came handed end bytes
    (λ s. IsFound s × (IsSufficientForSteps nodes (rollout_of by handed.input lines) → AreStepsSettled by handed lines s)) (own_steps nodes by)
    (record {
      done = λ h. (inl refl, λ cannot. order_settles nodes by handed lines (found_of nodes by handed lines status.Done bytes said h));
      impossible = λ h. (inr (inl refl), λ cannot. none_steps nodes by handed lines (found_of nodes by handed lines status.Impossible bytes said h));
      undecided = λ h. (
        inr (inr refl),
        λ cannot. absurd (undecided_steps nodes by handed lines cannot (found_of nodes by handed lines status.Undecided bytes said h)),
      );
      rejected = λ h. absurd (never_refused handed lines h.0 said faultless h.1);
    }) ends h
