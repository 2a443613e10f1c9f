-- What `change` tells by its status: costs that are fit, that there are none, or that the budget was used up.
use Rattle.std.proofs.Common.{◌≡◌, ℕ, List}
use Rattle.cost_base.specs.declared.Status.TheVariants as status
use Rattle.design_problem.specs.Rows.{IsFit}
use Rattle.design_problem.specs.ProblemLaws.{HasNoFit}
use Rattle.wide_fraction.specs.SearchLimits.{SearchLimits}
use Rattle.input_files.specs.Outcomes.{Input}
use Rattle.least_change.specs.declared.change.Change.{Change}
use Rattle.least_change.specs.declared.change.Change.TheVariants.{Fewest, Impossible, Undecided}
use Rattle.least_change.specs.Changes.{IsChangeFound}
use Rattle.least_change.specs.Laws.{IsSufficientForChanges}
use Rattle.least_change.proofs.Sufficient.{sufficient_settle}
use Rattle.change_commands.specs.Changes.{ShowsChange, change_status, question_of}

done_impossible : status.Done ≡ status.Impossible → ⊥
done_impossible is = cc

done_undecided : status.Done ≡ status.Undecided → ⊥
done_undecided is = cc

impossible_done : status.Impossible ≡ status.Done → ⊥
impossible_done is = cc

impossible_undecided : status.Impossible ≡ status.Undecided → ⊥
impossible_undecided is = cc

undecided_done : status.Undecided ≡ status.Done → ⊥
undecided_done is = cc

undecided_impossible : status.Undecided ≡ status.Impossible → ⊥
undecided_impossible is = cc

-- with status 0 some costs are fit
pub fewest_fit : (limits : SearchLimits) (d : Input) (bytes : List ℕ) → ShowsChange limits d status.Done bytes → (w : List ℕ) × IsFit d.problem w
fewest_fit limits d bytes shown = by_found shown.change shown.found shown.status
  where
    by_found : (change : Change) → IsChangeFound (question_of limits d) change → change_status change ≡ status.Done → (w : List ℕ) × IsFit d.problem w
    by_found (Fewest w evidence) found is = (w, found.fewest.fit)
    by_found (Impossible rows tree) found is = absurd (impossible_done is)
    by_found (Undecided w evidence undecided) found is = absurd (undecided_done is)

-- with status 1 none are
pub none_fit : (limits : SearchLimits) (d : Input) (bytes : List ℕ) → ShowsChange limits d status.Impossible bytes → HasNoFit d.problem
none_fit limits d bytes shown = by_found shown.change shown.found shown.status
  where
    by_found : (change : Change) → IsChangeFound (question_of limits d) change → change_status change ≡ status.Impossible → HasNoFit d.problem
    by_found (Fewest w evidence) found is = absurd (done_impossible is)
    by_found (Impossible rows tree) found is = found.none
    by_found (Undecided w evidence undecided) found is = absurd (undecided_impossible is)

-- where the budget can't be used up, the status isn't 2
pub never_unknown : (limits : SearchLimits) (d : Input) (bytes : List ℕ) → IsSufficientForChanges (question_of limits d) →
    ShowsChange limits d status.Undecided bytes → ⊥
never_unknown limits d bytes cannot shown = by_found shown.change shown.found shown.status
  where
    by_found : (change : Change) → IsChangeFound (question_of limits d) change → change_status change ≡ status.Undecided → ⊥
    by_found (Fewest w evidence) found is = done_undecided is
    by_found (Impossible rows tree) found is = impossible_undecided is
    by_found (Undecided w evidence undecided) found is = sufficient_settle (question_of limits d) (Undecided w evidence undecided) cannot found
