-- When the further commands have to answer.
use Rattle.std.proofs.Common.{◌≡◌, ℕ, refl, List, inl, inr}
use Rattle.std.specs.Prelude.{◌⊎◌}
use Rattle.cost_base.specs.declared.Status.{Status}
use Rattle.cost_base.specs.declared.Status.TheVariants as status
use Rattle.design_problem.specs.Problems.{DesignProblem}
use Rattle.wide_fraction.specs.SearchLimits.{SearchLimits}
use Rattle.least_conflict.specs.declared.conflict.Conflict.{Conflict}
use Rattle.least_conflict.specs.declared.conflict.Conflict.TheVariants.{Fit as FitForAll, Least as LeastConflict, Undecided as ConflictUndecided}
use Rattle.least_conflict.specs.Conflicts.{IsConflictFound}
use Rattle.least_conflict.specs.Laws.{IsSufficientForSets}
use Rattle.least_conflict.proofs.LargeBudgets.{sufficient_settle as conflict_settles}
use Rattle.path_commands.specs.Conflicts as conflicts
use Rattle.path_commands.specs.Conflicts.{MayConflict, ShowsConflict}
use Rattle.spread_sets.specs.declared.spread.Spread.{Spread}
use Rattle.spread_sets.specs.declared.spread.Spread.TheVariants.{Fit, Impossible as NoSpread, Undecided as SpreadUndecided}
use Rattle.spread_sets.specs.Answers.{IsSpreadFound}
use Rattle.spread_sets.proofs.PrintedSets.{sufficient_settle as spread_settles}
use Rattle.path_commands.specs.SetFiles.{Sharing}
use Rattle.path_commands.specs.Spreads as spreads
use Rattle.path_commands.specs.Spreads.{MaySpread, ShowsSpread}
use Rattle.input_files.specs.Outcomes.{Input}
use Rattle.database_commands.specs.Lsas.{MayLsas}
use Rattle.database_commands.specs.Routes.{MayRoute}
use Rattle.design_commands.specs.TotalRuns.{IsShownUndecidedTotal, MayTotal}
use Rattle.designer_command.specs.Completeness.{IsSufficient, IsSufficientForSharing, IsSufficientForTotal, ConflictsAreFound, IdentifiedInputIsWritten, IsRunSettled, IsSpreadSettled, KnownRoutersAreRouted, SpreadsAreFound, TotalsAreFound}
use Rattle.designer_command.proofs.CompletenessLaws.{best_settles, never_undecided, none_settles}
use Rattle.designer_command.proofs.OwnStatuses.{only_done, own_conflict, own_lsas, own_route, own_spread, own_total, said_end}

-- `conflict`

pub done_undecided : status.Done ≡ status.Undecided → ⊥
done_undecided is = cc

undecided_conflict : (limits : SearchLimits) (p : DesignProblem) (bytes : List ℕ) → IsSufficientForSets p limits.top limits.nodes →
    ShowsConflict limits p status.Undecided bytes → ⊥
undecided_conflict limits p bytes cannot shown = by_found shown.conflict shown.found shown.status
  where
    by_found : (conflict : Conflict) → IsConflictFound p limits.top limits.nodes conflict → conflicts.conflict_status conflict ≡ status.Undecided → ⊥
    by_found (FitForAll w) found is = done_undecided is
    by_found (LeastConflict members rows tree without) found is = done_undecided is
    by_found (ConflictUndecided members rows tree) found is =
        conflict_settles p limits.top limits.nodes (ConflictUndecided members rows tree) cannot found

pub conflicts_found : ConflictsAreFound
conflicts_found limits names came d end bytes ends h =
    said_end _ (MayConflict limits) came d end bytes (λ s. ((s ≡ status.Done) ⊎ (s ≡ status.Undecided))
    × (IsSufficientForSets d.problem limits.top limits.nodes → s ≡ status.Done)) (own_conflict limits)
    (record {
      done = λ h. (inl refl, λ cannot. refl);
      impossible = λ h. absurd h;
      undecided = λ h. (inr refl, λ cannot. absurd (undecided_conflict limits d.problem bytes cannot h));
      rejected = λ h. absurd h;
    }) ends h

-- a search found costs, or that there are none, or its budget was used up
abbrev pub IsFound : Status → Type 0
IsFound s = (s ≡ status.Done) ⊎ (s ≡ status.Impossible) ⊎ (s ≡ status.Undecided)

-- `total`

undecided_total : (limits : SearchLimits) (d : Input) (bytes : List ℕ) → IsSufficientForTotal limits d.problem → IsShownUndecidedTotal limits d bytes → ⊥
undecided_total limits d bytes cannot shown =
    cannot shown.designed.costs shown.bound shown.rows shown.tree shown.designed.best shown.sheet.true_rows
    shown.used_up.printed.earnest shown.used_up.undone shown.used_up.used_up

pub totals_found : TotalsAreFound
totals_found limits names came d end bytes ends h =
    said_end _ (MayTotal limits) came d end bytes (λ s. IsFound s
    × (IsSufficient limits d.problem → IsSufficientForTotal limits d.problem → IsRunSettled d.problem s)) (own_total limits)
    (record {
      done = λ h. (inl refl, λ cannot none. best_settles d.problem h.designed.costs h.designed.best);
      impossible = λ h. (inr (inl refl), λ cannot none. none_settles d.problem h.none);
      undecided = λ h. (
        inr (inr refl),
        λ cannot none.
            absurd (elim h [
              | inl shown ↦ never_undecided limits d.problem bytes cannot shown
              | inr shown ↦ undecided_total limits d bytes none shown
            ]),
      );
      rejected = λ h. absurd h;
    }) ends h

-- `spread`

pub impossible_undecided : status.Impossible ≡ status.Undecided → ⊥
impossible_undecided is = cc

pub undecided_done : status.Undecided ≡ status.Done → ⊥
undecided_done is = cc

pub undecided_impossible : status.Undecided ≡ status.Impossible → ⊥
undecided_impossible is = cc

pub impossible_done : status.Impossible ≡ status.Done → ⊥
impossible_done is = cc

pub done_impossible : status.Done ≡ status.Impossible → ⊥
done_impossible is = cc

fit_settles : (limits : SearchLimits) (sharing : Sharing) (bytes : List ℕ) → ShowsSpread limits sharing status.Done bytes → IsSpreadSettled sharing status.Done
fit_settles limits sharing bytes shown = by_found shown.spread shown.found shown.status
  where
    by_found : (spread : Spread) → IsSpreadFound sharing.input.problem shown.sets limits.top limits.nodes spread →
        spreads.spread_status spread ≡ status.Done → IsSpreadSettled sharing status.Done
    by_found (Fit w) found is = record { sets = shown.sets; said = shown.said; either = inl refl; fit = λ v fits. refl; unfit = λ none. absurd (none w found) }
    by_found (NoSpread rows tree) found is = absurd (impossible_done is)
    by_found (SpreadUndecided rows tree) found is = absurd (undecided_done is)

none_fit_settles : (limits : SearchLimits) (sharing : Sharing) (bytes : List ℕ) →
    ShowsSpread limits sharing status.Impossible bytes → IsSpreadSettled sharing status.Impossible
none_fit_settles limits sharing bytes shown = by_found shown.spread shown.found shown.status
  where
    by_found : (spread : Spread) → IsSpreadFound sharing.input.problem shown.sets limits.top limits.nodes spread →
        spreads.spread_status spread ≡ status.Impossible → IsSpreadSettled sharing status.Impossible
    by_found (Fit w) found is = absurd (done_impossible is)
    by_found (NoSpread rows tree) found is =
        record {
          sets = shown.sets;
          said = shown.said;
          either = inr refl;
          fit = λ v fits. absurd (found.2 v fits);
          unfit = λ none. refl;
        }
    by_found (SpreadUndecided rows tree) found is = absurd (undecided_impossible is)

undecided_spread : (limits : SearchLimits) (sharing : Sharing) (bytes : List ℕ) → IsSufficientForSharing limits sharing →
    ShowsSpread limits sharing status.Undecided bytes → ⊥
undecided_spread limits sharing bytes cannot shown = by_found shown.spread shown.found shown.status
  where
    by_found : (spread : Spread) → IsSpreadFound sharing.input.problem shown.sets limits.top limits.nodes spread →
        spreads.spread_status spread ≡ status.Undecided → ⊥
    by_found (Fit w) found is = done_undecided is
    by_found (NoSpread rows tree) found is = impossible_undecided is
    by_found (SpreadUndecided rows tree) found is =
        spread_settles sharing.input.problem shown.sets limits.top limits.nodes (SpreadUndecided rows tree) (cannot shown.sets shown.said) found

pub spreads_found : SpreadsAreFound
spreads_found limits names file came sharing end bytes ends h =
    said_end _ (MaySpread limits) came sharing end bytes
    (λ s. IsFound s × (IsSufficientForSharing limits sharing → IsSpreadSettled sharing s))
    (own_spread limits)
    (record {
      done = λ h. (inl refl, λ cannot. fit_settles limits sharing bytes h);
      impossible = λ h. (inr (inl refl), λ cannot. none_fit_settles limits sharing bytes h);
      undecided = λ h. (inr (inr refl), λ cannot. absurd (undecided_spread limits sharing bytes cannot h));
      rejected = λ h. absurd h;
    }) ends h

-- `lsas` and `route`

pub lsas_written : IdentifiedInputIsWritten
lsas_written names came d end bytes ends h = only_done _ MayLsas came d end bytes own_lsas (λ h. h) (λ h. h) (λ h. h) ends h

pub routed : KnownRoutersAreRouted
routed file from to came lsas end bytes ends h = only_done _ (MayRoute from to) came lsas end bytes (own_route from to) (λ h. h) (λ h. h) (λ h. h) ends h
