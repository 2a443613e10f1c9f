-- The tests of an optimal answer's costs, in their order: those that are passed, and the first that fails.
use Rattle.std.proofs.Common.{◌≡◌, ℕ, subst, List, [], ◌∷◌, arith, inl, inr}
use Rattle.std.specs.Prelude.{Some, All, Result, IfErr, IsErrAnd}
use Rattle.cost_base.specs.Order.{FirstOf, NoneOf}
use Rattle.cost_base.specs.declared.refusal.Refusal.{Refusal}
use Rattle.cost_base.specs.declared.refusal.Refusal.TheVariants.{Refused, OutOfMemory}
use Rattle.design_problem.specs.declared.answer.Verdict.TheVariants.{Optimal}
use Rattle.design_problem.specs.declared.answer.Costs.{Costs}
use Rattle.design_problem.specs.declared.answer.CostLine.{CostLine}
use Rattle.design_problem.specs.declared.answer.Floor.{Floor}
use Rattle.design_problem.specs.Answers.{CostLinesOf}
use Rattle.design_problem.specs.Boxes.{IsInBox}
use Rattle.design_problem.specs.Problems.{DesignProblem, no_request}
use Rattle.design_problem.specs.Rows.{box_of, greatest_cost}
use Rattle.evidence_checker.specs.Numbers.{check_fault_number}
use Rattle.evidence_checker.specs.declared.fault.CheckFault.{CheckFault}
use Rattle.design_problem.specs.GivenCosts.{costs_given}
use Rattle.evidence_checker.specs.Costs.{IsOnlyAt}
use Rattle.evidence_checker.specs.Refusals.{FailedTest, AtNoPlace, AtFirst, StopsBy}
use Rattle.evidence_checker.specs.Tests.{NamesPlaces, HasUnequalEnds, IsOutside, HasWrongGreatest, IsNotOnly, IsFalseFloor, cost_tests}
use Rattle.evidence_checker.proofs.CostLaws.{names_equal}
use Rattle.evidence_checker.proofs.StopLaws.{only_test, err_tells}

-- the tests, at the costs
abbrev pub TestsAt : DesignProblem → ℕ → ℕ → List CostLine → Floor → List ℕ → List (FailedTest → Type 0)
TestsAt p k printed lines floor w =
    AtNoPlace 50 (NamesPlaces p.vars lines → ⊥)
    ∷ AtFirst 53 (HasUnequalEnds p.vars lines)
    ∷ AtFirst 45 (IsOutside p.low p.high w)
    ∷ AtNoPlace 47 (HasWrongGreatest k printed w)
    ∷ AtFirst 46 (IsNotOnly p w)
    ∷ AtNoPlace 52 (IsFalseFloor p k floor)
    ∷ []

moved : (p : DesignProblem) (k : ℕ) (costs : Costs) (floor : Floor) (lines : List CostLine) (w : List ℕ)
    (s : Refusal CheckFault ℕ) → lines ≡ costs.lines → w ≡ costs_given p lines →
    StopsBy (TestsAt p k costs.greatest lines floor w) s → StopsBy (cost_tests p (Optimal k) (Some costs) floor) s
moved p k costs floor lines w s lines_are given stops =
    subst (λ (ls : List CostLine). StopsBy (TestsAt p k costs.greatest ls floor (costs_given p ls)) s) lines_are
    (subst (λ (v : List ℕ). StopsBy (TestsAt p k costs.greatest lines floor v) s) given stops)

no_places : (p : DesignProblem) (lines : List CostLine) → NamesPlaces p.vars lines → (f : FailedTest) → AtNoPlace 50 (NamesPlaces p.vars lines → ⊥) f → ⊥
no_places p lines named f failed = failed.2 named

no_ends : (p : DesignProblem) (lines : List CostLine) (w : List ℕ) → CostLinesOf w p.vars lines → (f : FailedTest) →
    AtFirst 53 (HasUnequalEnds p.vars lines) f → ⊥
no_ends p lines w names_lines f failed = names_equal p lines w f.place names_lines failed.1

inside : (p : DesignProblem) (w : List ℕ) (k : ℕ) → IsInBox (box_of p) w → IsOutside p.low p.high w k → ⊥
inside p w k within outside =
    let low = within.above k (omega (arith, within.low_count, outside.0)) in
    let high = within.below k (omega (arith, within.low_count, outside.0)) in
    elim (outside.1) [ inl below ↦ absurd (omega arith) | inr above ↦ absurd (omega arith) ]

no_bounds : (p : DesignProblem) (w : List ℕ) → IsInBox (box_of p) w → (f : FailedTest) → AtFirst 45 (IsOutside p.low p.high w) f → ⊥
no_bounds p w within f failed = inside p w f.place within failed.1

no_greatest : (k printed : ℕ) (w : List ℕ) → (printed ≡ k) × (greatest_cost w ≡ k) → (f : FailedTest) → AtNoPlace 47 (HasWrongGreatest k printed w) f → ⊥
no_greatest k printed w same f failed = failed.2 same

no_paths : (p : DesignProblem) (w : List ℕ) → All (IsOnlyAt p.graph w) p.requests → (f : FailedTest) → AtFirst 46 (IsNotOnly p w) f → ⊥
no_paths p w only f failed = failed.1.1 (only f.place no_request failed.1.0)

no_floor : (p : DesignProblem) (k : ℕ) (floor : Floor) → (IsFalseFloor p k floor → ⊥) → (f : FailedTest) → AtNoPlace 52 (IsFalseFloor p k floor) f → ⊥
no_floor p k floor true_floor f failed = true_floor failed.2

-- the first test that fails stands behind that of the bounds
behind_bounds : (p : DesignProblem) (k printed : ℕ) (lines : List CostLine) (floor : Floor) (w : List ℕ) (f : FailedTest) →
    NamesPlaces p.vars lines → CostLinesOf w p.vars lines → IsInBox (box_of p) w →
    FirstOf (AtNoPlace 47 (HasWrongGreatest k printed w) ∷ AtFirst 46 (IsNotOnly p w) ∷ AtNoPlace 52 (IsFalseFloor p k floor) ∷ []) f →
    FirstOf (TestsAt p k printed lines floor w) f
behind_bounds p k printed lines floor w f named names_lines within rest =
    inr (no_places p lines named, inr (no_ends p lines w names_lines, inr (no_bounds p w within, rest)))

pub stops_ends : (p : DesignProblem) (k : ℕ) (costs : Costs) (floor : Floor) (lines : List CostLine) (w : List ℕ)
    (s : Refusal CheckFault ℕ) → lines ≡ costs.lines → w ≡ costs_given p lines → NamesPlaces p.vars lines →
    StopsBy (AtFirst 53 (HasUnequalEnds p.vars lines) ∷ []) s → StopsBy (cost_tests p (Optimal k) (Some costs) floor) s
stops_ends p k costs floor lines w OutOfMemory lines_are given named stops = tt
stops_ends p k costs floor lines w (Refused fault place) lines_are given named stops =
    let f : FailedTest = record { number = check_fault_number fault; place = place } in
    moved p k costs floor lines w (Refused fault place) lines_are given
    (inr (no_places p lines named, inl (only_test (AtFirst 53 (HasUnequalEnds p.vars lines)) f stops)))

pub stops_bounds : (p : DesignProblem) (k : ℕ) (costs : Costs) (floor : Floor) (lines : List CostLine) (w : List ℕ)
    (s : Refusal CheckFault ℕ) → lines ≡ costs.lines → w ≡ costs_given p lines → NamesPlaces p.vars lines → CostLinesOf w p.vars lines →
    StopsBy (AtFirst 45 (IsOutside p.low p.high w) ∷ []) s → StopsBy (cost_tests p (Optimal k) (Some costs) floor) s
stops_bounds p k costs floor lines w OutOfMemory lines_are given named names_lines stops = tt
stops_bounds p k costs floor lines w (Refused fault place) lines_are given named names_lines stops =
    let f : FailedTest = record { number = check_fault_number fault; place = place } in
    moved p k costs floor lines w (Refused fault place) lines_are given
    (inr (no_places p lines named, inr (no_ends p lines w names_lines, inl (only_test (AtFirst 45 (IsOutside p.low p.high w)) f stops))))

pub stops_greatest : (p : DesignProblem) (k : ℕ) (costs : Costs) (floor : Floor) (lines : List CostLine) (w : List ℕ)
    (s : Refusal CheckFault ℕ) → lines ≡ costs.lines → w ≡ costs_given p lines → NamesPlaces p.vars lines → CostLinesOf w p.vars lines →
    IsInBox (box_of p) w → StopsBy (AtNoPlace 47 (HasWrongGreatest k costs.greatest w) ∷ []) s →
    StopsBy (cost_tests p (Optimal k) (Some costs) floor) s
stops_greatest p k costs floor lines w OutOfMemory lines_are given named names_lines within stops = tt
stops_greatest p k costs floor lines w (Refused fault place) lines_are given named names_lines within stops =
    let f : FailedTest = record { number = check_fault_number fault; place = place } in
    moved p k costs floor lines w (Refused fault place) lines_are given
    (behind_bounds p k costs.greatest lines floor w f named names_lines within
    (inl (only_test (AtNoPlace 47 (HasWrongGreatest k costs.greatest w)) f stops)))

pub stops_paths : (p : DesignProblem) (k : ℕ) (costs : Costs) (floor : Floor) (lines : List CostLine) (w : List ℕ)
    (s : Refusal CheckFault ℕ) → lines ≡ costs.lines → w ≡ costs_given p lines → NamesPlaces p.vars lines → CostLinesOf w p.vars lines →
    IsInBox (box_of p) w → (costs.greatest ≡ k) × (greatest_cost w ≡ k) → StopsBy (AtFirst 46 (IsNotOnly p w) ∷ []) s →
    StopsBy (cost_tests p (Optimal k) (Some costs) floor) s
stops_paths p k costs floor lines w OutOfMemory lines_are given named names_lines within same stops = tt
stops_paths p k costs floor lines w (Refused fault place) lines_are given named names_lines within same stops =
    let f : FailedTest = record { number = check_fault_number fault; place = place } in
    moved p k costs floor lines w (Refused fault place) lines_are given
    (behind_bounds p k costs.greatest lines floor w f named names_lines within
    (inr (no_greatest k costs.greatest w same, inl (only_test (AtFirst 46 (IsNotOnly p w)) f stops))))

pub stops_floor : (p : DesignProblem) (k : ℕ) (costs : Costs) (floor : Floor) (lines : List CostLine) (w : List ℕ)
    (s : Refusal CheckFault ℕ) → lines ≡ costs.lines → w ≡ costs_given p lines → NamesPlaces p.vars lines → CostLinesOf w p.vars lines →
    IsInBox (box_of p) w → (costs.greatest ≡ k) × (greatest_cost w ≡ k) → All (IsOnlyAt p.graph w) p.requests →
    StopsBy (AtNoPlace 52 (IsFalseFloor p k floor) ∷ []) s → StopsBy (cost_tests p (Optimal k) (Some costs) floor) s
stops_floor p k costs floor lines w OutOfMemory lines_are given named names_lines within same only stops = tt
stops_floor p k costs floor lines w (Refused fault place) lines_are given named names_lines within same only stops =
    let f : FailedTest = record { number = check_fault_number fault; place = place } in
    moved p k costs floor lines w (Refused fault place) lines_are given
    (behind_bounds p k costs.greatest lines floor w f named names_lines within
    (inr (
      no_greatest k costs.greatest w same,
      inr (no_paths p w only, inl (only_test (AtNoPlace 52 (IsFalseFloor p k floor)) f stops)),
    )))

-- none fails
pub passes : (p : DesignProblem) (k printed : ℕ) (lines : List CostLine) (floor : Floor) (w : List ℕ) →
    NamesPlaces p.vars lines → CostLinesOf w p.vars lines → IsInBox (box_of p) w → (printed ≡ k) × (greatest_cost w ≡ k) →
    All (IsOnlyAt p.graph w) p.requests → (IsFalseFloor p k floor → ⊥) → NoneOf (TestsAt p k printed lines floor w)
passes p k printed lines floor w named names_lines within same only true_floor = (
  no_places p lines named,
  (
    no_ends p lines w names_lines,
    (
      no_bounds p w within,
      (no_greatest k printed w same, (no_paths p w only, (no_floor p k floor true_floor, tt))),
    ),
  ),
)

-- a refusal that is handed on
pub err_stops : {T : Type 0} (r : Result T (Refusal CheckFault ℕ)) (s : Refusal CheckFault ℕ) (ts : List (FailedTest → Type 0)) →
    IsErrAnd r (λ e. e ≡ s) → StopsBy ts s → IfErr r (StopsBy ts)
err_stops r s ts is stops = err_tells r s (StopsBy ts) is stops
