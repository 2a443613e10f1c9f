-- An answer that passes all tests is valid, and a valid answer fails none.
use Rattle.std.proofs.Common.{◌≡◌, ℕ, ◌+◌, ◌≤◌, refl, sym, ◌∙◌, ap, subst, List, [], ◌∷◌, ◌++◌, length, arith, inl, inr}
use Rattle.std.specs.Prelude.{slice_index, Option, Some, None, All}
use Rattle.std.specs.List.{AllZip}
use native.Mathlib.Decide.{ℕ_discrete}
use Rattle.std.proofs.lemmas.List.Elements.{All-tail}
use Rattle.std.proofs.lemmas.Bool.{cases_lt}
use Rattle.cost_base.specs.Order.{NoneOf}
use Rattle.cost_base.specs.declared.refusal.Refusal.{Refusal}
use Rattle.cost_base.specs.declared.refusal.Refusal.TheVariants.{Refused, OutOfMemory}
use Rattle.design_problem.specs.declared.answer.Verdict.{Verdict}
use Rattle.design_problem.specs.declared.answer.Verdict.TheVariants.{Optimal, Impossible, Undecided}
use Rattle.design_problem.specs.declared.answer.Costs.{Costs}
use Rattle.design_problem.specs.declared.answer.CostLine.{CostLine}
use Rattle.design_problem.specs.declared.answer.Floor.{Floor}
use Rattle.design_problem.specs.declared.answer.Floor.TheVariants.{Absent, Empty, Var}
use Rattle.design_problem.specs.declared.answer.CapTree.{CapTree}
use Rattle.design_problem.specs.Forms.{Form}
use Rattle.design_problem.specs.declared.boxes.CostBox.{CostBox}
use Rattle.design_problem.specs.declared.form.Row.{Row}
use Rattle.design_problem.specs.declared.problem.VarName.{VarName}
use Rattle.design_problem.specs.declared.tree.Entry.{Entry}
use Rattle.design_problem.specs.Problems.{DesignProblem, IsProblem}
use Rattle.design_problem.specs.Boxes.{capped}
use Rattle.design_problem.proofs.ProblemTrees.{low_below}
use Rattle.design_problem.specs.Rows.{IsRow, box_of, forms_of_rows}
use Rattle.design_problem.specs.Trees.{Sound, IsSoundTree, IsClosed, subboxes}
use Rattle.design_problem.specs.Answers.{AnswerParts, Proves, ShowsLeastGreatest, ClaimHolds, IsValid, greatest_bound}
use Rattle.evidence_checker.specs.declared.accepted.Accepted.{Accepted}
use Rattle.evidence_checker.specs.declared.fault.CheckFault.{CheckFault}
use Rattle.evidence_checker.specs.Refusals.{FailedTest, AtNoPlace, AtFirstItem, StopsBy}
use Rattle.evidence_checker.specs.Laws.{IsAcceptedAs, RefusesInvalid, CostsHold, ProofHolds}
use Rattle.evidence_checker.specs.Tests.{ClaimsNothing, ShapeOfLeast, ShapeOfClaim, HasWrongShape, NamesPlaces, IsFalseFloor, cost_tests, row_tests, line_tests, AtFirstLine, proof_tests, tests}
use Rattle.design_problem.proofs.GivenCosts.{names_written}
use Rattle.evidence_checker.proofs.CostTests.{TestsAt, passes}
use Rattle.evidence_checker.proofs.LineLaws.{sound_fails_none}
use Rattle.evidence_checker.proofs.RowLaws.{row_meets_none}
use Rattle.evidence_checker.proofs.StopLaws.{none_first, none_left_right, none_refused, stop_left, stop_right}

least_is_shown : (p : DesignProblem) (rows : List Row) (k : ℕ) (floor : Floor) (proof : Option CapTree) →
    ShapeOfLeast p k floor proof → (IsFalseFloor p k floor → ⊥) → ProofHolds p rows proof →
    ShowsLeastGreatest p rows k floor proof
least_is_shown p rows k Absent (Some proof) shape true_floor holds =
    (proof.cap, shape.0, record { at_cap = refl; no_higher = shape.1; sound = holds.0; closed = holds.1 })
least_is_shown p rows k Absent None shape true_floor holds = absurd shape
least_is_shown p rows k Empty None shape true_floor holds =
    elim (ℕ_discrete (length p.low) 0) [ yes none ↦ none | no some ↦ absurd (true_floor some) ]
least_is_shown p rows k Empty (Some proof) shape true_floor holds = absurd shape
least_is_shown p rows k (Var v) None shape true_floor holds =
    elim (cases_lt v (length p.low)) [
      | inl known ↦ elim (ℕ_discrete (slice_index p.low v) k) [ yes same ↦ (known, same) | no other ↦ absurd (true_floor (λ both. other both.1)) ]
      | inr unknown ↦ absurd (true_floor (λ both. absurd (omega (arith, both.0))))
    ]
least_is_shown p rows k (Var v) (Some proof) shape true_floor holds = absurd shape

claim_of : (p : DesignProblem) (rows : List Row) (verdict : Verdict) (costs : Option Costs) (floor : Floor)
    (proof : Option CapTree) → IsProblem p → ShapeOfClaim p verdict costs floor proof →
    CostsHold p verdict costs floor → ProofHolds p rows proof → ClaimHolds p rows verdict costs floor proof
claim_of p rows (Optimal k) (Some costs) floor proof kept shape costs_hold holds = (costs_hold.0, least_is_shown p rows k floor proof shape costs_hold.1 holds)
claim_of p rows (Optimal k) None floor proof kept shape costs_hold holds = absurd shape
claim_of p rows Impossible None Absent (Some proof) kept shape costs_hold holds =
    record {
      at_cap = shape;
      no_higher = low_below p kept;
      sound = subst (λ (cap : ℕ). IsSoundTree (forms_of_rows p rows) (capped (box_of p) cap) proof.tree) shape holds.0;
      closed = holds.1;
    }
claim_of p rows Impossible None Absent None kept shape costs_hold holds = absurd shape
claim_of p rows Impossible None Empty proof kept shape costs_hold holds = absurd shape
claim_of p rows Impossible None (Var v) proof kept shape costs_hold holds = absurd shape
claim_of p rows Impossible (Some costs) floor proof kept shape costs_hold holds = absurd shape
claim_of p rows (Undecided cap) costs floor proof kept shape costs_hold holds = absurd shape

pub valid_of : (p : DesignProblem) (a : AnswerParts) → IsProblem p → ShapeOfClaim p a.verdict a.costs a.floor a.proof
    × (a.undecided ≡ None) → CostsHold p a.verdict a.costs a.floor → All (IsRow p) a.rows →
    ProofHolds p a.rows a.proof → IsValid p a
valid_of p a kept shape costs_hold true_rows holds = record {
  rows = true_rows;
  finished = shape.1;
  claim = claim_of p a.rows a.verdict a.costs a.floor a.proof kept shape.0 costs_hold holds;
}

-- of a valid claim
claims_something : (p : DesignProblem) (rows : List Row) (verdict : Verdict) (costs : Option Costs) (floor : Floor)
    (proof : Option CapTree) → ClaimHolds p rows verdict costs floor proof → ClaimsNothing verdict → ⊥
claims_something p rows (Optimal k) costs floor proof claim nothing = nothing
claims_something p rows Impossible costs floor proof claim nothing = nothing
claims_something p rows (Undecided cap) costs floor proof claim nothing = claim

shape_of_least : (p : DesignProblem) (rows : List Row) (k : ℕ) (floor : Floor) (proof : Option CapTree) →
    ShowsLeastGreatest p rows k floor proof → ShapeOfLeast p k floor proof
shape_of_least p rows k Absent (Some proof) shows = (
  ap (λ (cap : ℕ). cap + 1) shows.2.at_cap ∙ shows.1,
  subst (λ (cap : ℕ). All (λ low. low ≤ cap) p.low) (sym shows.2.at_cap) shows.2.no_higher,
)
shape_of_least p rows k Absent None shows = absurd shows
shape_of_least p rows k Empty None shows = tt
shape_of_least p rows k Empty (Some proof) shows = absurd shows
shape_of_least p rows k (Var v) None shows = tt
shape_of_least p rows k (Var v) (Some proof) shows = absurd shows

shape_of : (p : DesignProblem) (rows : List Row) (verdict : Verdict) (costs : Option Costs) (floor : Floor)
    (proof : Option CapTree) → ClaimHolds p rows verdict costs floor proof → ShapeOfClaim p verdict costs floor proof
shape_of p rows (Optimal k) (Some costs) floor proof claim = shape_of_least p rows k floor proof claim.1
shape_of p rows (Optimal k) None floor proof claim = absurd claim
shape_of p rows Impossible None Absent (Some proof) claim = claim.at_cap
shape_of p rows Impossible None Absent None claim = absurd claim
shape_of p rows Impossible None Empty proof claim = absurd claim
shape_of p rows Impossible None (Var v) proof claim = absurd claim
shape_of p rows Impossible (Some costs) floor proof claim = absurd claim
shape_of p rows (Undecided cap) costs floor proof claim = absurd claim

true_floor_of : (p : DesignProblem) (rows : List Row) (k : ℕ) (floor : Floor) (proof : Option CapTree) →
    ShowsLeastGreatest p rows k floor proof → IsFalseFloor p k floor → ⊥
true_floor_of p rows k Absent proof shows is_false = is_false
true_floor_of p rows k Empty None shows is_false = is_false shows
true_floor_of p rows k Empty (Some proof) shows is_false = shows
true_floor_of p rows k (Var v) None shows is_false = is_false shows
true_floor_of p rows k (Var v) (Some proof) shows is_false = shows

sound_at : (p : DesignProblem) (rows : List Row) (cap : ℕ) (proof : CapTree) → Proves p rows cap proof → ProofHolds p rows (Some proof)
sound_at p rows cap proof proves =
    (subst (λ (c : ℕ). IsSoundTree (forms_of_rows p rows) (capped (box_of p) c) proof.tree) (sym proves.at_cap) proves.sound, proves.closed)

proof_of_least : (p : DesignProblem) (rows : List Row) (k : ℕ) (floor : Floor) (proof : Option CapTree) →
    ShowsLeastGreatest p rows k floor proof → ProofHolds p rows proof
proof_of_least p rows k Absent (Some proof) shows = sound_at p rows shows.0 proof shows.2
proof_of_least p rows k Absent None shows = tt
proof_of_least p rows k Empty None shows = tt
proof_of_least p rows k Empty (Some proof) shows = absurd shows
proof_of_least p rows k (Var v) None shows = tt
proof_of_least p rows k (Var v) (Some proof) shows = absurd shows

proof_of : (p : DesignProblem) (rows : List Row) (verdict : Verdict) (costs : Option Costs) (floor : Floor)
    (proof : Option CapTree) → ClaimHolds p rows verdict costs floor proof → ProofHolds p rows proof
proof_of p rows (Optimal k) (Some costs) floor proof claim = proof_of_least p rows k floor proof claim.1
proof_of p rows (Optimal k) None floor proof claim = absurd claim
proof_of p rows Impossible None Absent (Some proof) claim = sound_at p rows (greatest_bound p) proof claim
proof_of p rows Impossible None Absent None claim = tt
proof_of p rows Impossible None Empty proof claim = absurd claim
proof_of p rows Impossible None (Var v) proof claim = absurd claim
proof_of p rows Impossible (Some costs) floor proof claim = absurd claim
proof_of p rows (Undecided cap) costs floor proof claim = absurd claim

places_of : (w : List ℕ) (names : List VarName) (lines : List CostLine) →
    AllZip (λ name line. (line.router ≡ name.router) × (line.interface ≡ name.interface)
    × (line.cost ≡ slice_index w name.var)) names lines → NamesPlaces names lines
places_of w [] [] named = tt
places_of w [] (line ∷ lines) named = named
places_of w (name ∷ names) [] named = named
places_of w (name ∷ names) (line ∷ lines) named = ((named.0.0, named.0.1), places_of w names lines named.1)

costs_of : (p : DesignProblem) (rows : List Row) (verdict : Verdict) (costs : Option Costs) (floor : Floor)
    (proof : Option CapTree) → ClaimHolds p rows verdict costs floor proof → CostsHold p verdict costs floor
costs_of p rows (Optimal k) (Some costs) floor proof claim = (claim.0, true_floor_of p rows k floor proof claim.1)
costs_of p rows (Optimal k) None floor proof claim = tt
costs_of p rows Impossible costs floor proof claim = tt
costs_of p rows (Undecided cap) costs floor proof claim = tt

-- costs that hold fail no test
costs_fail : (p : DesignProblem) (verdict : Verdict) (costs : Option Costs) (floor : Floor) → IsProblem p →
    CostsHold p verdict costs floor → NoneOf (cost_tests p verdict costs floor)
costs_fail p (Optimal k) (Some costs) floor kept holds =
    let gives = holds.0 in
    let w = gives.values in
    let is = names_written p costs.lines w kept.each_named gives.fit.within.low_count gives.names in
    subst (λ (v : List ℕ). NoneOf (TestsAt p k costs.greatest costs.lines floor v)) (sym is)
    (passes p k costs.greatest costs.lines floor w (places_of w p.vars costs.lines gives.names) gives.names
    gives.fit.within (gives.printed, gives.greatest) gives.fit.only holds.1)
costs_fail p (Optimal k) None floor kept holds = tt
costs_fail p Impossible costs floor kept holds = tt
costs_fail p (Undecided cap) costs floor kept holds = tt

rows_fail : (p : DesignProblem) (place : ℕ) (rows : List Row) (f : FailedTest) → All (IsRow p) rows → AtFirstItem (row_tests p) place rows f → ⊥
rows_fail p place [] f true_rows failed = failed
rows_fail p place (row ∷ rows) f true_rows failed =
    elim failed [
      | inl here ↦ none_first (row_tests p row) f.number (row_meets_none p row (true_rows 0 row (omega arith))) here.1
      | inr later ↦ rows_fail p (place + 1) rows f (All-tail (IsRow p) row rows true_rows) later.1
    ]

lines_fail : (forms : List Form) (boxes : List CostBox) (place : ℕ) (entries : List Entry) (f : FailedTest) →
    Sound forms boxes entries → IsClosed entries → AtFirstLine forms boxes place entries f → ⊥
lines_fail forms [] place entries f sound closed failed = failed
lines_fail forms (box ∷ boxes) place [] f sound closed failed = failed
lines_fail forms (box ∷ boxes) place (entry ∷ entries) f sound closed failed =
    elim failed [
      | inl here ↦ none_first (line_tests forms box entry) f.number (sound_fails_none forms box entry sound.0 closed.0) here.1
      | inr later ↦ lines_fail forms (subboxes box entry ++ boxes) (place + 1) entries f sound.1 closed.1 later.1
    ]

proof_fails : (p : DesignProblem) (rows : List Row) (proof : Option CapTree) → ProofHolds p rows proof → NoneOf (proof_tests p rows proof)
proof_fails p rows None holds = tt
proof_fails p rows (Some proof) holds = (
  λ f failed. lines_fail (forms_of_rows p rows) (capped (box_of p) proof.cap ∷ []) 0 proof.tree f holds.0 holds.1 failed,
  tt,
)

-- the tests before those of the rows
abbrev pub EarlyTests : DesignProblem → AnswerParts → List (FailedTest → Type 0)
EarlyTests p a = AtNoPlace 49 (ClaimsNothing a.verdict) ∷ AtNoPlace 51 (HasWrongShape p a) ∷ cost_tests p a.verdict a.costs a.floor

early_fail : (p : DesignProblem) (a : AnswerParts) → IsProblem p → (ClaimsNothing a.verdict → ⊥) →
    ShapeOfClaim p a.verdict a.costs a.floor a.proof × (a.undecided ≡ None) → CostsHold p a.verdict a.costs a.floor →
    NoneOf (EarlyTests p a)
early_fail p a kept claims shape holds =
    (λ f failed. claims failed.2, (λ f failed. failed.2 shape, costs_fail p a.verdict a.costs a.floor kept holds))

-- a valid answer fails no test
valid_meets_none : (p : DesignProblem) (a : AnswerParts) → IsProblem p → IsValid p a → NoneOf (tests p a)
valid_meets_none p a kept valid =
    let claim = valid.claim in
    none_left_right (EarlyTests p a) (AtFirstItem (row_tests p) 0 a.rows ∷ proof_tests p a.rows a.proof)
    (early_fail p a kept (claims_something p a.rows a.verdict a.costs a.floor a.proof claim)
    (shape_of p a.rows a.verdict a.costs a.floor a.proof claim, valid.finished)
    (costs_of p a.rows a.verdict a.costs a.floor a.proof claim))
    (λ f failed. rows_fail p 0 a.rows f valid.rows failed, proof_fails p a.rows a.proof (proof_of p a.rows a.verdict a.costs a.floor a.proof claim))

-- so an answer that a test refuses isn't valid
pub refuses : (p : DesignProblem) (a : AnswerParts) (s : Refusal CheckFault ℕ) → IsProblem p → StopsBy (tests p a) s → RefusesInvalid p a s
refuses p a (Refused fault place) kept stops = λ valid. none_refused (tests p a) fault place (valid_meets_none p a kept valid) stops
refuses p a OutOfMemory kept stops = tt

accepted_claims : (verdict : Verdict) (accepted : Accepted) → IsAcceptedAs verdict accepted → ClaimsNothing verdict → ⊥
accepted_claims (Optimal k) accepted is nothing = nothing
accepted_claims Impossible accepted is nothing = nothing
accepted_claims (Undecided cap) accepted is nothing = is

-- a test of the costs, after the verdict and the shape
pub stops_costs : (p : DesignProblem) (a : AnswerParts) (accepted : Accepted) (s : Refusal CheckFault ℕ) →
    IsAcceptedAs a.verdict accepted → ShapeOfClaim p a.verdict a.costs a.floor a.proof × (a.undecided ≡ None) →
    StopsBy (cost_tests p a.verdict a.costs a.floor) s → StopsBy (tests p a) s
stops_costs p a accepted s is shape stops =
    let costs = cost_tests p a.verdict a.costs a.floor in
    let others = AtFirstItem (row_tests p) 0 a.rows ∷ proof_tests p a.rows a.proof in
    stop_right (AtNoPlace 49 (ClaimsNothing a.verdict) ∷ AtNoPlace 51 (HasWrongShape p a) ∷ []) (costs ++ others) s
    (λ f failed. accepted_claims a.verdict accepted is failed.2, (λ f failed. failed.2 shape, tt))
    (stop_left costs others s stops)

-- a test of the rows or of the proof, after all others
pub stops_evidence : (p : DesignProblem) (a : AnswerParts) (accepted : Accepted) (s : Refusal CheckFault ℕ) → IsProblem p →
    IsAcceptedAs a.verdict accepted → ShapeOfClaim p a.verdict a.costs a.floor a.proof × (a.undecided ≡ None) →
    CostsHold p a.verdict a.costs a.floor →
    StopsBy (AtFirstItem (row_tests p) 0 a.rows ∷ proof_tests p a.rows a.proof) s → StopsBy (tests p a) s
stops_evidence p a accepted s kept is shape holds stops =
    stop_right (EarlyTests p a) (AtFirstItem (row_tests p) 0 a.rows ∷ proof_tests p a.rows a.proof) s
    (early_fail p a kept (accepted_claims a.verdict accepted is) shape holds) stops

-- a test of the proof, after those of the rows
pub stops_proof : (p : DesignProblem) (rows : List Row) (stands : Option CapTree) (proof : CapTree)
    (forms given : List Form) (low high : List ℕ) (s : Refusal CheckFault ℕ) → stands ≡ Some proof → given ≡ forms → low ≡ p.low →
    high ≡ p.high → forms ≡ forms_of_rows p rows → All (IsRow p) rows →
    StopsBy (AtFirstLine given (capped (record { low = low; high = high }) proof.cap ∷ []) 0 proof.tree ∷ []) s →
    StopsBy (AtFirstItem (row_tests p) 0 rows ∷ proof_tests p rows stands) s
stops_proof p rows stands proof forms given low high s is given_is low_is high_is forms_are true_rows stops =
    let all_forms = given_is ∙ forms_are in
    let at_forms = subst (λ (fs : List Form).
    StopsBy (AtFirstLine fs (capped (record { low = low; high = high }) proof.cap ∷ []) 0 proof.tree ∷ []) s)
    all_forms stops in
    let at_low = subst (λ (xs : List ℕ).
    StopsBy (AtFirstLine (forms_of_rows p rows) (capped (record { low = xs; high = high }) proof.cap ∷ []) 0
    proof.tree ∷ []) s) low_is at_forms in
    let at_high = subst (λ (xs : List ℕ).
    StopsBy (AtFirstLine (forms_of_rows p rows) (capped (record { low = p.low; high = xs }) proof.cap ∷ []) 0
    proof.tree ∷ []) s) high_is at_low in
    subst (λ (o : Option CapTree). StopsBy (AtFirstItem (row_tests p) 0 rows ∷ proof_tests p rows o) s) (sym is)
    (stop_right (AtFirstItem (row_tests p) 0 rows ∷ []) (proof_tests p rows (Some proof)) s (λ f failed. rows_fail p 0 rows f true_rows failed, tt) at_high)
