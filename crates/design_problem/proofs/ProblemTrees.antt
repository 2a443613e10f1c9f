-- What a closed sound tree proves of a problem's costs.
use Rattle.std.proofs.Common.{◌≡◌, ◌≢◌, ℕ, zero, suc, ◌<◌, ◌≤◌, refl, sym, ◌∙◌, subst, List, [], ◌∷◌, length, get_or, arith, inl, inr}
use Rattle.std.specs.Prelude.{pos, ◌≤ℤ◌, max, min, fold, All, slice_get, slice_index, Option, Some, None}
use Rattle.std.proofs.lemmas.Bool.{cases_lt}
use Rattle.std.proofs.lemmas.List.{length-map, get_or-map, get_or_default, get_or_past}
use Rattle.std.proofs.lemmas.Int.{ints}
use Rattle.area_graph.specs.Area.{Area}
use Rattle.area_graph.specs.Paths.{IsPathOf}
use Rattle.design_problem.specs.declared.form.Form.{Form}
use Rattle.design_problem.specs.declared.boxes.CostBox.{CostBox}
use Rattle.design_problem.specs.declared.form.Row.{Row}
use Rattle.design_problem.specs.declared.problem.Request.{Request}
use Rattle.design_problem.specs.declared.tree.Entry.{Entry}
use Rattle.design_problem.specs.declared.answer.Costs.{Costs}
use Rattle.design_problem.specs.declared.answer.Floor.{Floor}
use Rattle.design_problem.specs.declared.answer.Floor.TheVariants.{Absent, Empty, Var}
use Rattle.design_problem.specs.declared.answer.CapTree.{CapTree}
use Rattle.design_problem.specs.declared.answer.Verdict.{Verdict}
use Rattle.design_problem.specs.declared.answer.Verdict.TheVariants.{Optimal, Impossible, Undecided}
use Rattle.design_problem.specs.Problems.{DesignProblem, IsProblem, request_ends, no_request}
use Rattle.design_problem.specs.Forms.{Meets, value_for_costs, no_form}
use Rattle.design_problem.specs.Boxes.{IsInBox, capped}
use Rattle.design_problem.specs.Trees.{IsSoundTree, IsClosed}
use Rattle.design_problem.specs.Rows.{IsFit, IsRow, IsRivalOf, box_of, form_between, form_of_row, forms_of_rows, path_edges, greatest_cost}
use Rattle.design_problem.specs.Answers.{AnswerParts, Proves, ShowsLeastGreatest, GivesCosts, ClaimHolds, IsValid, greatest_bound}
use Rattle.design_problem.specs.ProblemLaws.{HasNoFit, IsTrueVerdict}
use Rattle.design_problem.proofs.FormLaws.{fit-iff}
use Rattle.design_problem.proofs.TreeLaws.{closed_tree_none}

-- a rival's request is one of the list, and the rival is another path of it
record RivalAt (g : Area) (requests : List Request) (k : ℕ) (d : Request) (es : List ℕ) : Type 0 where
  within : k < length requests
  is_there : slice_get requests k ≡ Some (get_or requests k d)
  path : IsPathOf g (request_ends (get_or requests k d)) es
  other : es ≢ (get_or requests k d).path.edges

request_of_rival : (g : Area) (requests : List Request) (k : ℕ) (d : Request) (es : List ℕ) → IsRivalOf g (slice_get requests k) es → RivalAt g requests k d es
request_of_rival g [] k d es rival = absurd rival
request_of_rival g (r ∷ rs) zero d es rival = record { within = omega arith; is_there = refl; path = rival.0; other = rival.1 }
request_of_rival g (r ∷ rs) (suc k) d es rival =
    let rest = request_of_rival g rs k d es rival in
    record { within = omega (arith, rest.within); is_there = rest.is_there; path = rest.path; other = rest.other }

-- the form of a row is at least 0 at fit costs
row_met : (p : DesignProblem) (w : List ℕ) (row : Row) → IsProblem p → IsFit p w → IsRow p row → pos 0 ≤ℤ value_for_costs (form_of_row p row) w
row_met p w row kept fit is_row =
    let found = request_of_rival p.graph p.requests row.request no_request row.rival is_row in
    let meets = (fit-iff p w kept).0 fit in
    let met = meets.rows row.request no_request found.within row.rival found.path found.other in
    let counted = subst (λ (n : ℕ).
    pos 0 ≤ℤ value_for_costs (form_between p.graph n (get_or p.requests row.request no_request).path.edges row.rival) w)
    (sym fit.within.low_count) met in
    subst (λ (r : Option Request). pos 0 ≤ℤ value_for_costs (form_between p.graph (length p.low) (path_edges r) row.rival) w) (sym found.is_there) counted

abbrev no_row : Row
no_row = record { request = 0; rival = [] }

-- fit costs meet the forms of all rows
pub fit_meets : (p : DesignProblem) (rows : List Row) (w : List ℕ) → IsProblem p → All (IsRow p) rows → IsFit p w → Meets (forms_of_rows p rows) w
fit_meets p rows w kept true_rows fit k =
    elim (cases_lt k (length rows)) [
      | inl k_in ↦
          let is_row = true_rows k no_row k_in in
          subst (λ (f : Form). pos 0 ≤ℤ value_for_costs f w) (sym (get_or-map (form_of_row p) rows k no_row no_form k_in))
          (row_met p w (get_or rows k no_row) kept fit is_row)
      | inr past ↦
          subst (λ (f : Form). pos 0 ≤ℤ value_for_costs f w)
          (sym (get_or_past (forms_of_rows p rows) k no_form (omega (arith, length-map rows (form_of_row p)))))
          (omega (arith, ints))
    ]

start_le : (w : List ℕ) (start : ℕ) → start ≤ fold max start w
start_le [] start = omega arith
start_le (x ∷ w) start = let rest = start_le w (max start x) in omega arith

-- each cost is at most the greatest
le_fold : (w : List ℕ) (k start : ℕ) → k < length w → slice_index w k ≤ fold max start w
le_fold [] k start k_in = absurd (omega arith)
le_fold (x ∷ w) zero start k_in = let rest = start_le w (max start x) in omega arith
le_fold (x ∷ w) (suc k) start k_in = le_fold w k (max start x) (omega arith)

pub le_greatest : (w : List ℕ) (k : ℕ) → k < length w → slice_index w k ≤ greatest_cost w
le_greatest w k k_in = le_fold w k 0 k_in

-- a bound of each cost, and of the start, bounds the greatest
pub fold_le : (w : List ℕ) (start most : ℕ) → start ≤ most → ((k : ℕ) → k < length w → slice_index w k ≤ most) → fold max start w ≤ most
fold_le [] start most first each = first
fold_le (x ∷ w) start most first each =
    let here = each 0 (omega arith) in
    fold_le w (max start x) most (omega arith) (λ k k_in. each (suc k) (omega arith))

-- no lower bound is above the greatest bound
pub low_below : (p : DesignProblem) → IsProblem p → All (λ low. low ≤ greatest_bound p) p.low
low_below p kept k d k_in =
    let ordered = (kept.ordered k k_in).1 in
    let most = le_greatest p.high k (omega (arith, kept.low_count)) in
    let same = get_or_default p.low k 0 d k_in in
    omega arith

-- costs of the box whose greatest is within the cap lie in the box at the cap
in_capped : (box : CostBox) (cap : ℕ) (w : List ℕ) → IsInBox box w → greatest_cost w ≤ cap → IsInBox (capped box cap) w
in_capped box cap w inside small = record {
  low_count = inside.low_count;
  high_count = length-map box.high (λ h. min h cap) ∙ inside.high_count;
  above = inside.above;
  below = λ k k_in.
      let within : k < length box.high = omega (arith, inside.high_count) in
      let cut = get_or-map (λ h. min h cap) box.high k 0 0 within in
      let high = inside.below k k_in in
      let most = le_greatest w k k_in in
      rw cut (omega arith);
}

-- a closed sound tree at a cap: fit costs have a greatest cost above it
pub tree_bounds : (p : DesignProblem) (rows : List Row) (cap : ℕ) (tree : List Entry) → IsProblem p →
    All (IsRow p) rows → IsSoundTree (forms_of_rows p rows) (capped (box_of p) cap) tree → IsClosed tree →
    (w : List ℕ) → IsFit p w → cap < greatest_cost w
tree_bounds p rows cap tree kept true_rows sound closed w fit =
    elim (cases_lt cap (greatest_cost w)) [
      | inl above ↦ above
      | inr within ↦ absurd (closed_tree_none (forms_of_rows p rows) (capped (box_of p) cap) tree sound closed w
          (in_capped (box_of p) cap w fit.within within) (fit_meets p rows w kept true_rows fit))
    ]

-- fit costs are at most the greatest bound
fit_most : (p : DesignProblem) (w : List ℕ) → IsFit p w → greatest_cost w ≤ greatest_bound p
fit_most p w fit =
    fold_le w 0 (greatest_bound p) (omega arith)
    (λ k k_in.
    let high = fit.within.below k k_in in
    let most = le_fold p.high k 0 (omega (arith, fit.within.high_count)) in
    omega arith)

pub tree_leaves_none : (p : DesignProblem) (rows : List Row) (proof : CapTree) → IsProblem p → All (IsRow p) rows →
    Proves p rows (greatest_bound p) proof → HasNoFit p
tree_leaves_none p rows proof kept true_rows proves w fit =
    let above = tree_bounds p rows (greatest_bound p) proof.tree kept true_rows proves.sound proves.closed w fit in
    let most = fit_most p w fit in
    absurd (omega arith)

-- without a variable the greatest cost is 0
none_greatest : (w : List ℕ) → length w ≡ 0 → greatest_cost w ≡ 0
none_greatest [] none = refl
none_greatest (x ∷ w) none = absurd (omega arith)

-- a floor, or a proof at the cap below, bounds the greatest cost from below
pub least_shown : (p : DesignProblem) (rows : List Row) (k : ℕ) (costs : Costs) (floor : Floor)
    (proof : Option CapTree) → IsProblem p → All (IsRow p) rows → GivesCosts p k costs →
    ShowsLeastGreatest p rows k floor proof → (w : List ℕ) → IsFit p w → k ≤ greatest_cost w
least_shown p rows k costs Absent (Some proof) kept true_rows gives shows w fit =
    let above = tree_bounds p rows shows.0 proof.tree kept true_rows shows.2.sound shows.2.closed w fit in
    omega (arith, shows.1)
least_shown p rows k costs Absent None kept true_rows gives shows w fit = absurd shows
least_shown p rows k costs Empty None kept true_rows gives shows w fit =
    let zero_cost = none_greatest gives.values (omega (arith, gives.fit.within.low_count)) in
    omega (arith, gives.greatest)
least_shown p rows k costs Empty (Some proof) kept true_rows gives shows w fit = absurd shows
least_shown p rows k costs (Var v) None kept true_rows gives shows w fit =
    let low = fit.within.above v (omega (arith, fit.within.low_count)) in
    let most = le_greatest w v (omega (arith, fit.within.low_count)) in
    omega (arith, shows.1)
least_shown p rows k costs (Var v) (Some proof) kept true_rows gives shows w fit = absurd shows

-- a valid claim is true
claim_holds : (p : DesignProblem) (rows : List Row) (verdict : Verdict) (costs : Option Costs) (floor : Floor)
    (proof : Option CapTree) → IsProblem p → All (IsRow p) rows → ClaimHolds p rows verdict costs floor proof →
    IsTrueVerdict p verdict costs
claim_holds p rows (Optimal k) (Some costs) floor proof kept true_rows claim =
    let gives = claim.0 in
    record {
      costs = costs;
      is_printed = refl;
      values = gives.values;
      names = gives.names;
      best = record {
        fit = gives.fit;
        least = λ other fit. subst (λ (n : ℕ). n ≤ greatest_cost other) (sym gives.greatest)
            (least_shown p rows k costs floor proof kept true_rows gives claim.1 other fit);
      };
      greatest = gives.greatest;
    }
claim_holds p rows Impossible None Absent (Some proof) kept true_rows claim = tree_leaves_none p rows proof kept true_rows claim
claim_holds p rows (Optimal k) None floor proof kept true_rows claim = absurd claim
claim_holds p rows Impossible (Some costs) floor proof kept true_rows claim = absurd claim
claim_holds p rows Impossible None Empty proof kept true_rows claim = absurd claim
claim_holds p rows Impossible None (Var v) proof kept true_rows claim = absurd claim
claim_holds p rows Impossible None Absent None kept true_rows claim = absurd claim
claim_holds p rows (Undecided cap) costs floor proof kept true_rows claim = absurd claim

-- a valid optimal answer has best costs, and a valid impossible answer leaves no fit costs
pub valid_holds : (p : DesignProblem) (a : AnswerParts) → IsProblem p → IsValid p a → IsTrueVerdict p a.verdict a.costs
valid_holds p a kept valid = claim_holds p a.rows a.verdict a.costs a.floor a.proof kept valid.rows valid.claim
