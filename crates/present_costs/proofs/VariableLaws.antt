-- The present costs of variables: there is one for each, within its bounds, and each of its links has it.
use Rattle.std.proofs.Common.{◌≡◌, ℕ, zero, suc, ◌+◌, ◌<◌, ◌≤◌, refl, sym, ◌∙◌, ap, List, [], ◌∷◌, ◌++◌, length, get_or, arith, Bool, true, false, cond, Option, Some, None}
use Rattle.std.specs.Prelude.{slice_get, slice_index, nat_le, if◌then◌else◌, ◌&&◌, ◌==◌}
use Rattle.std.specs.List.{list_all}
use Rattle.std.proofs.lemmas.Bool.{and_parts, and_from, eqb-true, eq-eqb, leb-true}
use Rattle.std.proofs.lemmas.List.Folds.{list_all-append}
use Rattle.cost_base.proofs.ListLemmas.{length-map-numbers_from, get_or-map-numbers_from}
use Rattle.lsdb_build.specs.declared.Linked.{Linked}
use Rattle.lsdb_build.specs.Graphs.{Database}
use Rattle.request_reader.specs.Asked.{Asked}
use Rattle.path_requests.specs.Meaning.{range_of, is_free, variable_of, present_cost, problem_of}
use Rattle.present_costs.specs.PresentCosts.{costs_of_variable, common_cost, if_within, present_of_variable, present_of_variables}

-- there is one for each variable
pub present_count : (a : Asked) (d : Database) → length (present_of_variables a d) ≡ length (problem_of a d).low
present_count a d = length-map-numbers_from (present_of_variable a d) 0 (length (problem_of a d).low)

pub present_at : (a : Asked) (d : Database) (k : ℕ) → k < length (problem_of a d).low → get_or (present_of_variables a d) k None ≡ present_of_variable a d k
present_at a d k within =
    get_or-map-numbers_from (present_of_variable a d) 0 (length (problem_of a d).low) k None within ∙ ap (present_of_variable a d) (omega arith)

-- a cost within bounds is the cost, and within them
record IsWithin (low high cost : ℕ) (o : Option ℕ) : Type 0 where
  is : o ≡ Some cost
  above : low ≤ cost
  below : cost ≤ high

within_is : (low high cost : ℕ) (o : Option ℕ) → if_within low high o ≡ Some cost → IsWithin low high cost o
within_is low high cost None is = absurd (cc)
within_is low high cost (Some found) is = by_test (nat_le low found && nat_le found high) refl is
  where
    by_test : (b : Bool) → (nat_le low found && nat_le found high) ≡ b → cond b (Some found) None ≡ Some cost → IsWithin low high cost (Some found)
    by_test true passes is =
        let same : found ≡ cost = cc in
        let parts = and_parts (nat_le low found) (nat_le found high) passes in
        let lower = leb-true low found parts.0 in
        let upper = leb-true found high parts.1 in
        record { is = is; above = omega arith; below = omega arith }
    by_test false passes is = absurd (cc)

-- it lies within the variable's bounds
pub present_within : (a : Asked) (d : Database) (k cost : ℕ) → present_of_variable a d k ≡ Some cost →
    (slice_index (problem_of a d).low k ≤ cost) × (cost ≤ slice_index (problem_of a d).high k)
present_within a d k cost is =
    let here = within_is (slice_index (problem_of a d).low k) (slice_index (problem_of a d).high k) cost (common_cost (costs_of_variable a d k 0 d.links)) is in
    (here.above, here.below)

-- the cost that all of some costs are is the cost of each
common_all : (costs : List ℕ) (cost : ℕ) → common_cost costs ≡ Some cost → list_all (λ other. other == cost) costs ≡ true
common_all [] cost is = absurd (cc)
common_all (first ∷ costs) cost is = by_test (list_all (λ other. other == first) costs) refl is
  where
    by_test : (b : Bool) → list_all (λ other. other == first) costs ≡ b → cond b (Some first) None ≡ Some cost →
        list_all (λ other. other == cost) (first ∷ costs) ≡ true
    by_test true all is =
        let same : first ≡ cost = cc in
        and_from (first == cost) (list_all (λ other. other == cost) costs) (eq-eqb first cost same)
        (ap (λ (c : ℕ). list_all (λ other. other == c) costs) (sym same) ∙ all)
    by_test false all is = absurd (cc)

cost_there : (a : Asked) (d : Database) (k l : ℕ) (links : List Linked) (cost j : ℕ) (link : Linked) →
    list_all (λ other. other == cost) (costs_of_variable a d k l links) ≡ true → slice_get links j ≡ Some link →
    is_free (range_of a d link) ≡ true → variable_of a d (l + j) ≡ k → present_cost a link ≡ cost
cost_there a d k l [] cost j link all there free its = absurd (cc)
cost_there a d k l (first ∷ links) cost zero link all there free its =
    let rest = costs_of_variable a d k (l + 1) links in
    let same : first ≡ link = cc in
    let place : l ≡ l + 0 = omega arith in
    let test : (is_free (range_of a d first) && variable_of a d l == k) ≡ true
    = and_from (is_free (range_of a d first)) (variable_of a d l == k)
    (ap (λ (i : Linked). is_free (range_of a d i)) same ∙ free) (eq-eqb (variable_of a d l) k (ap (variable_of a d) place ∙ its)) in
    let passes : ((present_cost a first == cost) && list_all (λ other. other == cost) rest) ≡ true
    = ap (λ b. list_all (λ other. other == cost) (cond b (present_cost a first ∷ []) [] ++ rest)) (sym test) ∙ all in
    ap (present_cost a) (sym same)
    ∙ eqb-true (present_cost a first) cost (and_parts (present_cost a first == cost) (list_all (λ other. other == cost) rest) passes).0
cost_there a d k l (first ∷ links) cost (suc j) link all there free its =
    let here : List ℕ = if is_free (range_of a d first) && variable_of a d l == k then present_cost a first ∷ [] else [] in
    let rest = costs_of_variable a d k (l + 1) links in
    let parts = and_parts (list_all (λ other. other == cost) here) (list_all (λ other. other == cost) rest)
    (sym (list_all-append (λ other. other == cost) here rest) ∙ all) in
    let place : l + 1 + j ≡ l + suc j = omega arith in
    cost_there a d k (l + 1) links cost j link parts.1 there free (ap (variable_of a d) place ∙ its)

-- each link of the variable has it
pub present_of_link : (a : Asked) (d : Database) (k cost l : ℕ) (link : Linked) → present_of_variable a d k ≡ Some cost →
    slice_get d.links l ≡ Some link → is_free (range_of a d link) ≡ true → variable_of a d l ≡ k → present_cost a link ≡ cost
present_of_link a d k cost l link is there free its =
    let place : 0 + l ≡ l = omega arith in
    let here = within_is (slice_index (problem_of a d).low k) (slice_index (problem_of a d).high k) cost (common_cost (costs_of_variable a d k 0 d.links)) is in
    cost_there a d k 0 d.links cost l link (common_all (costs_of_variable a d k 0 d.links) cost here.is) there free (ap (variable_of a d) place ∙ its)
