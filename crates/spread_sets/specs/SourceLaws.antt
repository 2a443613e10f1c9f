-- Laws of the source of sets: its true forms hold where each set shares, they stand in one list, and sets that share at
-- multiples of costs share at the costs.
use Rattle.std.proofs.Common.{◌≡◌, ℕ, zero, suc, ◌+◌, ◌*◌, ◌^◌, ◌<◌, ◌≤◌, refl, sym, ◌∙◌, subst, ap, get_or, List, [], ◌∷◌, map, length, arith}
use Rattle.std.specs.Prelude.{ℤ, pos, ◌+ℤ◌, ◌-ℤ◌, ◌*ℤ◌, ◌≤ℤ◌, nat_abs, Contains}
use Rattle.std.proofs.lemmas.Int.{ints}
use Rattle.std.proofs.lemmas.List.Elements.{All-contains, Contains-append_left, Contains-append_right}
use Rattle.whole_numbers.proofs.Ring.{var, num, ◌⊕◌, ◌⊖◌, ◌⊗◌, ring}
use Rattle.whole_numbers.proofs.FractionLaws.{nat_cancel}
use Rattle.area_graph.specs.declared.Point.{Point}
use Rattle.area_graph.specs.Paths.{Ends, IsPathOf}
use Rattle.area_graph.specs.Costs.{at_costs, cost}
use Rattle.design_problem.specs.declared.problem.Request.{Request}
use Rattle.design_problem.specs.Forms.{Form}
use Rattle.design_problem.specs.Forms.{dot, value_for_costs, value_at}
use Rattle.design_problem.specs.Problems.{DesignProblem, IsProblem, request_ends, no_request, request_at, IsProblemOnGraph}
use Rattle.design_problem.specs.Rows.{fixed_cost, form_between}
use Rattle.design_problem.proofs.AtCosts.{value_at_costs}
use Rattle.design_problem.proofs.FormBounds.{simple_form_small}
use Rattle.form_search.specs.Sources.{IsTrueForm, scaled}
use Rattle.cost_branching.specs.PossibleForms.{edge_lists}
use Rattle.cost_branching.specs.SourceLaws.{at_least, contains-map, multiple_divided, path_listed, scaled_cost, small_value, value_between}
use Rattle.set_separation.specs.Outsiders.{IsOutsider}
use Rattle.spread_sets.specs.declared.spread.SetRow.{SetRow}
use Rattle.spread_sets.specs.declared.spread.SetRow.TheVariants.{Outsider, Same}
use Rattle.spread_sets.specs.Spreads.{IsSetRow, Shares, SharesEach, cost_of_set, edges_of, ends_in, name_of_set, form_of_set_row, form_of_tie, paths_of}
use Rattle.spread_sets.specs.MemberSets.{AreMemberSets, IsMemberSet}
use Rattle.spread_sets.specs.Sources.{IsTrueOfSets, possible_forms_of, forms_of_pairs}

-- The paths of members.

-- the first member of a set is one of its members
pub first_listed : (set : List ℕ) → 0 < length set → Contains set (name_of_set set)
first_listed [] some = absurd (omega arith)
first_listed (i ∷ more) some = (0, omega arith, refl)

-- a member is a wanted path
pub member_known : (p : DesignProblem) (set : List ℕ) (i : ℕ) → IsMemberSet p set → Contains set i → i < length p.requests
member_known p set i is has = All-contains (λ j. j < length p.requests) set i is.known has

-- a member's path is a simple path of the set's request
pub member_path : (p : DesignProblem) (set : List ℕ) (i : ℕ) → IsProblem p → IsMemberSet p set → Contains set i →
    IsPathOf p.graph (ends_in p set) (edges_of p i)
member_path p set i kept is has =
    subst (λ (ends : Ends). IsPathOf p.graph ends (edges_of p i)) (All-contains (λ j. request_ends (request_at p.requests j) ≡ ends_in p set) set i is.ends has)
    (kept.requests i no_request (member_known p set i is has))

-- what a member costs where the set shares
pub member_cost : (p : DesignProblem) (point : Point) (set : List ℕ) (i : ℕ) → Shares p point set → Contains set i →
    cost p.graph point (edges_of p i) ≡ cost_of_set p point set
member_cost p point set i shares has =
    All-contains (λ es. cost p.graph point es ≡ cost_of_set p point set) (paths_of p set) (edges_of p i) shares.tied (contains-map (edges_of p) set i has)

-- The value of a tie's form at a point.

-- a value that has the scale subtracted, without that scale
one_scale : (a b s d x : ℤ) → ((((a -ℤ b) -ℤ pos 1) *ℤ s) +ℤ d) ≡ (x -ℤ s) → (((a -ℤ b) *ℤ s) +ℤ d) ≡ x
one_scale a b s d x same =
    ring (a ∷ b ∷ s ∷ d ∷ []) ((var 0 ⊖ var 1) ⊗ var 2 ⊕ var 3) (((((var 0 ⊖ var 1) ⊖ num (pos 1)) ⊗ var 2) ⊕ var 3) ⊕ var 2) refl
    ∙ ap (λ (z : ℤ). z +ℤ s) same
    ∙ ring (x ∷ s ∷ []) ((var 0 ⊖ var 1) ⊕ var 1) (var 0) refl

-- the value of a tie's form at a point: cost(second) - cost(first)
pub value_of_tie : (p : DesignProblem) (point : Point) (first second : List ℕ) → IsProblem p →
    length point.values ≡ length p.low → value_at (form_of_tie p.graph (length p.low) first second) point
    ≡ (pos (cost p.graph point second) -ℤ pos (cost p.graph point first))
value_of_tie p point first second kept count =
    one_scale (pos (fixed_cost p.graph second)) (pos (fixed_cost p.graph first)) (pos point.scale)
    (dot (form_of_tie p.graph (length p.low) first second).coefficients point.values)
    (pos (cost p.graph point second) -ℤ pos (cost p.graph point first)) (value_between p point first second kept count)

-- Every row's form holds where each set shares.

-- the form of an outsider is at least 0 where each set shares
outsider_met : (p : DesignProblem) (sets : List (List ℕ)) (set es : List ℕ) (point : Point) → IsProblem p →
    length point.values ≡ length p.low → Contains sets set → IsOutsider p.graph (ends_in p set) (paths_of p set) es →
    SharesEach p sets point →
    pos 0 ≤ℤ value_at (form_between p.graph (length p.low) (edges_of p (name_of_set set)) es) point
outsider_met p sets set es point kept count has outsider each =
    let shares = All-contains (Shares p point) sets set each has in
    subst (λ (z : ℤ). pos 0 ≤ℤ z) (sym (value_between p point (edges_of p (name_of_set set)) es kept count))
    (at_least (cost p.graph point es) (cost_of_set p point set) point.scale (shares.dearer es outsider))

-- the form of an outsider is a true form
outsider_holds : (p : DesignProblem) (sets : List (List ℕ)) (set es : List ℕ) → IsProblemOnGraph p → AreMemberSets p sets →
    Contains sets set → IsOutsider p.graph (ends_in p set) (paths_of p set) es →
    IsTrueForm (length p.low) (SharesEach p sets) (form_between p.graph (length p.low) (edges_of p (name_of_set set)) es)
outsider_holds p sets set es kept are has outsider =
    let is = All-contains (IsMemberSet p) sets set are has in
    let wanted = member_path p set (name_of_set set) kept.problem is (first_listed set is.some) in
    let small = simple_form_small p.graph (length p.low) (ends_in p set) (ends_in p set) (edges_of p (name_of_set set)) es
    kept.graph kept.metrics kept.problem.priced wanted outsider.path in
    record {
      count = small.count;
      sizes = small.sizes;
      values = λ w count each. small_value (length p.low) (form_between p.graph (length p.low) (edges_of p (name_of_set set)) es) w small each;
      met = λ point count each. outsider_met p sets set es point kept.problem count has outsider each;
    }

-- two numbers differ by less than 2^27 where both differences, less 1, are below it in size
tie_small : (a b : ℕ) → nat_abs ((pos b -ℤ pos a) -ℤ pos 1) < 2 ^ 27 → nat_abs ((pos a -ℤ pos b) -ℤ pos 1) < 2 ^ 27 → nat_abs (pos b -ℤ pos a) < 2 ^ 27
tie_small a b first other = omega (arith, ints)

-- the difference of two numbers that equal a third is at least 0
none_between : (a b c : ℕ) → a ≡ c → b ≡ c → pos 0 ≤ℤ (pos b -ℤ pos a)
none_between a b c first other = omega (arith, ints)

-- the form of a tie is at least 0 where each set shares
tie_met : (p : DesignProblem) (sets : List (List ℕ)) (set : List ℕ) (i j : ℕ) (point : Point) → IsProblem p →
    length point.values ≡ length p.low → Contains sets set → Contains set i → Contains set j → SharesEach p sets point →
    pos 0 ≤ℤ value_at (form_of_tie p.graph (length p.low) (edges_of p i) (edges_of p j)) point
tie_met p sets set i j point kept count has has_i has_j each =
    let shares = All-contains (Shares p point) sets set each has in
    subst (λ (z : ℤ). pos 0 ≤ℤ z) (sym (value_of_tie p point (edges_of p i) (edges_of p j) kept count))
    (none_between (cost p.graph point (edges_of p i)) (cost p.graph point (edges_of p j)) (cost_of_set p point set)
    (member_cost p point set i shares has_i) (member_cost p point set j shares has_j))

-- the value of the form of two paths at costs
pub between_at : (p : DesignProblem) (w first second : List ℕ) → IsProblem p → length w ≡ length p.low →
    value_for_costs (form_between p.graph (length p.low) first second) w
    ≡ ((pos (cost p.graph (at_costs w) second) -ℤ pos (cost p.graph (at_costs w) first)) -ℤ pos 1)
between_at p w first second kept count = sym (value_at_costs (form_between p.graph (length p.low) first second) w)
    ∙ value_between p (at_costs w) first second kept count

-- the value of a tie's form at costs: cost(second) - cost(first)
pub tie_at : (p : DesignProblem) (w first second : List ℕ) → IsProblem p → length w ≡ length p.low →
    value_for_costs (form_of_tie p.graph (length p.low) first second) w
    ≡ (pos (cost p.graph (at_costs w) second) -ℤ pos (cost p.graph (at_costs w) first))
tie_at p w first second kept count = sym (value_at_costs (form_of_tie p.graph (length p.low) first second) w)
    ∙ value_of_tie p (at_costs w) first second kept count

-- a whole number below 2^27 in size
abbrev IsBelow2To27 : ℤ → Type 0
IsBelow2To27 z = nat_abs z < 2 ^ 27

-- the form of a tie is a true form
tie_holds : (p : DesignProblem) (sets : List (List ℕ)) (set : List ℕ) (i j : ℕ) → IsProblemOnGraph p → AreMemberSets p sets →
    Contains sets set → Contains set i → Contains set j →
    IsTrueForm (length p.low) (SharesEach p sets) (form_of_tie p.graph (length p.low) (edges_of p i) (edges_of p j))
tie_holds p sets set i j kept are has has_i has_j =
    let n = length p.low in
    let ends = ends_in p set in
    let is = All-contains (IsMemberSet p) sets set are has in
    let first = member_path p set i kept.problem is has_i in
    let second = member_path p set j kept.problem is has_j in
    let there = simple_form_small p.graph n ends ends (edges_of p i) (edges_of p j) kept.graph kept.metrics kept.problem.priced first second in
    let back = simple_form_small p.graph n ends ends (edges_of p j) (edges_of p i) kept.graph kept.metrics kept.problem.priced second first in
    record {
      count = there.count;
      sizes = there.sizes;
      values = λ w count each.
          subst IsBelow2To27 (sym (tie_at p w (edges_of p i) (edges_of p j) kept.problem count))
          (tie_small (cost p.graph (at_costs w) (edges_of p i)) (cost p.graph (at_costs w) (edges_of p j))
          (subst IsBelow2To27 (between_at p w (edges_of p i) (edges_of p j) kept.problem count)
          (small_value n (form_between p.graph n (edges_of p i) (edges_of p j)) w there each))
          (subst IsBelow2To27 (between_at p w (edges_of p j) (edges_of p i) kept.problem count)
          (small_value n (form_between p.graph n (edges_of p j) (edges_of p i)) w back each)));
      met = λ point count each. tie_met p sets set i j point kept.problem count has has_i has_j each;
    }

-- the form of each row of the sets is a true form
row_holds : (p : DesignProblem) (sets : List (List ℕ)) (row : SetRow) → IsProblemOnGraph p → AreMemberSets p sets →
    IsSetRow p sets row → IsTrueForm (length p.low) (SharesEach p sets) (form_of_set_row p row)
row_holds p sets (Outsider name outsider) kept are is =
    subst (λ (k : ℕ). IsTrueForm (length p.low) (SharesEach p sets) (form_between p.graph (length p.low) (edges_of p k) outsider)) is.1.first
    (outsider_holds p sets is.0 outsider kept are is.1.listed is.2)
row_holds p sets (Same name i j) kept are is = tie_holds p sets is.0 i j kept are is.1.listed is.2 is.3

-- a true form is small, and at least 0 at each point where each set shares
pub set_forms_hold : (p : DesignProblem) (sets : List (List ℕ)) (form : Form) → IsTrueOfSets p sets form → IsTrueForm (length p.low) (SharesEach p sets) form
set_forms_hold p sets form is =
    subst (λ (f : Form). IsTrueForm (length p.low) (SharesEach p sets) f) is.of_row.same (row_holds p sets is.of_row.row is.kept is.are is.of_row.is_row)

-- a row's form is at least 0 where each set shares
pub set_row_met : (p : DesignProblem) (sets : List (List ℕ)) (row : SetRow) (point : Point) → IsProblem p →
    length point.values ≡ length p.low → IsSetRow p sets row → SharesEach p sets point →
    pos 0 ≤ℤ value_at (form_of_set_row p row) point
set_row_met p sets (Outsider name outsider) point kept count is each =
    subst (λ (k : ℕ). pos 0 ≤ℤ value_at (form_between p.graph (length p.low) (edges_of p k) outsider) point) is.1.first
    (outsider_met p sets is.0 outsider point kept count is.1.listed is.2 each)
set_row_met p sets (Same name i j) point kept count is each = tie_met p sets is.0 i j point kept count is.1.listed is.2 is.3 each

-- Every true form stands in the list of the possible forms.

-- the form of a wanted path and a short list of edges is among those of all such pairs
pair_listed : (p : DesignProblem) (form : List ℕ → List ℕ → Form) (requests : List Request) (k : ℕ) (es : List ℕ) →
    k < length requests → Contains (edge_lists p) es →
    Contains (forms_of_pairs p form requests) (form (request_at requests k).path.edges es)
pair_listed p form [] k es known has = absurd (omega arith)
pair_listed p form (r ∷ rs) zero es known has =
    Contains-append_left (map (form r.path.edges) (edge_lists p)) (forms_of_pairs p form rs) (form r.path.edges es)
    (contains-map (form r.path.edges) (edge_lists p) es has)
pair_listed p form (r ∷ rs) (suc k) es known has =
    Contains-append_right (map (form r.path.edges) (edge_lists p)) (forms_of_pairs p form rs)
    (form (request_at rs k).path.edges es) (pair_listed p form rs k es (omega arith) has)

-- the form of each row of the sets is among the possible forms
row_listed : (p : DesignProblem) (sets : List (List ℕ)) (row : SetRow) → IsProblemOnGraph p → AreMemberSets p sets →
    IsSetRow p sets row → Contains (possible_forms_of p) (form_of_set_row p row)
row_listed p sets (Outsider name outsider) kept are is =
    let set = is.0 in
    let is_set = All-contains (IsMemberSet p) sets set are is.1.listed in
    let between = form_between p.graph (length p.low) in
    let known : name < length p.requests =
    subst (λ (k : ℕ). k < length p.requests) is.1.first
    (member_known p set (name_of_set set) is_set (first_listed set is_set.some)) in
    Contains-append_left (forms_of_pairs p between p.requests)
    (forms_of_pairs p (form_of_tie p.graph (length p.low)) p.requests) (between (edges_of p name) outsider)
    (pair_listed p between p.requests name outsider known (path_listed p (ends_in p set) outsider kept.graph is.2.path))
row_listed p sets (Same name i j) kept are is =
    let set = is.0 in
    let is_set = All-contains (IsMemberSet p) sets set are is.1.listed in
    let tie = form_of_tie p.graph (length p.low) in
    Contains-append_right (forms_of_pairs p (form_between p.graph (length p.low)) p.requests) (forms_of_pairs p tie p.requests)
    (tie (edges_of p i) (edges_of p j))
    (pair_listed p tie p.requests i (edges_of p j) (member_known p set i is_set is.2)
    (path_listed p (ends_in p set) (edges_of p j) kept.graph (member_path p set j kept.problem is_set is.3)))

-- each true form is among the possible forms
pub set_forms_listed : (p : DesignProblem) (sets : List (List ℕ)) (form : Form) → IsTrueOfSets p sets form → Contains (possible_forms_of p) form
set_forms_listed p sets form is =
    subst (λ (f : Form). Contains (possible_forms_of p) f) is.of_row.same
    (row_listed p sets is.of_row.row is.kept is.are is.of_row.is_row)

-- Sets that share at multiples of costs share at the costs.

-- a set that shares at multiples of costs shares at the costs
set_free : (p : DesignProblem) (w : List ℕ) (scale : ℕ) (set : List ℕ) → 0 < scale → Shares p (scaled w scale) set → Shares p (at_costs w) set
set_free p w scale set some shares = record {
  tied = λ k d k_in.
      let es = get_or (paths_of p set) k d in
      let first = edges_of p (name_of_set set) in
      nat_cancel scale (cost p.graph (at_costs w) es) (cost p.graph (at_costs w) first) some
      (sym (scaled_cost p.graph w scale es) ∙ shares.tied k d k_in ∙ scaled_cost p.graph w scale first);
  dearer = λ es outsider.
      let first = edges_of p (name_of_set set) in
      let more = shares.dearer es outsider in
      multiple_divided (cost p.graph (at_costs w) first) (cost p.graph (at_costs w) es) scale some
      (subst (λ (n : ℕ). n + scale ≤ cost p.graph (at_costs w) es * scale) (scaled_cost p.graph w scale first)
      (subst (λ (n : ℕ). cost p.graph (scaled w scale) first + scale ≤ n) (scaled_cost p.graph w scale es) more));
}

-- where each set shares at multiples of costs, each shares at the costs
pub set_scale_is_free : (p : DesignProblem) (sets : List (List ℕ)) (w : List ℕ) (scale : ℕ) → 0 < scale →
    SharesEach p sets (scaled w scale) → SharesEach p sets (at_costs w)
set_scale_is_free p sets w scale some each k d k_in = set_free p w scale (get_or sets k d) some (each k d k_in)
