-- Sets of requests: fewer requests, the rows of a restricted problem in the whole one, and conflicts that are refuted.
use Rattle.std.proofs.Common.{◌≡◌, ℕ, zero, suc, ◌≢◌, ◌+◌, ◌-◌, ◌<◌, ◌==◌, eq-eqb, false, ◌≤◌, refl, sym, ◌∙◌, ap, subst, inl, inr, List, [], ◌∷◌, ◌++◌, map, length, get_or, arith}
use Rattle.std.specs.Prelude.{All, AllPairs, Contains, slice_get, slice_index, Option, None, Some}
use Rattle.std.specs.List.{list_any, remove}
use Rattle.std.proofs.lemmas.Bool.{both_ways, cases_lt, false_from_ne_true, or_left, or_right}
use Rattle.std.proofs.lemmas.List.{length-map, get_or-map, get_or_default}
use Rattle.std.proofs.lemmas.List.Elements.{All-cons}
use Rattle.std.proofs.lemmas.List.Edits.{get_or-remove_below, get_or-remove_above, length-remove}
use Rattle.std.proofs.lemmas.List.Kept.{AllPairs-from_increasing}
use Rattle.std.proofs.lemmas.List.Quantifiers.{all_pairs_remove}
use Rattle.std.proofs.lemmas.Option.{slice_get-get_or, slice_get_past}
use Rattle.cost_base.specs.Lists.{numbers_from}
use Rattle.cost_base.proofs.ListLemmas.{get_or-map-numbers_from, get_or-numbers_from, length-map-numbers_from, length-numbers_from, numbers_from-push}
use Rattle.area_graph.specs.Area.{Area}
use Rattle.area_graph.specs.Costs.{IsOnlyCheapest, at_costs}
use Rattle.design_problem.specs.declared.problem.Request.{Request}
use Rattle.design_problem.specs.declared.form.Form.{Form}
use Rattle.design_problem.specs.declared.tree.Entry.{Entry}
use Rattle.design_problem.specs.declared.form.Row.{Row}
use Rattle.design_problem.specs.Problems.{DesignProblem, IsProblem, request_ends, no_request, request_at, restricted}
use Rattle.design_problem.specs.Rows.{IsFit, IsRivalOf, IsRow, LeadsEach, box_of, form_between, form_of_row, forms_of_rows, path_edges}
use Rattle.design_problem.specs.Boxes.{capped}
use Rattle.design_problem.specs.Trees.{IsClosed, IsSoundTree}
use Rattle.design_problem.specs.Answers.{greatest_bound, whole_box}
use Rattle.design_problem.proofs.OpenPlaces.{earnest_tree_sound}
use Rattle.design_problem.proofs.ProblemTrees.{low_below, tree_leaves_none}
use Rattle.design_problem.proofs.RestrictedProblems.{restricted_kept}
use Rattle.cost_branching.specs.Pools.{Differ}
use Rattle.least_conflict.specs.declared.deciding.SetTree.{SetTree}
use Rattle.least_conflict.specs.Conflicts.{IsConflict, IsRequestSet, all_requests, whole_row}
use Rattle.least_conflict.specs.Deciding.{AreConflictRows, IsRefutedSet}

-- Lists without one of their members.

-- what is left stood there before
pub rest_contained : (xs : List ℕ) (n : ℕ) → n < length xs → All (Contains xs) (remove xs n)
rest_contained xs n within k d k_in =
    let long = length-remove xs n within in
    elim (cases_lt k n) [
      | inl below ↦ (
        k,
        omega arith,
        sym (get_or-remove_below xs n (get_or (remove xs n) k d) k below within)
            ∙ get_or_default (remove xs n) k (get_or (remove xs n) k d) d k_in,
      )
      | inr above ↦ (
        k + 1,
        omega arith,
        sym (get_or-remove_above xs n (get_or (remove xs n) k d) k above within)
            ∙ get_or_default (remove xs n) k (get_or (remove xs n) k d) d k_in,
      )
    ]

-- what stood there and isn't the one that was taken out is left
pub still_contained : (xs : List ℕ) (n y : ℕ) → n < length xs → Contains xs y → y ≢ slice_index xs n → Contains (remove xs n) y
still_contained xs n y within has other =
    let long = length-remove xs n within in
    elim (cases_lt has.0 n) [
      | inl below ↦ (has.0, omega arith, get_or-remove_below xs n y has.0 below within ∙ has.2)
      | inr above ↦ elim (cases_lt n has.0) [
        | inl behind ↦
            let next : (has.0 - 1) + 1 ≡ has.0 = omega (arith, behind) in (
              has.0 - 1,
              omega arith,
              get_or-remove_above xs n y (has.0 - 1) (omega (arith, behind)) within ∙ ap (λ (i : ℕ). get_or xs i y) next ∙ has.2,
            )
        | inr not_behind ↦
            let here : has.0 ≡ n = omega (arith, above, not_behind) in
            absurd (other (sym has.2 ∙ get_or_default xs has.0 y 0 has.1 ∙ ap (λ (i : ℕ). get_or xs i 0) here))
      ]
    ]

-- the later one is taken out first, or the earlier one
pub taken_out : (xs : List ℕ) (k n : ℕ) → k ≤ n → suc n < length xs → remove (remove xs (suc n)) k ≡ remove (remove xs k) n
taken_out [] k n before within = absurd (omega arith)
taken_out (x ∷ xs) zero n before within = refl
taken_out (x ∷ xs) (suc k) zero before within = absurd (omega arith)
taken_out (x ∷ xs) (suc k) (suc n) before within = ap (λ (ys : List ℕ). x ∷ ys) (taken_out xs k n (omega arith) (omega arith))

-- Sets without one of their members.

pub rest_set : (p : DesignProblem) (members : List ℕ) (place : ℕ) → place < length members → IsRequestSet p members → IsRequestSet p (remove members place)
rest_set p members place within set =
    let pairs = all_pairs_remove (λ x y. x < y) members place within (AllPairs-from_increasing members set.rising) in
    let contained = rest_contained members place within in
    record {
      rising = λ k k_in. pairs k (k + 1) 0 (omega arith) k_in;
      known = λ k d k_in. let has = contained k d k_in in
          subst (λ (m : ℕ). m < length p.requests) has.2 (set.known has.0 (get_or (remove members place) k d) has.1);
    }

-- costs that are fit for some requests are fit for fewer
pub fit_fewer : (p : DesignProblem) (members fewer w : List ℕ) → All (Contains members) fewer → IsFit (restricted p members) w → IsFit (restricted p fewer) w
fit_fewer p members fewer w contained fit =
    let P : Request → Type 0 = λ r. IsOnlyCheapest p.graph (at_costs w) (request_ends r) r.path.edges in
    record {
      within = fit.within;
      only = λ k d k_in.
          let inside : k < length fewer = omega (arith, length-map fewer (request_at p.requests)) in
          let has = contained k 0 inside in
          let there = fit.only has.0 no_request (omega (arith, length-map members (request_at p.requests), has.1)) in
          let same = get_or-map (request_at p.requests) members has.0 (get_or fewer k 0) no_request has.1 in
          subst P (sym (get_or-map (request_at p.requests) fewer k 0 d inside)) (subst P (same ∙ ap (request_at p.requests) has.2) there);
    }

-- costs that are fit for all requests are fit
pub fit_all : (p : DesignProblem) (members w : List ℕ) → members ≡ all_requests p → IsFit (restricted p members) w → IsFit p w
fit_all p members w is fit =
    let P : Request → Type 0 = λ r. IsOnlyCheapest p.graph (at_costs w) (request_ends r) r.path.edges in
    let whole : IsFit (restricted p (all_requests p)) w = subst (λ (ms : List ℕ). IsFit (restricted p ms) w) is fit in
    record {
      within = fit.within;
      only = λ k d k_in.
          let there = whole.only k d (omega (arith, length-map-numbers_from (request_at p.requests) 0 (length p.requests))) in
          subst P (get_or-map-numbers_from (request_at p.requests) 0 (length p.requests) k d k_in ∙ at_place k d k_in) there;
    }
  where
    at_place : (k : ℕ) (d : Request) → k < length p.requests → request_at p.requests (0 + k) ≡ get_or p.requests k d
    at_place k d k_in = let e : 0 + k ≡ k = omega arith in ap (request_at p.requests) e ∙ get_or_default p.requests k no_request d k_in

-- all requests are a set of requests
pub all_set : (p : DesignProblem) (members : List ℕ) → members ≡ all_requests p → IsRequestSet p members
all_set p members is = subst (IsRequestSet p) (sym is) (record {
  rising = λ k k_in.
      let n = length p.requests in
      let within : k + 1 < n = omega (arith, length-numbers_from 0 n) in
      let here = get_or-numbers_from 0 n k 0 (omega arith) in
      let next = get_or-numbers_from 0 n (k + 1) 0 within in
      omega arith;
  known = λ k d k_in.
      let n = length p.requests in
      let within : k < n = omega (arith, length-numbers_from 0 n) in
      let here = get_or-numbers_from 0 n k d within in
      omega arith;
})

-- Rows of a restricted problem.

no_rival : (g : Area) (r : Option Request) (es : List ℕ) → r ≡ None → IsRivalOf g r es → ⊥
no_rival g None es none rival = rival
no_rival g (Some r) es none rival = absurd cc

-- the row's request is a member
pub row_known : (p : DesignProblem) (members : List ℕ) (row : Row) → IsRow (restricted p members) row → row.request < length members
row_known p members row is =
    elim (cases_lt row.request (length members)) [
      | inl below ↦ below
      | inr past ↦ absurd (no_rival p.graph _ row.rival
          (slice_get_past (map (request_at p.requests) members) row.request
          (omega (arith, length-map members (request_at p.requests)))) is)
    ]

-- members at different places differ
member_places : (p : DesignProblem) (members : List ℕ) (i j : ℕ) → IsRequestSet p members → i < length members →
    j < length members → slice_index members i ≡ slice_index members j → i ≡ j
member_places p members i j set i_in j_in same =
    let pairs = AllPairs-from_increasing members set.rising in
    elim (cases_lt i j) [
      | inl before ↦ (let rise = pairs i j 0 before j_in in absurd (omega (arith, rise, same)))
      | inr from ↦ elim (cases_lt j i) [
        | inl behind ↦ (let rise = pairs j i 0 behind i_in in absurd (omega (arith, rise, same)))
        | inr until ↦ omega (arith, from, until)
      ]
    ]

-- rows that differ do so with the whole problem's numbers
pub whole_differ : (p : DesignProblem) (members : List ℕ) (rows : List Row) → IsRequestSet p members →
    All (IsRow (restricted p members)) rows → AllPairs Differ rows → AllPairs Differ (map (whole_row members) rows)
whole_differ p members rows set true_rows once i j d before j_in =
    let count = length-map rows (whole_row members) in
    let j_known : j < length rows = omega arith in
    let i_known : i < length rows = omega arith in
    let a = get_or rows i d in
    let b = get_or rows j d in
    let known = row_known p members a (true_rows i d i_known) in
    let other = row_known p members b (true_rows j d j_known) in
    let apart : Differ (whole_row members a) (whole_row members b) =
    λ same edges. once i j d before j_known (member_places p members a.request b.request set known other same) edges in
    rw (get_or-map (whole_row members) rows i d d i_known, get_or-map (whole_row members) rows j d d j_known) apart

-- it is the request of the member's number in the whole problem
pub same_request : (p : DesignProblem) (members : List ℕ) (i : ℕ) → All (λ m. m < length p.requests) members →
    i < length members → slice_get (map (request_at p.requests) members) i ≡ slice_get p.requests (slice_index members i)
same_request p members i known within =
    slice_get-get_or (map (request_at p.requests) members) i no_request (omega (arith, length-map members (request_at p.requests)))
    ∙ ap (λ (r : Request). Some r) (get_or-map (request_at p.requests) members i 0 no_request within)
    ∙ sym (slice_get-get_or p.requests (slice_index members i) no_request (known i 0 within))

pub whole_is_row : (p : DesignProblem) (members : List ℕ) (row : Row) → All (λ m. m < length p.requests) members →
    IsRow (restricted p members) row → IsRow p (whole_row members row)
whole_is_row p members row known is =
    subst (λ (r : Option Request). IsRivalOf p.graph r row.rival) (same_request p members row.request known (row_known p members row is)) is

pub whole_form : (p : DesignProblem) (members : List ℕ) (row : Row) → All (λ m. m < length p.requests) members →
    IsRow (restricted p members) row → form_of_row p (whole_row members row) ≡ form_of_row (restricted p members) row
whole_form p members row known is =
    ap (λ (r : Option Request). form_between p.graph (length p.low) (path_edges r) row.rival)
    (sym (same_request p members row.request known (row_known p members row is)))

-- the forms of all rows
pub whole_forms : (p : DesignProblem) (members : List ℕ) (rows : List Row) → All (λ m. m < length p.requests) members →
    All (IsRow (restricted p members)) rows →
    map (form_of_row p) (map (whole_row members) rows) ≡ forms_of_rows (restricted p members) rows
whole_forms p members [] known true_rows = refl
whole_forms p members (row ∷ rows) known true_rows =
    cc (whole_form p members row known (true_rows 0 row (omega arith)), whole_forms p members rows known (λ k d k_in. true_rows (suc k) d (omega arith)))

-- Conflicts that are refuted.

pub refuted_conflict : (p : DesignProblem) (top nodes : ℕ) (t : SetTree) → IsProblem p → IsRefutedSet p top nodes t → IsConflict p t.members.items
refuted_conflict p top nodes t kept refuted =
    let q : DesignProblem = restricted p t.members.items in
    let is = refuted.tree in
    let q_kept : IsProblem q = restricted_kept p t.members.items kept is.set.rising is.set.known in
    tree_leaves_none q t.pool.rows (record { cap = greatest_bound p; tree = t.tree }) q_kept is.is_pool.rows
    (record {
      at_cap = refl;
      no_higher = low_below q q_kept;
      sound = earnest_tree_sound (LeadsEach q) top (forms_of_rows q t.pool.rows) (capped (box_of q) (greatest_bound p)) t.tree is.tree.earnest;
      closed = refuted.closed;
    })

-- Rows of requests.

-- none of the rows is one of a request
pub none_of : (request : ℕ) (rows : List Row) → list_any (λ row. row.request == request) rows ≡ false → All (λ row. row.request ≢ request) rows
none_of request [] none = λ k d within. absurd (omega arith)
none_of request (row ∷ rows) none = All-cons (λ r. r.request ≢ request) row rows
    (λ same. both_ways (list_any (λ r. r.request == request) (row ∷ rows)) none
    (or_left (row.request == request) (list_any (λ r. r.request == request) rows) (eq-eqb row.request request same)))
    (none_of request rows (false_from_ne_true (list_any (λ r. r.request == request) rows)
    (λ some. both_ways (list_any (λ r. r.request == request) (row ∷ rows)) none
    (or_right (row.request == request) (list_any (λ r. r.request == request) rows) some))))

-- rows of some requests, as those of the restricted problem
record Within (p : DesignProblem) (members : List ℕ) (rows : List Row) : Type 0 where
  restricted_rows : List Row
  same : map (whole_row members) restricted_rows ≡ rows
  are : All (IsRow (restricted p members)) restricted_rows

within_set : (p : DesignProblem) (members : List ℕ) (rows : List Row) → All (λ m. m < length p.requests) members → All (IsRow p) rows →
    All (λ row. Contains members row.request) rows → Within p members rows
within_set p members [] known true_rows contained = record { restricted_rows = []; same = refl; are = λ k d k_in. absurd (omega arith) }
within_set p members (row ∷ rows) known true_rows contained =
    let rest = within_set p members rows known (λ k d k_in. true_rows (suc k) d (omega arith)) (λ k d k_in. contained (suc k) d (omega arith)) in
    let has = contained 0 row (omega arith) in
    let at : slice_index members has.0 ≡ row.request = get_or_default members has.0 0 row.request has.1 ∙ has.2 in
    let here : Row = record { request = has.0; rival = row.rival } in
    record {
      restricted_rows = here ∷ rest.restricted_rows;
      same = ap (λ (n : ℕ). let r : Row = record { request = n; rival = row.rival } in r ∷ map (whole_row members) rest.restricted_rows) at
          ∙ ap (λ (rs : List Row). row ∷ rs) rest.same;
      are = All-cons (IsRow (restricted p members)) here rest.restricted_rows
          (subst (λ (r : Option Request). IsRivalOf p.graph r row.rival)
          (sym (same_request p members has.0 known has.1 ∙ ap (λ (m : ℕ). slice_get p.requests m) at)) (true_rows 0 row (omega arith)))
          rest.are;
    }

-- a closed sound tree over rows of some requests shows that any set of requests with these is a conflict
pub rows_conflict : (p : DesignProblem) (rows : List Row) (tree : List Entry) → IsProblem p → All (IsRow p) rows →
    IsSoundTree (forms_of_rows p rows) (whole_box p) tree → IsClosed tree → AreConflictRows p rows
rows_conflict p rows tree kept true_rows sound closed = λ members set contained.
    let q : DesignProblem = restricted p members in
    let q_kept : IsProblem q = restricted_kept p members kept set.rising set.known in
    let own = within_set p members rows set.known true_rows contained in
    tree_leaves_none q own.restricted_rows (record { cap = greatest_bound p; tree = tree }) q_kept own.are
    (record {
      at_cap = refl;
      no_higher = low_below q q_kept;
      sound = subst (λ (forms : List Form). IsSoundTree forms (whole_box p) tree)
          (ap (λ (rs : List Row). forms_of_rows p rs) (sym own.same) ∙ whole_forms p members own.restricted_rows set.known own.are) sound;
      closed = closed;
    })

-- Lists by other names.

-- the numbers in a row, and one more
pub numbers_more : (all more : List ℕ) (n x : ℕ) → x ≡ n → all ≡ numbers_from 0 n → more ≡ all ++ x ∷ [] → more ≡ numbers_from 0 (n + 1)
numbers_more all more n x is so_far pushed =
    let e : x ≡ 0 + n = omega (arith, is) in
    pushed ∙ ap (λ (xs : List ℕ). xs ++ x ∷ []) so_far ∙ ap (λ (k : ℕ). numbers_from 0 n ++ k ∷ []) e ∙ sym (numbers_from-push 0 n)

-- the members without one
pub others_are : (members others slice : List ℕ) (place count : ℕ) → slice ≡ members → place ≡ count →
    others ≡ remove slice place → others ≡ remove members count
others_are members others slice place count same at is = is ∙ ap (λ (ms : List ℕ). remove ms place) same ∙ ap (λ (n : ℕ). remove members n) at

-- the rows of a pool in the whole problem
pub whole_are : (members slice : List ℕ) (pool taken rows : List Row) → slice ≡ members → taken ≡ pool →
    rows ≡ map (whole_row slice) taken → rows ≡ map (whole_row members) pool
whole_are members slice pool taken rows same from is = is ∙ ap (λ (ms : List ℕ). map (whole_row ms) taken) same
    ∙ ap (λ (rs : List Row). map (whole_row members) rs) from

-- a cap that is the greatest bound of the restricted problem
pub cap_above : (p q : DesignProblem) (members slice : List ℕ) (cap : ℕ) → IsProblem p → IsRequestSet p members →
    slice ≡ members → q ≡ restricted p slice → cap ≡ greatest_bound q → All (λ low. low ≤ cap) q.low
cap_above p q members slice cap kept set same is cap_is =
    let q_is : q ≡ restricted p members = is ∙ ap (λ (ms : List ℕ). restricted p ms) same in
    let q_kept : IsProblem q = subst IsProblem (sym q_is) (restricted_kept p members kept set.rising set.known) in
    subst (λ (n : ℕ). All (λ low. low ≤ n) q.low) (sym cap_is) (low_below q q_kept)
