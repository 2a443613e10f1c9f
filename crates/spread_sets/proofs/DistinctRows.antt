-- No row of sets comes twice.
use Rattle.std.proofs.Common.{◌≡◌, ◌≢◌, ℕ, zero, suc, ◌+◌, ◌<◌, refl, sym, ◌∙◌, ap, subst, inl, inr, get_or, List, [], ◌∷◌, map, length, arith, Bool, true, false, if◌then◌else◌}
use Rattle.std.specs.Prelude.{ℤ, pos, ◌≤ℤ◌, ◌<ℤ◌, All, AllPairs, filter}
use Rattle.std.proofs.lemmas.Bool.{cases_lt, eqb-true}
use Rattle.std.proofs.lemmas.Int.{ints}
use Rattle.std.proofs.lemmas.List.{get_or-map, length-map}
use Rattle.std.proofs.lemmas.List.Elements.{All-append, All-cons, All-head, All-map, All-nil, All-tail, All-weaker}
use Rattle.std.proofs.lemmas.List.Kept.{AllPairs-cons, AllPairs-filter, AllPairs-from_increasing}
use Rattle.cost_base.specs.Lists.{numbers_from}
use Rattle.cost_base.proofs.ListLemmas.{all_kept, get_or-numbers_from, length-numbers_from, pairs_head, pairs_tail, pairs_append, pairs_nil}
use Rattle.area_graph.specs.declared.Point.{Point}
use Rattle.design_problem.specs.Forms.{value_at}
use Rattle.design_problem.specs.Problems.{DesignProblem}
use Rattle.design_problem.specs.Rows.{form_between}
use Rattle.set_reader.specs.Reading.{stands_in}
use Rattle.set_reader.specs.SpreadSets.{AreSetsOf, IsSetOf}
use Rattle.spread_sets.specs.declared.spread.SetRow.{SetRow}
use Rattle.spread_sets.specs.declared.spread.SetRow.TheVariants.{Outsider, Same}
use Rattle.spread_sets.specs.Spreads.{SetRowsDiffer, all_sets, edges_of, name_of_set, form_of_set_row, is_first, name_of, set_of}
use Rattle.spread_sets.specs.MemberSets.{AreDistinctSets}
use Rattle.spread_sets.specs.Sources.{KnownSets, set_at, tie_rows, ties_in, ties_of}
use Rattle.spread_sets.specs.Asking.{IsPassed}

-- Rows of ties.

names_differ : (a b : SetRow) → name_of a ≢ name_of b → SetRowsDiffer a b
names_differ (Outsider a outsider) (Outsider b other) differ = λ same edges. differ same
names_differ (Outsider a outsider) (Same b i j) differ = tt
names_differ (Same a i j) (Outsider b outsider) differ = tt
names_differ (Same a i j) (Same b k l) differ = λ same first second. differ same

-- a member that isn't among those of the ties
lacks_first : (name i b : ℕ) (set : List ℕ) → All (λ k. i ≢ k) set → All (SetRowsDiffer (Same name i b)) (ties_of name set)
lacks_first name i b [] lacks = All-nil (SetRowsDiffer (Same name i b))
lacks_first name i b (k ∷ []) lacks = All-nil (SetRowsDiffer (Same name i b))
lacks_first name i b (k ∷ l ∷ more) lacks =
    let Lacks : ℕ → Type 0 = λ n. i ≢ n in
    let rest = All-tail Lacks k (l ∷ more) lacks in
    All-cons (SetRowsDiffer (Same name i b)) (Same name k l) (Same name l k ∷ ties_of name (l ∷ more))
    (λ same first second. All-head Lacks k (l ∷ more) lacks first)
    (All-cons (SetRowsDiffer (Same name i b)) (Same name l k) (ties_of name (l ∷ more))
    (λ same first second. All-head Lacks l more rest first) (lacks_first name i b (l ∷ more) rest))

lacks_second : (name a i : ℕ) (set : List ℕ) → All (λ k. i ≢ k) set → All (SetRowsDiffer (Same name a i)) (ties_of name set)
lacks_second name a i [] lacks = All-nil (SetRowsDiffer (Same name a i))
lacks_second name a i (k ∷ []) lacks = All-nil (SetRowsDiffer (Same name a i))
lacks_second name a i (k ∷ l ∷ more) lacks =
    let Lacks : ℕ → Type 0 = λ n. i ≢ n in
    let rest = All-tail Lacks k (l ∷ more) lacks in
    All-cons (SetRowsDiffer (Same name a i)) (Same name k l) (Same name l k ∷ ties_of name (l ∷ more))
    (λ same first second. All-head Lacks l more rest second)
    (All-cons (SetRowsDiffer (Same name a i)) (Same name l k) (ties_of name (l ∷ more))
    (λ same first second. All-head Lacks k (l ∷ more) lacks second) (lacks_second name a i (l ∷ more) rest))

ties_differ : (name : ℕ) (set : List ℕ) → AllPairs (λ i j. i ≢ j) set → AllPairs SetRowsDiffer (ties_of name set)
ties_differ name [] apart = pairs_nil SetRowsDiffer
ties_differ name (i ∷ []) apart = pairs_nil SetRowsDiffer
ties_differ name (i ∷ j ∷ more) apart =
    let lacks = pairs_head (λ a b. a ≢ b) i (j ∷ more) apart in
    let rest = ties_of name (j ∷ more) in
    AllPairs-cons SetRowsDiffer (Same name i j) (Same name j i ∷ rest)
    (All-cons (SetRowsDiffer (Same name i j)) (Same name j i) rest
    (λ same first second. All-head (λ k. i ≢ k) j more lacks first) (lacks_first name i j (j ∷ more) lacks))
    (AllPairs-cons SetRowsDiffer (Same name j i) rest (lacks_second name j i (j ∷ more) lacks)
    (ties_differ name (j ∷ more) (pairs_tail (λ a b. a ≢ b) i (j ∷ more) apart)))

-- they have the name of their set
ties_named : (name : ℕ) (set : List ℕ) → All (λ row. name_of row ≡ name) (ties_of name set)
ties_named name [] = All-nil (λ row. name_of row ≡ name)
ties_named name (i ∷ []) = All-nil (λ row. name_of row ≡ name)
ties_named name (i ∷ j ∷ more) =
    All-cons (λ row. name_of row ≡ name) (Same name i j) (Same name j i ∷ ties_of name (j ∷ more)) refl
    (All-cons (λ row. name_of row ≡ name) (Same name j i) (ties_of name (j ∷ more)) refl (ties_named name (j ∷ more)))

tie_rows_named : (P : ℕ → Type 0) (sets : List (List ℕ)) → All (λ set. P (name_of_set set)) sets → All (λ row. P (name_of row)) (tie_rows sets)
tie_rows_named P [] all = All-nil (λ row. P (name_of row))
tie_rows_named P (set ∷ sets) all =
    let Named : SetRow → Type 0 = λ row. P (name_of row) in
    let here = All-head (λ s. P (name_of_set s)) set sets all in
    All-append Named (ties_in set) (tie_rows sets)
    (All-weaker (λ row. name_of row ≡ name_of_set set) Named (λ row is. subst P (sym is) here) (ties_in set) (ties_named (name_of_set set) set))
    (tie_rows_named P sets (All-tail (λ s. P (name_of_set s)) set sets all))

-- of sets with names of their own none comes twice
pub tie_rows_differ : (sets : List (List ℕ)) → AllPairs (λ a b. name_of_set a ≢ name_of_set b) sets →
    All (λ set. AllPairs (λ i j. i ≢ j) set) sets → AllPairs SetRowsDiffer (tie_rows sets)
tie_rows_differ [] names members = pairs_nil SetRowsDiffer
tie_rows_differ (set ∷ sets) names members =
    let NoTwice : List ℕ → Type 0 = λ s. AllPairs (λ i j. i ≢ j) s in
    let name = name_of_set set in
    let others = tie_rows_named (λ n. name ≢ n) sets (pairs_head (λ a b. name_of_set a ≢ name_of_set b) set sets names) in
    pairs_append SetRowsDiffer (ties_in set) (tie_rows sets)
    (ties_differ name set (All-head NoTwice set sets members))
    (tie_rows_differ sets (pairs_tail (λ a b. name_of_set a ≢ name_of_set b) set sets names) (All-tail NoTwice set sets members))
    (All-weaker (λ row. name_of row ≡ name) (λ row. All (SetRowsDiffer row) (tie_rows sets))
    (λ row is. All-weaker (λ other. name ≢ name_of other) (SetRowsDiffer row)
    (λ other differ. names_differ row other (λ same. differ (sym is ∙ same))) (tie_rows sets) others)
    (ties_in set) (ties_named name set))

-- Outsiders that come.

not_below : (z : ℤ) → pos 0 ≤ℤ z → z <ℤ pos 0 → ⊥
not_below z above below = omega (arith, ints, above, below)

-- an outsider that is too cheap differs from each row that was passed
pub passed_differs : (s : KnownSets) (point : Point) (count : ℕ) (row : SetRow) (outsider : List ℕ) →
    AreDistinctSets s.sets → count < length s.sets →
    value_at (form_of_set_row s.problem (Outsider (name_of_set (set_at s.sets count)) outsider)) point <ℤ pos 0 →
    IsPassed s point count row → SetRowsDiffer row (Outsider (name_of_set (set_at s.sets count)) outsider)
passed_differs s point count (Same name i j) outsider distinct inside negative passed = tt
passed_differs s point count (Outsider name other) outsider distinct inside negative (inl earlier) =
    λ same edges. distinct.names earlier.0 count [] earlier.1 inside (sym earlier.2 ∙ same)
passed_differs s point count (Outsider name other) outsider distinct inside negative (inr met) =
    λ same edges.
    let p = s.problem in
    let value_of : ℕ → List ℕ → ℤ = λ k es. value_at (form_between p.graph (length p.low) (edges_of p k) es) point in
    let one : value_of name other ≡ value_of (name_of_set (set_at s.sets count)) outsider =
    ap (λ (k : ℕ). value_of k other) same ∙ ap (value_of (name_of_set (set_at s.sets count))) edges in
    not_below (value_of (name_of_set (set_at s.sets count)) outsider) (subst (λ (z : ℤ). pos 0 ≤ℤ z) one met) negative

pub passed_more : (s : KnownSets) (point : Point) (count : ℕ) (row : SetRow) → IsPassed s point count row → IsPassed s point (count + 1) row
passed_more s point count row (inl earlier) = inl (earlier.0, (let before = earlier.1 in omega arith), earlier.2)
passed_more s point count row (inr met) = inr met

-- The sets of a problem are distinct.

numbers_apart : (n : ℕ) → AllPairs (λ i j. i < j) (numbers_from 0 n)
numbers_apart n i j d before j_in =
    let count = length-numbers_from 0 n in
    let first = get_or-numbers_from 0 n i d (omega (arith, count, j_in, before)) in
    let second = get_or-numbers_from 0 n j d (omega (arith, count, j_in)) in
    omega (arith, first, second, before)

rising_distinct : (set : List ℕ) → AllPairs (λ i j. i < j) set → AllPairs (λ i j. i ≢ j) set
rising_distinct set rising i j d before j_in same = (let rise = rising i j d before j_in in omega (arith, rise, same))

lone_distinct : (path : ℕ) → AllPairs (λ i j. i ≢ j) (path ∷ [])
lone_distinct path i j d before j_in = absurd (omega (arith, before, j_in))

set_distinct : (p : DesignProblem) (lines : List (List ℕ)) (path : ℕ) → All (IsSetOf p) lines → AllPairs (λ i j. i ≢ j) (set_of lines path)
set_distinct p [] path are = lone_distinct path
set_distinct p (set ∷ lines) path are = by_place (stands_in path set) (set_distinct p lines path (All-tail (IsSetOf p) set lines are))
  where
    by_place : (stands : Bool) → AllPairs (λ i j. i ≢ j) (set_of lines path) → AllPairs (λ i j. i ≢ j) (if stands then set else set_of lines path)
    by_place true rest = rising_distinct set (AllPairs-from_increasing set (All-head (IsSetOf p) set lines are).rising)
    by_place false rest = rest

pub all_sets_distinct : (p : DesignProblem) (lines : List (List ℕ)) → AreSetsOf p lines → AreDistinctSets (all_sets p lines)
all_sets_distinct p lines are =
    let n = length p.requests in
    let kept = filter (is_first lines) (numbers_from 0 n) in
    let Named : ℕ → Type 0 = λ path. name_of_set (set_of lines path) ≡ path in
    let named : All Named kept = all_kept Named (is_first lines) 0 n (λ k from below is. eqb-true (name_of_set (set_of lines k)) k is) in
    let rising : AllPairs (λ i j. i < j) kept = AllPairs-filter (λ i j. i < j) (is_first lines) (numbers_from 0 n) (numbers_apart n) in
    record {
      names = λ i j d before j_in same.
          let count = length-map kept (set_of lines) in
          let j_known : j < length kept = omega (arith, count, j_in) in
          let i_known : i < length kept = omega (arith, j_known, before) in
          let first = ap name_of_set (get_or-map (set_of lines) kept i 0 d i_known) ∙ named i 0 i_known in
          let second = ap name_of_set (get_or-map (set_of lines) kept j 0 d j_known) ∙ named j 0 j_known in
          let rise = rising i j 0 before j_known in
          omega (arith, rise, sym first ∙ same ∙ second);
      members = All-map (λ set. AllPairs (λ a b. a ≢ b) set) (set_of lines) kept (λ k d k_in. set_distinct p lines (get_or kept k d) are.each);
    }
