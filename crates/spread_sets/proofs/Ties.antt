-- The rows that keep the members of sets at one cost.
use Rattle.std.proofs.Common.{◌≡◌, ℕ, zero, suc, ◌+◌, ◌-◌, ◌<◌, ◌≤◌, refl, sym, ◌∙◌, ap, subst, List, [], ◌∷◌, ◌++◌, length, take, drop, append-nil, append_assoc, arith}
use Rattle.std.specs.Prelude.{ℤ, pos, ◌-ℤ◌, ◌≤ℤ◌, All, AllPairs, Contains, slice_index}
use Rattle.std.proofs.lemmas.Int.{ints}
use Rattle.std.proofs.lemmas.List.{get_or-map, length-drop, length-map, map-append, take_all}
use Rattle.std.proofs.lemmas.List.Elements.{All-append, All-cons, All-head, All-map, All-nil, All-tail}
use Rattle.cost_base.proofs.ListLemmas.{All-left, All-right}
use Rattle.area_graph.specs.declared.Point.{Point}
use Rattle.area_graph.specs.Costs.{cost}
use Rattle.design_problem.specs.Forms.{Form, AreMet}
use Rattle.design_problem.specs.Forms.{no_form, value_at}
use Rattle.design_problem.specs.Problems.{DesignProblem, IsProblem}
use Rattle.spread_sets.specs.declared.spread.SetRow.{SetRow}
use Rattle.spread_sets.specs.declared.spread.SetRow.TheVariants.{Same}
use Rattle.spread_sets.specs.Spreads.{AreTied, IsNamed, IsSetRow, SetRowsDiffer, cost_of_set, edges_of, name_of_set, form_of_set_row, forms_of_set_rows}
use Rattle.spread_sets.specs.Sources.{IsPoolOfSets, AreTiesPut, KnownSets, both_ways, set_at, tie_rows, ties_in, ties_of}
use Rattle.spread_sets.specs.SourceLaws.{value_of_tie}
use Rattle.spread_sets.proofs.DistinctRows.{tie_rows_differ}
use Rattle.spread_sets.proofs.SetLaws.{listed_at}

-- Rows that are put one after another.

pub short_no_ties : (name : ℕ) (set : List ℕ) → length set ≤ 1 → ties_of name set ≡ []
short_no_ties name [] short = refl
short_no_ties name (i ∷ []) short = refl
short_no_ties name (i ∷ j ∷ more) short = absurd (omega arith)

ties_next : (name : ℕ) (set : List ℕ) (k : ℕ) → suc k < length set →
    ties_of name (drop k set) ≡ both_ways name (slice_index set k) (slice_index set (suc k))
    ++ ties_of name (drop (suc k) set)
ties_next name [] k inside = absurd (omega arith)
ties_next name (i ∷ []) k inside = absurd (omega arith)
ties_next name (i ∷ j ∷ more) zero inside = refl
ties_next name (i ∷ j ∷ more) (suc k) inside = ties_next name (j ∷ more) k (omega arith)

pub ties_step : (name : ℕ) (set : List ℕ) (k : ℕ) → k + 1 < length set →
    ties_of name (drop k set) ≡ both_ways name (slice_index set k) (slice_index set (k + 1))
    ++ ties_of name (drop (k + 1) set)
ties_step name set k inside =
    subst (λ (n : ℕ). ties_of name (drop k set) ≡ both_ways name (slice_index set k) (slice_index set n)
    ++ ties_of name (drop n set)) (let e : suc k ≡ k + 1 = omega arith in e) (ties_next name set k (omega arith))

-- the rows behind those of the first so many sets
tie_rows_next : (sets : List (List ℕ)) (k : ℕ) → k < length sets → tie_rows (take (suc k) sets) ≡ tie_rows (take k sets) ++ ties_in (set_at sets k)
tie_rows_next [] k inside = absurd (omega arith)
tie_rows_next (set ∷ sets) zero inside = append-nil (ties_in set)
tie_rows_next (set ∷ sets) (suc k) inside =
    ap (λ (rows : List SetRow). ties_in set ++ rows) (tie_rows_next sets k (omega arith))
    ∙ sym (append_assoc (ties_in set) (tie_rows (take k sets)) (ties_in (set_at sets k)))

pub tie_rows_step : (sets : List (List ℕ)) (k : ℕ) → k < length sets → tie_rows (take (k + 1) sets) ≡ tie_rows (take k sets) ++ ties_in (set_at sets k)
tie_rows_step sets k inside = ap (λ (n : ℕ). tie_rows (take n sets)) (let e : k + 1 ≡ suc k = omega arith in e) ∙ tie_rows_next sets k inside

-- They are rows of the sets.

ties_true : (p : DesignProblem) (sets : List (List ℕ)) (set : List ℕ) (name : ℕ) (members : List ℕ) →
    IsNamed sets name set → All (Contains set) members → All (IsSetRow p sets) (ties_of name members)
ties_true p sets set name [] named all = All-nil (IsSetRow p sets)
ties_true p sets set name (i ∷ []) named all = All-nil (IsSetRow p sets)
ties_true p sets set name (i ∷ j ∷ more) named all =
    let rest = All-tail (Contains set) i (j ∷ more) all in
    let has_i = All-head (Contains set) i (j ∷ more) all in
    let has_j = All-head (Contains set) j more rest in
    All-cons (IsSetRow p sets) (Same name i j) (Same name j i ∷ ties_of name (j ∷ more)) (set, named, has_i, has_j)
    (All-cons (IsSetRow p sets) (Same name j i) (ties_of name (j ∷ more)) (set, named, has_j, has_i) (ties_true p sets set name (j ∷ more) named rest))

pub tie_rows_true : (p : DesignProblem) (whole sets : List (List ℕ)) → All (Contains whole) sets → All (IsSetRow p whole) (tie_rows sets)
tie_rows_true p whole [] all = All-nil (IsSetRow p whole)
tie_rows_true p whole (set ∷ sets) all =
    All-append (IsSetRow p whole) (ties_in set) (tie_rows sets)
    (ties_true p whole set (name_of_set set) set (record { listed = All-head (Contains whole) set sets all; first = refl })
    (λ k d k_in. listed_at set k d k_in))
    (tie_rows_true p whole sets (All-tail (Contains whole) set sets all))

-- what begins a search
pub begun_in_step : (s : KnownSets) (pool : List Form) (count : ℕ) (rows : List SetRow) → s.rows ≡ rows →
    rows ≡ tie_rows (take count s.sets) → length s.sets ≤ count → pool ≡ forms_of_set_rows s.problem rows →
    IsPoolOfSets s pool
begun_in_step s pool count rows same is all forms =
    let whole : s.rows ≡ tie_rows s.sets = same ∙ is ∙ ap tie_rows (take_all count s.sets all) in
    record {
      true_rows = subst (All (IsSetRow s.problem s.sets)) (sym whole) (tie_rows_true s.problem s.sets s.sets (λ k d k_in. listed_at s.sets k d k_in));
      more = [];
      begun = whole ∙ sym (append-nil (tie_rows s.sets));
      once = λ distinct. subst (AllPairs SetRowsDiffer) (sym whole) (tie_rows_differ s.sets distinct.names distinct.members);
      forms = forms ∙ ap (forms_of_set_rows s.problem) (sym same);
    }

-- Where their forms are at least 0, the members cost the same.

abbrev pub RowMet : DesignProblem → Point → SetRow → Type 0
RowMet p point row = pos 0 ≤ℤ value_at (form_of_set_row p row) point

pub rows_met : (p : DesignProblem) (rows : List SetRow) (forms : List Form) (point : Point) →
    forms ≡ forms_of_set_rows p rows → AreMet forms point → All (RowMet p point) rows
rows_met p rows forms point same met k d k_in =
    let here = subst (λ (fs : List Form). AreMet fs point) same met k no_form (omega (arith, length-map rows (form_of_set_row p))) in
    subst (λ (f : Form). pos 0 ≤ℤ value_at f point) (get_or-map (form_of_set_row p) rows k d no_form k_in) here

pub same_cost : (a b : ℕ) → pos 0 ≤ℤ (pos a -ℤ pos b) → pos 0 ≤ℤ (pos b -ℤ pos a) → a ≡ b
same_cost a b first other = omega (arith, ints)

abbrev CostsAs : DesignProblem → Point → ℕ → ℕ → Type 0
CostsAs p point i j = cost p.graph point (edges_of p j) ≡ cost p.graph point (edges_of p i)

ties_tie : (p : DesignProblem) (point : Point) (name i : ℕ) (more : List ℕ) → IsProblem p →
    length point.values ≡ length p.low → All (RowMet p point) (ties_of name (i ∷ more)) →
    All (CostsAs p point i) (i ∷ more)
ties_tie p point name i [] kept count met = All-cons (CostsAs p point i) i [] refl (All-nil (CostsAs p point i))
ties_tie p point name i (j ∷ more) kept count met =
    let rest = All-tail (RowMet p point) (Same name i j) (Same name j i ∷ ties_of name (j ∷ more)) met in
    let there = subst (λ (z : ℤ). pos 0 ≤ℤ z) (value_of_tie p point (edges_of p i) (edges_of p j) kept count)
    (All-head (RowMet p point) (Same name i j) (Same name j i ∷ ties_of name (j ∷ more)) met) in
    let back = subst (λ (z : ℤ). pos 0 ≤ℤ z) (value_of_tie p point (edges_of p j) (edges_of p i) kept count)
    (All-head (RowMet p point) (Same name j i) (ties_of name (j ∷ more)) rest) in
    let same : CostsAs p point i j = same_cost (cost p.graph point (edges_of p j)) (cost p.graph point (edges_of p i)) there back in
    let later = ties_tie p point name j more kept count (All-tail (RowMet p point) (Same name j i) (ties_of name (j ∷ more)) rest) in
    All-cons (CostsAs p point i) i (j ∷ more) refl (λ k d k_in. later k d k_in ∙ same)

set_ties : (p : DesignProblem) (point : Point) (set : List ℕ) → IsProblem p → length point.values ≡ length p.low →
    All (RowMet p point) (ties_in set) → AreTied p point set
set_ties p point [] kept count met = All-nil (λ es. cost p.graph point es ≡ cost_of_set p point [])
set_ties p point (i ∷ more) kept count met =
    All-map (λ es. cost p.graph point es ≡ cost_of_set p point (i ∷ more)) (edges_of p) (i ∷ more) (ties_tie p point i i more kept count met)

sets_tie : (p : DesignProblem) (point : Point) (sets : List (List ℕ)) (place : ℕ) → IsProblem p →
    length point.values ≡ length p.low → All (RowMet p point) (tie_rows sets) → place < length sets →
    AreTied p point (set_at sets place)
sets_tie p point [] place kept count met inside = absurd (omega arith)
sets_tie p point (set ∷ sets) zero kept count met inside = set_ties p point set kept count (All-left (RowMet p point) (ties_in set) (tie_rows sets) met)
sets_tie p point (set ∷ sets) (suc place) kept count met inside =
    sets_tie p point sets place kept count (All-right (RowMet p point) (ties_in set) (tie_rows sets) met) (omega arith)

-- the members of each set tie at a point where the pool's forms are at least 0
pub tied_there : (s : KnownSets) (pool : List Form) (point : Point) (place : ℕ) → IsProblem s.problem →
    length point.values ≡ length s.problem.low → IsPoolOfSets s pool → AreMet pool point → place < length s.sets →
    AreTied s.problem point (set_at s.sets place)
tied_there s pool point place kept count in_step met inside =
    let all = rows_met s.problem s.rows pool point in_step.forms met in
    sets_tie s.problem point s.sets place kept count
    (All-left (RowMet s.problem point) (tie_rows s.sets) in_step.more (subst (All (RowMet s.problem point)) in_step.begun all)) inside

-- The rows of one set.

pub known_same : (s t : KnownSets) (rows : List SetRow) → s.problem ≡ t.problem → s.sets ≡ t.sets → s.rows ≡ rows → s ≡ record t { rows = rows }
known_same s t rows same_problem same_sets same_rows = λ i. record { problem = same_problem i; sets = same_sets i; rows = same_rows i }

same_both : (name first second others i j : ℕ) → others ≡ name → first ≡ i → second ≡ j → both_ways others first second ≡ both_ways name i j
same_both name first second others i j same_name same_first same_second = cc

put_then : {X : Type 0} (new now both rest whole all : List X) → new ≡ now ++ both → whole ≡ both ++ rest → now ++ whole ≡ all → new ++ rest ≡ all
put_then new now both rest whole all is cut same = ap (λ xs. xs ++ rest) is ∙ append_assoc now both rest ∙ ap (λ xs. now ++ xs) (sym cut) ∙ same

pub ties_put : (place number first second : ℕ) (old : KnownSets) (old_forms : List Form) (now : KnownSets)
    (forms : List Form) (new : KnownSets) (new_forms : List Form) → AreTiesPut place number old old_forms now forms →
    number < length (set_at old.sets place) → first ≡ slice_index (set_at now.sets place) (number - 1) →
    second ≡ slice_index (set_at now.sets place) number →
    new ≡ record now { rows = now.rows ++ both_ways (name_of_set (set_at now.sets place)) first second } →
    new_forms ≡ forms ++ forms_of_set_rows now.problem (both_ways (name_of_set (set_at now.sets place)) first second) →
    AreTiesPut place (number + 1) old old_forms new new_forms
ties_put place number first second old old_forms now forms new new_forms are inside is_first is_second is_new is_forms =
    let set = set_at old.sets place in
    let name = name_of_set set in
    let k = are.before in
    let set_now : set_at now.sets place ≡ set = ap (λ (ss : List (List ℕ)). set_at ss place) are.sets in
    let at_first : first ≡ slice_index set k = is_first ∙ ap (λ (s : List ℕ). slice_index s (number - 1)) set_now
    ∙ ap (slice_index set) (let next = are.next in let e : number - 1 ≡ k = omega arith in e) in
    let at_second : second ≡ slice_index set (k + 1) = is_second ∙ ap (λ (s : List ℕ). slice_index s number) set_now ∙ ap (slice_index set) are.next in
    let both : both_ways (name_of_set (set_at now.sets place)) first second
    ≡ both_ways name (slice_index set k) (slice_index set (k + 1)) =
    same_both name first second (name_of_set (set_at now.sets place)) (slice_index set k) (slice_index set (k + 1))
    (ap name_of_set set_now) at_first at_second in
    let step = ties_step name set k (let next = are.next in omega arith) in
    let put = both_ways name (slice_index set k) (slice_index set (k + 1)) in
    record {
      before = k + 1;
      next = ap (λ (n : ℕ). n + 1) are.next;
      problem = ap (λ (s : KnownSets). s.problem) is_new ∙ are.problem;
      sets = ap (λ (s : KnownSets). s.sets) is_new ∙ are.sets;
      rows = put_then new.rows now.rows put (ties_of name (drop (k + 1) set)) (ties_of name (drop k set))
          (old.rows ++ ties_in set) (ap (λ (s : KnownSets). s.rows) is_new
          ∙ ap (λ (rows : List SetRow). now.rows ++ rows) both) step are.rows;
      forms = put_then new_forms forms (forms_of_set_rows old.problem put)
          (forms_of_set_rows old.problem (ties_of name (drop (k + 1) set)))
          (forms_of_set_rows old.problem (ties_of name (drop k set)))
          (old_forms ++ forms_of_set_rows old.problem (ties_in set))
          (is_forms ∙ ap (λ (rows : List SetRow). forms ++ forms_of_set_rows now.problem rows) both
          ∙ ap (λ (p : DesignProblem). forms ++ forms_of_set_rows p put) are.problem)
          (ap (forms_of_set_rows old.problem) step ∙ map-append (form_of_set_row old.problem) put (ties_of name (drop (k + 1) set))) are.forms;
    }

none_left : (place number : ℕ) (old : KnownSets) (old_forms : List Form) (new : KnownSets) (new_forms : List Form)
    (are : AreTiesPut place number old old_forms new new_forms) → length (set_at old.sets place) ≤ number →
    ties_of (name_of_set (set_at old.sets place)) (drop are.before (set_at old.sets place)) ≡ []
none_left place number old old_forms new new_forms are ended =
    short_no_ties (name_of_set (set_at old.sets place)) (drop are.before (set_at old.sets place)) (let next = are.next in
    omega (arith, length-drop are.before (set_at old.sets place)))

all_put : {X : Type 0} (new rest all : List X) → rest ≡ [] → new ++ rest ≡ all → new ≡ all
all_put new rest all none same = sym (append-nil new) ∙ ap (λ xs. new ++ xs) (sym none) ∙ same

pub ties_ended : (place number : ℕ) (old : KnownSets) (old_forms : List Form) (new : KnownSets)
    (new_forms : List Form) → AreTiesPut place number old old_forms new new_forms →
    length (set_at old.sets place) ≤ number → new ≡ record old { rows = old.rows ++ ties_in (set_at old.sets place) }
ties_ended place number old old_forms new new_forms are ended =
    known_same new old (old.rows ++ ties_in (set_at old.sets place)) are.problem are.sets
    (all_put new.rows (ties_of (name_of_set (set_at old.sets place)) (drop are.before (set_at old.sets place)))
    (old.rows ++ ties_in (set_at old.sets place))
    (none_left place number old old_forms new new_forms are ended) are.rows)

pub ties_forms : (place number : ℕ) (old : KnownSets) (old_forms : List Form) (new : KnownSets)
    (new_forms : List Form) → AreTiesPut place number old old_forms new new_forms →
    length (set_at old.sets place) ≤ number →
    new_forms ≡ old_forms ++ forms_of_set_rows old.problem (ties_in (set_at old.sets place))
ties_forms place number old old_forms new new_forms are ended =
    all_put new_forms (forms_of_set_rows old.problem
    (ties_of (name_of_set (set_at old.sets place)) (drop are.before (set_at old.sets place))))
    (old_forms ++ forms_of_set_rows old.problem (ties_in (set_at old.sets place)))
    (ap (forms_of_set_rows old.problem) (none_left place number old old_forms new new_forms are ended)) are.forms

-- The rows of one set after the other.

pub begun_rows : (sets others : List (List ℕ)) (place : ℕ) (rows new : List SetRow) → others ≡ sets →
    place < length sets → rows ≡ tie_rows (take place sets) → new ≡ rows ++ ties_in (set_at others place) →
    new ≡ tie_rows (take (place + 1) sets)
begun_rows sets others place rows new same inside is is_new =
    is_new ∙ ap (λ (ss : List (List ℕ)). rows ++ ties_in (set_at ss place)) same
    ∙ ap (λ (rs : List SetRow). rs ++ ties_in (set_at sets place)) is ∙ sym (tie_rows_step sets place inside)

pub begun_forms : (p q : DesignProblem) (rows ties new : List SetRow) (forms new_forms : List Form) → q ≡ p →
    forms ≡ forms_of_set_rows p rows → new ≡ rows ++ ties → new_forms ≡ forms ++ forms_of_set_rows q ties →
    new_forms ≡ forms_of_set_rows p new
begun_forms p q rows ties new forms new_forms same is is_new is_forms =
    is_forms
    ∙ ap (λ (r : DesignProblem). forms ++ forms_of_set_rows r ties) same
    ∙ ap (λ (fs : List Form). fs ++ forms_of_set_rows p ties) is
    ∙ sym (map-append (form_of_set_row p) rows ties)
    ∙ ap (forms_of_set_rows p) (sym is_new)
