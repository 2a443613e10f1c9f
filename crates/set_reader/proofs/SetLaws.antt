-- The sets so far, and one more.
use Rattle.std.specs.Prelude.{IsPermutation, Contains}
use Rattle.std.specs.List.{list_any, concat, AllZip}
use Rattle.std.specs.Cmp.{nat_eq_equiv}
use Rattle.std.proofs.Common.{inl, inr, ◌⊎◌, ◌≡◌, ◌≢◌, ℕ, zero, suc, ◌<◌, ◌≤◌, refl, sym, ◌∙◌, ap, subst, List, [], ◌∷◌, ◌++◌, length, get_or, set, length-set, replicate, All, Bool, true, false, not, ◌||◌, eqb, ltb, arith, append-nil}
use Rattle.std.proofs.lemmas.Bool.{or_parts, or_left, or_right, and_parts, eqb-true, ltb-true, ltb-false, not-false, false≢true}
use Rattle.std.proofs.lemmas.List.{nil_from_length, length-replicate, append_assoc}
use Rattle.std.proofs.lemmas.List.Elements.{All-push, All-nil, All-head, All-tail, All-weaker, All-contains, Contains-push_cases, Contains-get_or}
use Rattle.std.proofs.lemmas.List.Folds.{list_any-append, concat-append}
use Rattle.std.proofs.lemmas.List.Quantifiers.{all_pairs_push}
use Rattle.std.proofs.lemmas.List.Sorted.{IsPermutation-refl, IsPermutation-sym, IsPermutation-append, length_permutation, All-permutation, Contains-permutation, list_any-IsPermutation}
use Rattle.std.proofs.lemmas.Map.Views.{list_any-from_Contains}
use Rattle.cost_base.proofs.ByteLemmas.{same_bytes-same}
use Rattle.cost_base.proofs.ListLemmas.{none_passes}
use Rattle.cost_base.specs.Marks.{AreMarked, is_marked, is_one_of}
use Rattle.cost_base.proofs.MarkLaws.{clear_marks, marked_none, marked_rest}
use Rattle.area_graph.specs.Distances.{AreEdgeMarks}
use Rattle.area_graph.proofs.ExcludedMarks.{marks_more, no_marks}
use Rattle.design_problem.specs.declared.problem.Request.{Request}
use Rattle.design_problem.specs.Problems.{DesignProblem, request_at, request_ends}
use Rattle.set_reader.specs.SpreadSets.{IsSetOf}
use Rattle.set_reader.specs.Reading.{stands_in, same_ends, has_other_ends, has_edges_of, excludes_edges, is_wrong_behind, is_wrong_from, is_wrong_set, IsInOrder}
use Rattle.set_reader.specs.ReadingSteps.{KeepsSets}
use Rattle.set_reader.proofs.MemberLaws.{edges_at}

-- Numbers that may stand together behind earlier ones.
record AreRight (requests : List Request) (earlier members : List ℕ) : Type 0 where
  known : All (λ i. i < length requests) members
  whole : All (λ i. (request_at requests i).excluded ≡ []) members
  new : All (λ i. stands_in i earlier ≡ false) members
  ends : (i j : ℕ) → Contains members i → Contains members j → request_ends (request_at requests i) ≡ request_ends (request_at requests j)
  different : (i j : ℕ) → Contains members i → Contains members j → i ≢ j → edges_at requests i ≢ edges_at requests j

right_none : (requests : List Request) (earlier : List ℕ) → AreRight requests earlier []
right_none requests earlier = record {
  known = All-nil (λ i. i < length requests);
  whole = All-nil (λ i. (request_at requests i).excluded ≡ []);
  new = All-nil (λ i. stands_in i earlier ≡ false);
  ends = λ i j one other. absurd (omega (arith, one.1));
  different = λ i j one other apart same. omega (arith, one.1);
}

-- the ends of two requests that exclude nothing
whole_ends : (a b : Request) → a.excluded ≡ [] → b.excluded ≡ [] → same_ends a b ≡ true → request_ends a ≡ request_ends b
whole_ends a b a_whole b_whole same =
    let parts = and_parts (eqb a.path.start b.path.start) (eqb a.end b.end) same in
    cc (eqb-true a.path.start b.path.start parts.0, eqb-true a.end b.end parts.1, a_whole, b_whole)

-- one more number that isn't wrong
right_push : (requests : List Request) (earlier members : List ℕ) (n : ℕ) → AreRight requests earlier members →
    is_wrong_behind requests earlier members n ≡ false → AreRight requests earlier (members ++ n ∷ [])
right_push requests earlier members n right lawful =
    let request = request_at requests n in
    let outside = not (ltb n (length requests)) in
    let before = stands_in n earlier in
    let here = stands_in n members in
    let other = has_other_ends requests members request in
    let seen = list_any (has_edges_of requests request) members in
    let last = or_parts (outside || before || here || other || seen) (excludes_edges request) lawful in
    let fifth = or_parts (outside || before || here || other) seen last.0 in
    let fourth = or_parts (outside || before || here) other fifth.0 in
    let third = or_parts (outside || before) here fourth.0 in
    let second = or_parts outside before third.0 in
    let whole : request.excluded ≡ [] = nil_from_length request.excluded (omega (arith, ltb-false 0 (length request.excluded) last.1)) in
    let to_new : (i : ℕ) → Contains members i → request_ends (request_at requests i) ≡ request_ends request =
    λ i stands. new_ends members right.whole right.ends fourth.1 whole i stands in
    let edges : (i : ℕ) → Contains members i → edges_at requests i ≢ edges_at requests n = λ i stands same. new_edges fifth.1 i stands same in
    record {
      known = All-push (λ i. i < length requests) members n right.known (ltb-true n (length requests) (not-false (ltb n (length requests)) second.0));
      whole = All-push (λ i. (request_at requests i).excluded ≡ []) members n right.whole whole;
      new = All-push (λ i. stands_in i earlier ≡ false) members n right.new second.1;
      ends = λ i j one two. both_ends (Contains-push_cases members n i one) (Contains-push_cases members n j two) to_new;
      different = λ i j one two apart. both_edges (Contains-push_cases members n i one) (Contains-push_cases members n j two) apart edges;
    }
  where
    new_ends : (ms : List ℕ) → All (λ i. (request_at requests i).excluded ≡ []) ms →
        ((i j : ℕ) → Contains ms i → Contains ms j →
        request_ends (request_at requests i) ≡ request_ends (request_at requests j)) →
        has_other_ends requests ms (request_at requests n) ≡ false → (request_at requests n).excluded ≡ [] → (i : ℕ) →
        Contains ms i → request_ends (request_at requests i) ≡ request_ends (request_at requests n)
    new_ends [] all_whole ends same whole i stands = absurd (omega (arith, stands.1))
    new_ends (first ∷ more) all_whole ends same whole i stands =
        let begins : Contains (first ∷ more) first = Contains-get_or (first ∷ more) 0 first (omega arith) in
        ends i first stands begins
        ∙ whole_ends (request_at requests first) (request_at requests n)
        (All-contains (λ m. (request_at requests m).excluded ≡ []) (first ∷ more) first all_whole begins) whole
        (not-false (same_ends (request_at requests first) (request_at requests n)) same)

    at_member : list_any (has_edges_of requests (request_at requests n)) members ≡ false → (i k : ℕ) →
        k < length members → get_or members k i ≡ i → has_edges_of requests (request_at requests n) i ≡ false
    at_member none i k within is = ap (has_edges_of requests (request_at requests n)) (sym is)
        ∙ none_passes (has_edges_of requests (request_at requests n)) members none k i within

    new_edges : list_any (has_edges_of requests (request_at requests n)) members ≡ false → (i : ℕ) →
        Contains members i → edges_at requests i ≡ edges_at requests n → ⊥
    new_edges none i stands same =
        false≢true (sym (at_member none i stands.0 stands.1 stands.2)
        ∙ same_bytes-same (edges_at requests n) (edges_at requests i) (sym same))

    both_ends : {i j : ℕ} → Contains members i ⊎ (n ≡ i) → Contains members j ⊎ (n ≡ j) →
        ((k : ℕ) → Contains members k → request_ends (request_at requests k) ≡ request_ends (request_at requests n)) →
        request_ends (request_at requests i) ≡ request_ends (request_at requests j)
    both_ends {i} {j} (inl one) (inl two) to_new = to_new i one ∙ sym (to_new j two)
    both_ends {i} {j} (inl one) (inr two) to_new = to_new i one ∙ ap (λ (k : ℕ). request_ends (request_at requests k)) two
    both_ends {i} {j} (inr one) (inl two) to_new = ap (λ (k : ℕ). request_ends (request_at requests k)) (sym one) ∙ sym (to_new j two)
    both_ends {i} {j} (inr one) (inr two) to_new = ap (λ (k : ℕ). request_ends (request_at requests k)) (sym one ∙ two)

    both_edges : {i j : ℕ} → Contains members i ⊎ (n ≡ i) → Contains members j ⊎ (n ≡ j) → i ≢ j →
        ((k : ℕ) → Contains members k → edges_at requests k ≢ edges_at requests n) →
        edges_at requests i ≢ edges_at requests j
    both_edges {i} {j} (inl one) (inl two) apart edges = right.different i j one two apart
    both_edges {i} {j} (inl one) (inr two) apart edges = λ same. edges i one (same ∙ ap (edges_at requests) (sym two))
    both_edges {i} {j} (inr one) (inl two) apart edges = λ same. edges j two (sym same ∙ ap (edges_at requests) (sym one))
    both_edges {i} {j} (inr one) (inr two) apart edges = λ same. apart (sym one ∙ two)

-- all of a line's numbers
right_all : (requests : List Request) (earlier members more : List ℕ) → AreRight requests earlier members →
    is_wrong_from requests earlier members more ≡ false → AreRight requests earlier (members ++ more)
right_all requests earlier members [] right lawful = subst (AreRight requests earlier) (sym (append-nil members)) right
right_all requests earlier members (n ∷ more) right lawful =
    let parts = or_parts (is_wrong_behind requests earlier members n) (is_wrong_from requests earlier (members ++ n ∷ []) more) lawful in
    subst (AreRight requests earlier) (append_assoc members (n ∷ []) more)
    (right_all requests earlier (members ++ n ∷ []) more (right_push requests earlier members n right parts.0) parts.1)

-- the numbers of a lawful line, in rising order, are a set
set_is : (p : DesignProblem) (earlier numbers set : List ℕ) → 2 ≤ length numbers → AreRight p.requests earlier numbers → IsInOrder numbers set → IsSetOf p set
set_is p earlier numbers set several right order =
    let back = IsPermutation-sym numbers set order.same in
    record {
      several = let count = length_permutation numbers set order.same in omega (arith, count, several);
      rising = order.rising;
      known = All-permutation (λ i. i < length p.requests) numbers set order.same right.known;
      whole = All-permutation (λ i. (request_at p.requests i).excluded ≡ []) numbers set order.same right.whole;
      ends = λ i j one two. right.ends i j (Contains-permutation set numbers i back one) (Contains-permutation set numbers j back two);
      different = λ i j one two. right.different i j (Contains-permutation set numbers i back one) (Contains-permutation set numbers j back two);
    }

-- a member of a set stands in the sets' numbers
stands_in_sets : (sets : List (List ℕ)) (k : ℕ) (d : List ℕ) (i : ℕ) → k < length sets → Contains (get_or sets k d) i → stands_in i (concat sets) ≡ true
stands_in_sets [] k d i within stands = absurd (omega (arith, within))
stands_in_sets (set ∷ sets) zero d i within stands =
    list_any-append (eqb i) set (concat sets) ∙ or_left (stands_in i set) (stands_in i (concat sets)) (list_any-from_Contains nat_eq_equiv i set stands)
stands_in_sets (set ∷ sets) (suc k) d i within stands =
    list_any-append (eqb i) set (concat sets)
    ∙ or_right (stands_in i set) (stands_in i (concat sets))
    (stands_in_sets sets k d i (omega (arith, within)) stands)

-- members that were marked beside earlier ones
pub members_marked : (earlier members : List ℕ) (old new : List Bool) → All (λ m. m < length old) members →
    AreMarked (is_one_of members) old new → AreEdgeMarks earlier old → AreEdgeMarks (earlier ++ members) new
members_marked earlier [] old new known are edges =
    subst (AreEdgeMarks (earlier ++ [])) (sym (marked_none old new are))
    (subst (λ (es : List ℕ). AreEdgeMarks es old) (sym (append-nil earlier)) edges)
members_marked earlier (m ∷ members) old new known are edges =
    let here = All-head (λ n. n < length old) m members known in
    let counted = length-set old m true in
    let later = All-weaker (λ n. n < length old) (λ n. n < length (set old m true)) (λ n below. omega (arith, counted, below)) members
    (All-tail (λ n. n < length old) m members known) in
    subst (λ (es : List ℕ). AreEdgeMarks es new) (append_assoc earlier (m ∷ []) members)
    (members_marked (earlier ++ m ∷ []) members (set old m true) new later (marked_rest m members old new here are)
    (marks_more earlier m old edges here))

pub sets_begin : (p : DesignProblem) (sets : List (List ℕ)) (taken : List Bool) → sets ≡ [] → length taken ≡ length p.requests →
    ((k : ℕ) → is_marked taken k ≡ false) → KeepsSets p sets taken
sets_begin p sets taken none counted clear = rw (none, clear_marks taken (length p.requests) counted clear) (record {
  count = length-replicate (length p.requests) false;
  marks = no_marks (length p.requests);
  lawful = record { each = All-nil (IsSetOf p); apart = λ i j d before within. absurd (omega (arith, within)) };
})

pub sets_more : (p : DesignProblem) (sets : List (List ℕ)) (numbers set : List ℕ) (taken after : List Bool) →
    KeepsSets p sets taken → 2 ≤ length numbers → is_wrong_set p.requests (concat sets) numbers ≡ false →
    IsInOrder numbers set → AreEdgeMarks (concat sets ++ set) after → length after ≡ length taken →
    KeepsSets p (sets ++ set ∷ []) after
sets_more p sets numbers set taken after kept several lawful order marks count =
    let right = right_all p.requests (concat sets) [] numbers (right_none p.requests (concat sets)) lawful in
    let back = IsPermutation-sym numbers set order.same in
    record {
      count = count ∙ kept.count;
      marks = subst (λ (xs : List ℕ). AreEdgeMarks xs after) (ap (λ (xs : List ℕ). concat sets ++ xs) (sym (append-nil set))
          ∙ sym (concat-append sets (set ∷ []))) marks;
      lawful = record {
        each = All-push (IsSetOf p) sets set kept.lawful.each (set_is p (concat sets) numbers set several right order);
        apart = all_pairs_push (λ a b. (i : ℕ) → Contains a i → Contains b i → ⊥) sets set kept.lawful.apart
            (λ k d within i one two. false≢true
            (sym (All-contains (λ m. stands_in m (concat sets) ≡ false) numbers i right.new
            (Contains-permutation set numbers i back two)) ∙ stands_in_sets sets k d i within one));
      };
    }

-- Sets in the order of their lines, and in rising order: they are wrong alike.

pub sets_permuted : (said sets : List (List ℕ)) → AllZip IsInOrder said sets → IsPermutation (concat said) (concat sets)
sets_permuted [] [] all = IsPermutation-refl []
sets_permuted [] (set ∷ sets) all = absurd all
sets_permuted (numbers ∷ said) [] all = absurd all
sets_permuted (numbers ∷ said) (set ∷ sets) all = IsPermutation-append numbers set (concat said) (concat sets) all.0.same (sets_permuted said sets all.1)

same_wrong : (requests : List Request) (xs ys members more : List ℕ) → ((i : ℕ) → stands_in i xs ≡ stands_in i ys) →
    is_wrong_from requests xs members more ≡ is_wrong_from requests ys members more
same_wrong requests xs ys members [] same = refl
same_wrong requests xs ys members (n ∷ more) same =
    ap (λ (b : Bool). (not (ltb n (length requests)) || b || stands_in n members
    || has_other_ends requests members (request_at requests n)
    || list_any (has_edges_of requests (request_at requests n)) members || excludes_edges (request_at requests n))
    || is_wrong_from requests xs (members ++ n ∷ []) more) (same n)
    ∙ ap (λ (b : Bool). is_wrong_behind requests ys members n || b) (same_wrong requests xs ys (members ++ n ∷ []) more same)

pub wrong_alike : (requests : List Request) (said sets : List (List ℕ)) (numbers : List ℕ) →
    AllZip IsInOrder said sets →
    is_wrong_set requests (concat said) numbers ≡ is_wrong_set requests (concat sets) numbers
wrong_alike requests said sets numbers all =
    same_wrong requests (concat said) (concat sets) [] numbers (λ i. list_any-IsPermutation (eqb i) (concat said) (concat sets) (sets_permuted said sets all))
