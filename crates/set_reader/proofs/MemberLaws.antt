-- The members of a set, one after another.
use Rattle.std.specs.Prelude.{IsPermutation, IsSorted}
use Rattle.std.specs.List.{IsDistinct, list_any}
use Rattle.std.specs.Cmp.{nat_eq_equiv}
use Rattle.std.specs.Ordering.{nat_cmp}
use Rattle.std.proofs.Common.{◌≡◌, ℕ, zero, suc, ◌+◌, ◌<◌, ◌≤◌, refl, sym, ◌∙◌, ap, subst, List, [], ◌∷◌, ◌++◌, length, map, take, drop, get_or, All, Bool, true, false, not, ◌||◌, eqb, ltb, arith}
use Rattle.std.proofs.Math.Seq.{drop-nil}
use Rattle.std.proofs.lemmas.Bool.{or_parts, or_from, or_left, or_right, eqb-true, eqb-false, ne_eqb, ltb-true, not-false, false≢true, true≢false, false_from_ne_true}
use Rattle.std.proofs.lemmas.List.{drop_more, take_more, take_all, map-append}
use Rattle.std.proofs.lemmas.List.Elements.{All-push, All-nil}
use Rattle.std.proofs.lemmas.List.Sorted.{IsNonDecreasingBy-from_sort, All-permutation}
use Rattle.std.proofs.lemmas.Map.Keys.{IsDistinct-push, IsDistinct-IsPermutation, IsStrictlyIncreasing-from_distinct}
use Rattle.cost_base.specs.Lists.{Lacks, same_bytes}
use Rattle.cost_base.proofs.ByteLemmas.{same_bytes-refl}
use Rattle.cost_base.proofs.ListLemmas.{list_any-map}
use Rattle.area_graph.specs.Distances.{AreEdgeMarks}
use Rattle.design_problem.specs.declared.problem.Request.{Request}
use Rattle.design_problem.specs.Problems.{request_at}
use Rattle.set_reader.specs.Reading.{stands_in, has_other_ends, has_edges_of, excludes_edges, is_wrong_behind, is_wrong_from, is_wrong_set, IsInOrder}
use Rattle.set_reader.specs.ReadingSteps.{is_out_of_place}

-- A list lacks a number exactly where the number doesn't stand in it.

pub stands_lacks : (xs : List ℕ) (n : ℕ) → stands_in n xs ≡ false → Lacks xs n
stands_lacks [] n none = tt
stands_lacks (x ∷ xs) n none = let parts = or_parts (eqb n x) (stands_in n xs) none in (eqb-false n x parts.0, stands_lacks xs n parts.1)

pub lacks_stands : (xs : List ℕ) (n : ℕ) → Lacks xs n → stands_in n xs ≡ false
lacks_stands [] n lacks = refl
lacks_stands (x ∷ xs) n lacks = or_from (eqb n x) (stands_in n xs) (ne_eqb n x lacks.0) (lacks_stands xs n lacks.1)

same_false : (a b : Bool) → (a ≡ false → b ≡ false) → (b ≡ false → a ≡ false) → a ≡ b
same_false true true there back = refl
same_false true false there back = back refl
same_false false true there back = sym (there refl)
same_false false false there back = refl

-- a number's mark tells whether it stands in the numbers that are marked
pub mark_tells : (earlier : List ℕ) (taken : List Bool) (n : ℕ) → AreEdgeMarks earlier taken → n < length taken → get_or taken n true ≡ stands_in n earlier
mark_tells earlier taken n are within =
    same_false (get_or taken n true) (stands_in n earlier) (λ clear. lacks_stands earlier n ((are n within).0 clear))
    (λ none. (are n within).1 (stands_lacks earlier n none))

-- The tests of a number, in the two orders in which they are made.

any_out : (a b c d e f m : Bool) → (a ≡ false → m ≡ b) → (a || (m || f || d)) ≡ true → (a || b || c || d || e || f) ≡ true
any_out true b c d e f m same out = refl
any_out false b c d e f m same out = cases b c d e f (rw (sym (same refl)) out)
  where
    cases : (b c d e f : Bool) → (b || f || d) ≡ true → (b || c || d || e || f) ≡ true
    cases true c d e f any = refl
    cases false true d e f any = refl
    cases false false true e f any = refl
    cases false false false e true any = or_right e true refl
    cases false false false e false any = absurd (false≢true any)

none_out : (a b c d e f m : Bool) → (a ≡ false → m ≡ b) → (a || (m || f || d)) ≡ false → c ≡ false → e ≡ false → (a || b || c || d || e || f) ≡ false
none_out true b c d e f m same out other edges = absurd (true≢false out)
none_out false b c d e f m same out other edges =
    let last = or_parts (m || f) d out in
    let first = or_parts m f last.0 in
    or_from (b || c || d || e) f (or_from (b || c || d) e (or_from (b || c) d (or_from b c (sym (same refl) ∙ first.0) other) last.1) edges) first.1

any_edges : (x e f : Bool) → e ≡ true → (x || e || f) ≡ true
any_edges x e f is = or_left (x || e) f (or_right x e is)

-- the paths' edges of some requests
abbrev pub edges_at : List Request → ℕ → List ℕ
edges_at requests member = (request_at requests member).path.edges

-- a number that is out of place may not stand in a set
pub out_is_wrong : (requests : List Request) (taken : List Bool) (earlier members : List ℕ) (n : ℕ) →
    length taken ≡ length requests → AreEdgeMarks earlier taken → is_out_of_place requests taken members n ≡ true →
    is_wrong_behind requests earlier members n ≡ true
out_is_wrong requests taken earlier members n count are out =
    any_out (not (ltb n (length requests))) (stands_in n earlier) (stands_in n members) (has_other_ends requests members (request_at requests n))
    (list_any (has_edges_of requests (request_at requests n)) members) (excludes_edges (request_at requests n)) (get_or taken n true)
    (λ known. mark_tells earlier taken n are (omega (arith, ltb-true n (length requests) (not-false (ltb n (length requests)) known), count))) out

-- the members' edges, tested as a list
edges_seen : (requests : List Request) (members : List ℕ) (edges : List (List ℕ)) (n : ℕ) →
    edges ≡ map (edges_at requests) members →
    list_any (same_bytes (edges_at requests n)) edges ≡ list_any (has_edges_of requests (request_at requests n)) members
edges_seen requests members edges n are = ap (list_any (same_bytes (edges_at requests n))) are
    ∙ list_any-map (same_bytes (edges_at requests n)) (edges_at requests) members

-- nor may one whose path has the edges of a member's
pub seen_is_wrong : (requests : List Request) (earlier members : List ℕ) (edges : List (List ℕ)) (n : ℕ) →
    edges ≡ map (edges_at requests) members → list_any (same_bytes (edges_at requests n)) edges ≡ true →
    is_wrong_behind requests earlier members n ≡ true
seen_is_wrong requests earlier members edges n are seen =
    any_edges (not (ltb n (length requests)) || stands_in n earlier || stands_in n members || has_other_ends requests members (request_at requests n))
    (list_any (has_edges_of requests (request_at requests n)) members) (excludes_edges (request_at requests n))
    (sym (edges_seen requests members edges n are) ∙ seen)

-- a number that stands among the members has the edges of one
stands_seen : (requests : List Request) (members : List ℕ) (n : ℕ) → stands_in n members ≡ true →
    list_any (has_edges_of requests (request_at requests n)) members ≡ true
stands_seen requests [] n stands = absurd (false≢true stands)
stands_seen requests (m ∷ members) n stands = cases (eqb n m) refl (stands_seen requests members n)
  where
    cases : (b : Bool) → eqb n m ≡ b →
        (stands_in n members ≡ true → list_any (has_edges_of requests (request_at requests n)) members ≡ true) →
        list_any (has_edges_of requests (request_at requests n)) (m ∷ members) ≡ true
    cases true same later =
        or_left (has_edges_of requests (request_at requests n) m) (list_any (has_edges_of requests (request_at requests n)) members)
        (ap (λ (k : ℕ). same_bytes (edges_at requests n) (edges_at requests k)) (sym (eqb-true n m same)) ∙ same_bytes-refl (edges_at requests n))
    cases false other later =
        or_right (has_edges_of requests (request_at requests n) m) (list_any (has_edges_of requests (request_at requests n)) members)
        (later (sym (ap (λ (b : Bool). b || stands_in n members) other) ∙ stands))

-- The members stand for the numbers that were read, none of which was wrong; the other numbers are left.
pub record MembersTo (requests : List Request) (taken : List Bool) (numbers : List ℕ) (i : ℕ) (members : List ℕ) (edges : List (List ℕ)) : Type 0 where
  pub are : members ≡ take i numbers
  pub known : All (λ member. member < length requests) members
  pub edges_are : edges ≡ map (edges_at requests) members
  pub once : IsDistinct eqb members
  pub left : (earlier : List ℕ) → AreEdgeMarks earlier taken → is_wrong_set requests earlier numbers ≡ is_wrong_from requests earlier members (drop i numbers)

-- the next number is wrong or right, and the others are left
next_left : (requests : List Request) (taken : List Bool) (numbers : List ℕ) (i n : ℕ) (members : List ℕ)
    (edges : List (List ℕ)) (earlier : List ℕ) → MembersTo requests taken numbers i members edges → i < length numbers →
    n ≡ get_or numbers i 0 → AreEdgeMarks earlier taken →
    is_wrong_set requests earlier numbers
    ≡ (is_wrong_behind requests earlier members n
    || is_wrong_from requests earlier (members ++ n ∷ []) (drop (i + 1) numbers))
next_left requests taken numbers i n members edges earlier to within is marks = to.left earlier marks
    ∙ ap (is_wrong_from requests earlier members) (drop_more numbers i 0 within
    ∙ ap (λ (m : ℕ). m ∷ drop (i + 1) numbers) (sym is))

pub members_wrong : (requests : List Request) (taken : List Bool) (numbers : List ℕ) (i n : ℕ) (members : List ℕ)
    (edges : List (List ℕ)) (earlier : List ℕ) → MembersTo requests taken numbers i members edges → i < length numbers →
    n ≡ get_or numbers i 0 → AreEdgeMarks earlier taken → is_wrong_behind requests earlier members n ≡ true →
    is_wrong_set requests earlier numbers ≡ true
members_wrong requests taken numbers i n members edges earlier to within is marks wrong =
    next_left requests taken numbers i n members edges earlier to within is marks
    ∙ or_left (is_wrong_behind requests earlier members n) (is_wrong_from requests earlier (members ++ n ∷ []) (drop (i + 1) numbers)) wrong

pub members_more : (requests : List Request) (taken : List Bool) (numbers : List ℕ) (i n : ℕ) (members : List ℕ)
    (edges : List (List ℕ)) → MembersTo requests taken numbers i members edges → length taken ≡ length requests →
    i < length numbers → n ≡ get_or numbers i 0 → is_out_of_place requests taken members n ≡ false →
    list_any (same_bytes (edges_at requests n)) edges ≡ false →
    MembersTo requests taken numbers (i + 1) (members ++ n ∷ []) (edges ++ edges_at requests n ∷ [])
members_more requests taken numbers i n members edges to count within is inside unseen =
    let test = ltb n (length requests) in
    let parts = or_parts (not test) (get_or taken n true || excludes_edges (request_at requests n)
    || has_other_ends requests members (request_at requests n)) inside in
    let below : n < length requests = ltb-true n (length requests) (not-false test parts.0) in
    let no_edges : list_any (has_edges_of requests (request_at requests n)) members ≡ false = sym (edges_seen requests members edges n to.edges_are) ∙ unseen in
    let apart : stands_in n members ≡ false =
    false_from_ne_true (stands_in n members)
    (λ stands. false≢true (sym no_edges ∙ stands_seen requests members n stands)) in
    record {
      are = ap (λ (ms : List ℕ). ms ++ n ∷ []) to.are ∙ ap (λ (m : ℕ). take i numbers ++ m ∷ []) is ∙ sym (take_more numbers i 0 within);
      known = All-push (λ member. member < length requests) members n to.known below;
      edges_are = ap (λ (es : List (List ℕ)). es ++ edges_at requests n ∷ []) to.edges_are ∙ sym (map-append (edges_at requests) members (n ∷ []));
      once = IsDistinct-push nat_eq_equiv members n to.once apart;
      left = λ earlier marks.
          next_left requests taken numbers i n members edges earlier to within is marks
          ∙ ap (λ (b : Bool). b || is_wrong_from requests earlier (members ++ n ∷ []) (drop (i + 1) numbers))
          (none_out (not test) (stands_in n earlier) (stands_in n members) (has_other_ends requests members (request_at requests n))
          (list_any (has_edges_of requests (request_at requests n)) members) (excludes_edges (request_at requests n)) (get_or taken n true)
          (λ known. mark_tells earlier taken n marks (omega (arith, below, count))) inside apart no_edges);
    }

pub members_begin : (requests : List Request) (taken : List Bool) (numbers members : List ℕ) (edges : List (List ℕ)) →
    members ≡ [] → edges ≡ [] → MembersTo requests taken numbers 0 members edges
unfolding IsDistinct
members_begin requests taken numbers members edges none no_edges = rw (none, no_edges) (record {
  are = refl;
  known = All-nil (λ member. member < length requests);
  edges_are = refl;
  once = tt;
  left = λ earlier marks. refl;
})

-- all numbers were read
pub members_done : (requests : List Request) (taken : List Bool) (numbers : List ℕ) (i : ℕ) (members : List ℕ)
    (edges : List (List ℕ)) → MembersTo requests taken numbers i members edges → length numbers ≤ i →
    (earlier : List ℕ) → AreEdgeMarks earlier taken → is_wrong_set requests earlier numbers ≡ false
members_done requests taken numbers i members edges to end earlier marks =
    to.left earlier marks ∙ ap (is_wrong_from requests earlier members) (drop_all numbers i end)
  where
    drop_all : (xs : List ℕ) (k : ℕ) → length xs ≤ k → drop k xs ≡ []
    drop_all [] k past = drop-nil k
    drop_all (x ∷ xs) zero past = absurd (omega (arith, past))
    drop_all (x ∷ xs) (suc k) past = drop_all xs k (omega (arith, past))

pub members_ordered : (requests : List Request) (taken : List Bool) (numbers : List ℕ) (i : ℕ) (members : List ℕ)
    (edges : List (List ℕ)) (sorted : List ℕ) → MembersTo requests taken numbers i members edges → length numbers ≤ i →
    IsPermutation members sorted → IsSorted nat_cmp sorted → IsInOrder numbers sorted
members_ordered requests taken numbers i members edges sorted to end same in_order =
    let all : members ≡ numbers = to.are ∙ take_all i numbers end in
    record {
      same = subst (λ (ns : List ℕ). IsPermutation ns sorted) all same;
      rising =
          IsStrictlyIncreasing-from_distinct sorted (IsNonDecreasingBy-from_sort (λ (x : ℕ). x) sorted in_order)
          (IsDistinct-IsPermutation eqb nat_eq_equiv.symm members sorted same to.once);
    }

pub members_known : (requests : List Request) (taken : List Bool) (numbers : List ℕ) (i : ℕ) (members : List ℕ)
    (edges : List (List ℕ)) (sorted : List ℕ) → MembersTo requests taken numbers i members edges →
    IsPermutation members sorted → All (λ member. member < length requests) sorted
members_known requests taken numbers i members edges sorted to same = All-permutation (λ member. member < length requests) members sorted same to.known
