-- Sets that are made one after another, and the trees of their paths' prefixes.
use Rattle.std.proofs.Common.{◌≡◌, ℕ, ◌+◌, ◌<◌, ◌≤◌, refl, sym, ◌∙◌, ap, subst, get_or, List, [], ◌∷◌, ◌++◌, map, length, take, arith, append-nil, append_assoc, Bool, true, false}
use Rattle.std.specs.Prelude.{All, Contains, cond, filter}
use Rattle.std.proofs.lemmas.List.{map-append, take_all, take_more}
use Rattle.std.proofs.lemmas.List.Elements.{All-more, All-push, filter-append}
use Rattle.cost_base.specs.Lists.{numbers_from}
use Rattle.cost_base.proofs.ListLemmas.{numbers_from-push}
use Rattle.design_problem.specs.Problems.{DesignProblem}
use Rattle.set_separation.specs.declared.prefix_tree.Step.{Step}
use Rattle.set_separation.specs.PrefixTrees.{IsGrown}
use Rattle.set_separation.proofs.GrownTrees.{grown_first}
use Rattle.spread_sets.specs.Spreads.{edges_of, is_first, paths_of, set_of}
use Rattle.spread_sets.specs.declared.member_sets.MemberSet.{MemberSet}
use Rattle.spread_sets.specs.MemberSets.{HasTree, IsMemberSet, sets_in}
use Rattle.cost_branching.specs.SourceLaws.{contains-map}
use Rattle.spread_sets.proofs.SetLaws.{listed_at}

abbrev pub sets_below : List (List ℕ) → ℕ → List (List ℕ)
sets_below lines paths = map (set_of lines) (filter (is_first lines) (numbers_from 0 paths))

kept_one : (lines : List (List ℕ)) (path : ℕ) (now : List (List ℕ)) →
    now ++ map (set_of lines) (filter (is_first lines) (path ∷ []))
    ≡ cond (is_first lines path) (now ++ set_of lines path ∷ []) now
kept_one lines path now = by_test (is_first lines path)
  where
    by_test : (is : Bool) → now ++ map (set_of lines) (cond is (path ∷ []) []) ≡ cond is (now ++ set_of lines path ∷ []) now
    by_test true = refl
    by_test false = append-nil now

numbers_more : (path : ℕ) → numbers_from 0 (path + 1) ≡ numbers_from 0 path ++ path ∷ []
numbers_more path = numbers_from-push 0 path ∙ ap (λ (n : ℕ). numbers_from 0 path ++ n ∷ []) (let e : 0 + path ≡ path = omega arith in e)

-- one path more
pub sets_more : (lines : List (List ℕ)) (path : ℕ) (now new : List (List ℕ)) → now ≡ sets_below lines path →
    new ≡ cond (is_first lines path) (now ++ set_of lines path ∷ []) now → new ≡ sets_below lines (path + 1)
sets_more lines path now new same is =
    is
    ∙ sym (kept_one lines path now)
    ∙ ap (λ (xs : List (List ℕ)). xs ++ map (set_of lines) (filter (is_first lines) (path ∷ []))) same
    ∙ sym (map-append (set_of lines) (filter (is_first lines) (numbers_from 0 path)) (filter (is_first lines) (path ∷ [])))
    ∙ ap (map (set_of lines)) (sym (filter-append (is_first lines) (numbers_from 0 path) (path ∷ [])))
    ∙ ap (λ (xs : List ℕ). map (set_of lines) (filter (is_first lines) xs)) (sym (numbers_more path))

-- the first members' paths and one more
pub paths_more : (p : DesignProblem) (members : List ℕ) (k : ℕ) → k < length members →
    paths_of p (take k members) ++ edges_of p (get_or members k 0) ∷ [] ≡ paths_of p (take (k + 1) members)
paths_more p members k inside = sym (ap (paths_of p) (take_more members k 0 inside) ∙ map-append (edges_of p) (take k members) (get_or members k 0 ∷ []))

-- a set has a path
pub set_path : (p : DesignProblem) (set : List ℕ) → IsMemberSet p set → IsGrown (paths_of p set) [] []
set_path p [] is = absurd (let some = is.some in omega arith)
set_path p (i ∷ more) is = grown_first (paths_of p (i ∷ more)) (edges_of p i) (0, omega arith, refl)

-- sets with trees, one after another
pub trees_more : (p : DesignProblem) (old new : List MemberSet) (set : List ℕ) (tree : List Step)
    (rest all : List (List ℕ)) → sets_in old ++ (set ∷ rest) ≡ all →
    new ≡ old ++ record { members = set; tree = tree } ∷ [] → sets_in new ++ rest ≡ all
trees_more p old new set tree rest all same is =
    ap (λ (sets : List MemberSet). sets_in sets ++ rest) is
    ∙ ap (λ (sets : List (List ℕ)). sets ++ rest) (map-append (λ (s : MemberSet). s.members) old (record { members = set; tree = tree } ∷ []))
    ∙ append_assoc (sets_in old) (set ∷ []) rest
    ∙ same

pub has_trees_more : (p : DesignProblem) (old new : List MemberSet) (set : List ℕ) (tree : List Step) →
    All (HasTree p) old → IsMemberSet p set → IsGrown (paths_of p set) (paths_of p set) tree →
    new ≡ old ++ record { members = set; tree = tree } ∷ [] → All (HasTree p) new
has_trees_more p old new set tree all is grown same =
    subst (All (HasTree p)) (sym same) (All-push (HasTree p) old (record { members = set; tree = tree }) all (record { is_set = is; tree = grown }))

-- a bound that grows stays above what it was above
pub most_more : (sets : List MemberSet) (k old new : ℕ) (d : MemberSet) → k < length sets →
    All (λ (set : MemberSet). length set.tree + 1 ≤ old) (take k sets) → old ≤ new →
    length (get_or sets k d).tree + 1 ≤ new → All (λ (set : MemberSet). length set.tree + 1 ≤ new) (take (k + 1) sets)
most_more sets k old new d inside all more here =
    All-more (λ (set : MemberSet). length set.tree + 1 ≤ new) sets k d inside
    (λ i e i_in. let low = all i e i_in in omega arith) here

pub most_all : (sets : List MemberSet) (k most : ℕ) → length sets ≤ k →
    All (λ (set : MemberSet). length set.tree + 1 ≤ most) (take k sets) →
    All (λ (set : MemberSet). length set.tree + 1 ≤ most) sets
most_all sets k most ended all = subst (All (λ (set : MemberSet). length set.tree + 1 ≤ most)) (take_all k sets ended) all

-- the path of the next member
pub next_path : (p : DesignProblem) (members : List ℕ) (k : ℕ) (old new : List Step) (edges : List ℕ) →
    k < length members → edges ≡ edges_of p (get_or members k 0) →
    IsGrown (paths_of p members) (paths_of p (take k members)) old →
    ((wanted done : List (List ℕ)) → Contains wanted edges → IsGrown wanted done old →
    IsGrown wanted (done ++ edges ∷ []) new) →
    IsGrown (paths_of p members) (paths_of p (take (k + 1) members)) new
next_path p members k old new edges inside is tree insert =
    let has : Contains (paths_of p members) edges =
    subst (Contains (paths_of p members)) (sym is)
    (contains-map (edges_of p) members (get_or members k 0) (listed_at members k 0 inside)) in
    subst (λ (done : List (List ℕ)). IsGrown (paths_of p members) done new)
    (ap (λ (es : List ℕ). paths_of p (take k members) ++ es ∷ []) is ∙ paths_more p members k inside)
    (insert (paths_of p members) (paths_of p (take k members)) has tree)
