-- What sets of a problem keep, and sets with the trees of their paths' prefixes.
use Rattle.std.specs.Prelude.{◌≡◌, ◌≢◌, ℕ, ◌+◌, ◌<◌, ◌≤◌, List, [], ◌∷◌, map, length, All, AllPairs, Option, None, Some, cond, slice_index_or}
use Rattle.design_problem.specs.Problems.{DesignProblem, request_ends, request_at}
use Rattle.set_reader.specs.Reading.{stands_in}
use Rattle.set_separation.specs.PrefixTrees.{IsGrown}
use Rattle.spread_sets.specs.declared.member_sets.MemberSet.{MemberSet}
use Rattle.spread_sets.specs.Spreads.{ends_in, name_of_set, paths_of}

-- the numbers of wanted paths, at least one, that lead between the same ends without the same edges
pub record IsMemberSet (p : DesignProblem) (set : List ℕ) : Type 0 where
  pub some : 0 < length set
  pub known : All (λ path. path < length p.requests) set
  pub ends : All (λ path. request_ends (request_at p.requests path) ≡ ends_in p set) set

-- each set is one of wanted paths with one pair of ends
abbrev pub AreMemberSets : DesignProblem → List (List ℕ) → Type 0
AreMemberSets p sets = All (IsMemberSet p) sets

-- sets with names of their own, none of which has a member twice
pub record AreDistinctSets (sets : List (List ℕ)) : Type 0 where
  pub names : AllPairs (λ a b. name_of_set a ≢ name_of_set b) sets
  pub members : All (λ set. AllPairs (λ i j. i ≢ j) set) sets

-- a set with the tree of its paths' common prefixes
pub record HasTree (p : DesignProblem) (s : MemberSet) : Type 0 where
  pub is_set : IsMemberSet p s.members
  pub tree : IsGrown (paths_of p s.members) (paths_of p s.members) s.tree

-- a set with its tree, which has at most so many places
pub record HasTreeWithin (p : DesignProblem) (places : ℕ) (s : MemberSet) : Type 0 where
  pub has_tree : HasTree p s
  pub fits : length s.tree + 1 ≤ places

-- the sets without the trees of their paths
abbrev pub sets_in : List MemberSet → List (List ℕ)
sets_in sets = map (λ s. s.members) sets

-- the number of the first line in which a path stands, where the first of the lines has this number
abbrev pub line_with_path : ℕ → List (List ℕ) → ℕ → Option ℕ
line_with_path number [] path = None
line_with_path number (set ∷ sets) path = cond (stands_in path set) (Some number) (line_with_path (number + 1) sets path)

-- beside each path stands the number of the first line in which it is
abbrev pub AreLineNumbers : ℕ → List (List ℕ) → List (Option ℕ) → Type 0
AreLineNumbers number lines numbers = (path : ℕ) → path < length numbers → slice_index_or numbers path None ≡ line_with_path number lines path
