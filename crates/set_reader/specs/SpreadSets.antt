-- Sets of wanted paths that are to share traffic.
use Rattle.std.specs.Prelude.{◌≡◌, ◌≢◌, ℕ, ◌<◌, ◌≤◌, List, [], length, All, AllPairs, Contains}
use Rattle.std.specs.List.Sorted.{IsStrictlyIncreasing}
use Rattle.design_problem.specs.Problems.{DesignProblem, request_ends, request_at}

-- The numbers of one set's requests, in rising order: at least two, each of a wanted path. The paths lead between the
-- same ends, no two of them have the same edges, and no request excludes an edge.
pub record IsSetOf (p : DesignProblem) (set : List ℕ) : Type 0 where
  pub several : 2 ≤ length set
  pub rising : IsStrictlyIncreasing set
  pub known : All (λ i. i < length p.requests) set
  pub whole : All (λ i. (request_at p.requests i).excluded ≡ []) set
  pub ends : (i j : ℕ) → Contains set i → Contains set j → request_ends (request_at p.requests i) ≡ request_ends (request_at p.requests j)
  pub different : (i j : ℕ) → Contains set i → Contains set j → i ≢ j → (request_at p.requests i).path.edges ≢ (request_at p.requests j).path.edges

-- sets of a problem's requests, none of which stands in two sets
pub record AreSetsOf (p : DesignProblem) (sets : List (List ℕ)) : Type 0 where
  pub each : All (IsSetOf p) sets
  pub apart : AllPairs (λ a b. (i : ℕ) → Contains a i → Contains b i → ⊥) sets
