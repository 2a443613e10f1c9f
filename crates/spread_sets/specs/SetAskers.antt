-- What asks for the outsiders of several sets. No public clause cites it.
use Rattle.std.specs.Prelude.{◌≡◌, ℕ, ◌<◌, List, [], length, slice_index, slice_index_or, All, Contains, Option, None, Some}
use Rattle.area_graph.specs.declared.Point.{Point}
use Rattle.design_problem.specs.declared.problem.Request.{Request}
use Rattle.design_problem.specs.Problems.{DesignProblem, request_at}
use Rattle.spf_ties.specs.Distances.{Findings, IsRoomFor}
use Rattle.spread_sets.specs.declared.member_sets.MemberSet.{MemberSet}
use Rattle.spread_sets.specs.declared.set_asker.SetSurvey.{SetSurvey}
use Rattle.spread_sets.specs.MemberSets.{HasTreeWithin}
use Rattle.spread_sets.specs.Sources.{IsOutsiderTooCheap, set_at}
use Rattle.spread_sets.specs.Spreads.{Shares, name_of_set}

-- what stands for a set past the end
abbrev pub no_member_set : MemberSet
no_member_set = record { members = []; tree = [] }

-- the set of a number
abbrev pub member_set_at : List MemberSet → ℕ → MemberSet
member_set_at sets k = slice_index_or sets k no_member_set

-- what an asker shows: its room, for how many places of a tree it has room, and the sets' numbers in the order in which
-- they are looked at
pub record SetAsking : Type 0 where
  pub room : Findings
  pub places : ℕ
  pub order : List ℕ

-- an asker for a problem's sets: it has room for the graph and for each tree, and the number of each set stands in its
-- order
pub record IsAskerOfSets (p : DesignProblem) (sets : List MemberSet) (asker : SetAsking) : Type 0 where
  pub room : IsRoomFor p.graph asker.room
  pub trees : All (HasTreeWithin p asker.places) sets
  pub known : All (λ k. k < length sets) asker.order
  pub each : (k : ℕ) → k < length sets → Contains asker.order k

-- the members of the set at a place of an asker's order
abbrev pub members_seen : SetSurvey → SetAsking → ℕ → List ℕ
members_seen s asker place = (member_set_at s.sets.now (slice_index asker.order place)).members

-- the request of the first member of a set
abbrev pub first_request : DesignProblem → List ℕ → Request
first_request p set = request_at p.requests (name_of_set set)

-- an outsider of a set that is too cheap, or None where the members share
abbrev pub IsOutsiderIfAny : DesignProblem → Point → List ℕ → Option (List ℕ) → Type 0
IsOutsiderIfAny p point set None = Shares p point set
IsOutsiderIfAny p point set (Some es) = IsOutsiderTooCheap p point set es

-- of each set an outsider that is too cheap, or None where its members share
pub record AreOutsidersIfAny (p : DesignProblem) (point : Point) (sets : List (List ℕ)) (outsiders : List (Option (List ℕ))) : Type 0 where
  pub count : length outsiders ≡ length sets
  pub each : (k : ℕ) → k < length sets → IsOutsiderIfAny p point (set_at sets k) (slice_index_or outsiders k None)
