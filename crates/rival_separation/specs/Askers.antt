-- What asks for the rivals of several requests.
use Rattle.std.specs.Prelude.{◌≡◌, ℕ, ◌+◌, ◌<◌, List, length, slice_index, slice_index_or, All, Contains, Option, None, Some}
use Rattle.area_graph.specs.declared.Point.{Point}
use Rattle.area_graph.specs.Area.{Area}
use Rattle.area_graph.specs.Costs.{LeadsBy, cost}
use Rattle.area_graph.specs.Paths.{IsPathOf}
use Rattle.design_problem.specs.declared.problem.Request.{Request}
use Rattle.design_problem.specs.Problems.{request_ends, request_at}
use Rattle.spf_ties.specs.Distances.{Findings, IsRoomFor}
use Rattle.rival_separation.specs.declared.shared.Shared.{Shared}
use Rattle.rival_separation.specs.declared.asker.Survey.{Survey}
use Rattle.rival_separation.specs.Rivals.{HasDistancesBelow, HasDistancesTo, IsCheapestRival}

-- what an asker shows: its room, and the requests' numbers in the order in which they are looked at
pub record Asking : Type 0 where
  pub room : Findings
  pub order : List ℕ

-- an asker for a graph and so many requests: the number of each stands in the order in which they are looked at
pub record IsAskerFor (g : Area) (requests : List Request) (asker : Asking) : Type 0 where
  pub room : IsRoomFor g asker.room
  pub known : All (λ k. k < length requests) asker.order
  pub each : (k : ℕ) → k < length requests → Contains asker.order k

-- the path of each request is a simple path between its ends without its excluded edges
abbrev pub ArePathsOf : Area → List Request → Type 0
ArePathsOf g requests = All (λ r. IsPathOf g (request_ends r) r.path.edges) requests

-- the path of a request leads at a point by the scale
abbrev pub RequestLeads : Area → Point → Request → Type 0
RequestLeads g p r = LeadsBy p.scale g p (request_ends r) r.path.edges

-- what a rival costs at least where the path of a request leads
abbrev pub lead_at : Area → Point → Request → ℕ
lead_at g p r = cost g p r.path.edges + p.scale

-- a request's cheapest rival, or None where its path leads
abbrev pub IsCheapestIfAny : Area → Point → Request → Option (List ℕ) → Type 0
IsCheapestIfAny g p r None = RequestLeads g p r
IsCheapestIfAny g p r (Some es) = IsCheapestRival g p (request_ends r) r.path.edges es

-- each request's cheapest rival, in the requests' order, None where its path leads
pub record AreCheapestRivals (g : Area) (p : Point) (requests : List Request) (rivals : List (Option (List ℕ))) : Type 0 where
  pub count : length rivals ≡ length requests
  pub each : (k : ℕ) → k < length requests → IsCheapestIfAny g p (request_at requests k) (slice_index_or rivals k None)

-- the request at a place of an asker's order
abbrev pub request_seen : Survey → Asking → ℕ → Request
request_seen s asker place = request_at s.requests.now (slice_index asker.order place)

-- the room has the distances to the end of a request without its excluded edges, up to what its path costs and the
-- scale
abbrev pub CanCompareWith : Area → Point → Request → Findings → Type 0
CanCompareWith g p r room = HasDistancesTo g p (request_ends r) (lead_at g p r) room

-- the room has the distances to the end of a request without its excluded edges, those below a limit
abbrev pub IsShared : Area → Point → Findings → Shared → Type 0
IsShared g p room shared = HasDistancesBelow g p (request_ends shared.request.now) shared.limit room

-- the room has the distances to the end of a request, those below a limit, or nothing is known of what it has
abbrev pub MayShare : Area → Point → Findings → Option Shared → Type 0
MayShare g p room None = Unit {0}
MayShare g p room (Some shared) = IsShared g p room shared

-- the room has the distances up to what the path of a request is compared with, which others may share
pub record IsReadyToCompare (g : Area) (p : Point) (r : Request) (room : Findings) (shared : Shared) : Type 0 where
  pub shares : IsShared g p room shared
  pub found : CanCompareWith g p r room
