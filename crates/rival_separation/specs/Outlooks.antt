-- An outlook is a request of a graph, at a point: what may be said of it, and of the distances that a room has for it.
use Rattle.std.specs.Prelude.{ℕ, ◌<◌, List, Option}
use Rattle.area_graph.specs.Paths.{IsPathOf}
use Rattle.area_graph.specs.Costs.{FitsPoint}
use Rattle.design_problem.specs.Problems.{request_ends}
use Rattle.spf_ties.specs.Distances.{Findings, IsRoomFor}
use Rattle.rival_separation.specs.declared.deviation.Deviation.{Deviation}
use Rattle.rival_separation.specs.declared.outlook.Outlook.{Outlook}
use Rattle.rival_separation.specs.declared.shared.Shared.{Shared}
use Rattle.rival_separation.specs.Askers.{CanCompareWith, IsReadyToCompare, MayShare, lead_at}
use Rattle.rival_separation.specs.Deviations.{IsBestDeviation, DeviatesFromPath}
use Rattle.rival_separation.specs.Rivals.{HasDistancesBelow, IsCheapestRival}

-- the point has a value for each variable of the graph
abbrev pub FitsOutlook : Outlook → Type 0
FitsOutlook o = FitsPoint o.graph.now o.point.now

-- the path of the request is a simple path of the graph between the request's ends without its excluded edges
abbrev pub HasItsPath : Outlook → Type 0
HasItsPath o = IsPathOf o.graph.now (request_ends o.request.now) o.request.now.path.edges

-- what a rival costs at least where the path of the request leads at the point
abbrev pub lead_in : Outlook → ℕ
lead_in o = lead_at o.graph.now o.point.now o.request.now

-- the room has the distances to the end of the request without its excluded edges, those below some limit
abbrev pub HasDistances : Outlook → Findings → Type 0
HasDistances o room = (limit : ℕ) × HasDistancesBelow o.graph.now o.point.now (request_ends o.request.now) limit room

-- the room has the distances to the end of the request without its excluded edges, up to what its path costs and the
-- scale
abbrev pub CanCompare : Outlook → Findings → Type 0
CanCompare o room = CanCompareWith o.graph.now o.point.now o.request.now room

-- the best of the deviations from the request's path that were seen, if there is one
abbrev pub IsBestDeviationFromPath : Outlook → Findings → (ℕ → ℕ → Type 0) → Option Deviation → Type 0
IsBestDeviationFromPath o room Seen best =
    IsBestDeviation (DeviatesFromPath o.graph.now o.point.now o.request.now.excluded room o.request.now.path.edges) Seen best

-- the cheapest rival of the request's path at the point
abbrev pub IsCheapestRivalSeen : Outlook → List ℕ → Type 0
IsCheapestRivalSeen o es = IsCheapestRival o.graph.now o.point.now (request_ends o.request.now) o.request.now.path.edges es

-- the outlook at each place below an end may be taken, its point fits, and the path of its request is one of it
pub record AreOutlooks (MayTake : ℕ → Type 0) (IsTaken : ℕ → Outlook → Type 0) (end : ℕ) : Type 0 where
  pub may : (k : ℕ) → k < end → MayTake k
  pub fits : (k : ℕ) (o : Outlook) → k < end → IsTaken k o → FitsOutlook o
  pub path : (k : ℕ) (o : Outlook) → k < end → IsTaken k o → HasItsPath o

-- the room is one for the graph, and has the distances that it is told to have
pub record MayShareFor (o : Outlook) (room : Findings) (shared : Option Shared) : Type 0 where
  pub room_for : IsRoomFor o.graph.now room
  pub has : MayShare o.graph.now o.point.now room shared

-- the room is one for the graph, and has the distances up to what the request's path is compared with
pub record IsReadyFor (o : Outlook) (room : Findings) (shared : Shared) : Type 0 where
  pub room_for : IsRoomFor o.graph.now room
  pub ready : IsReadyToCompare o.graph.now o.point.now o.request.now room shared
