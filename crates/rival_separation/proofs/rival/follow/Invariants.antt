use Rattle.std.proofs.Common.{◌≡◌, ◌-◌, ℕ, length}
use Rattle.design_problem.specs.Problems.{request_ends}
use Rattle.rival_separation.specs.Rivals.{Completes, HasDistancesBelow}
use Rattle.rival_separation.proofs.RivalLemmas.{IsWay}
use Rattle.rival_separation.proofs.rival.follow.Given as goal

abbrev pub invariant-loop-at : goal.invariant-loop-at
invariant-loop-at l = record {
  found : (limit : ℕ) × HasDistancesBelow l.outlook.graph.now l.outlook.point.now (request_ends l.outlook.request.now) limit l.room;
  so_far : Completes l.outlook.graph.now l.outlook.point.now (request_ends l.outlook.request.now) l.room
      (IsWay l.outlook.graph.now l.outlook.point.now (request_ends l.outlook.request.now) l.fn.room l.start) l.room.path l.at;
  same : l.room ≡ record l.fn.room { path = l.room.path };
}

abbrev pub decreases-loop-at : goal.decreases-loop-at
decreases-loop-at l = length l.room.costs - length l.room.path
