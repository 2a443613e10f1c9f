-- What was found of the paths so far, and the room is for the graph.
use Rattle.std.proofs.Common.{take}
use Rattle.std.specs.List.{AllZip}
use Rattle.spf_ties.specs.Distances.{IsRoomFor}
use Rattle.path_commands.specs.LiveAudits.{IsFoundLive}
use Rattle.path_commands.proofs.audit_live.audit_left_in.Given as goal

abbrev pub invariant-loop-request : goal.invariant-loop-request
invariant-loop-request l = record {
  room : IsRoomFor l.problem.graph l.room;
  found : AllZip (IsFoundLive l.problem.graph l.exclusion) (take l.request-index l.request-items) l.found.items;
}
