-- The paths so far were audited, and the room is for the graph.
use Rattle.std.proofs.Common.{take}
use Rattle.std.specs.List.{AllZip}
use Rattle.spf_ties.specs.Distances.{IsRoomFor}
use Rattle.path_commands.specs.Audits.{IsAudited}
use Rattle.path_commands.proofs.audit.audit_in.Given as goal

abbrev pub invariant-loop-request : goal.invariant-loop-request
invariant-loop-request l = record {
  room : IsRoomFor l.problem.graph l.room;
  found : AllZip (IsAudited l.problem.graph) (take l.request-index l.request-items) l.found.items;
}
