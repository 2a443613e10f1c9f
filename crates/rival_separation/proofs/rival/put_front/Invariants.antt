use Rattle.std.proofs.Common.{◌≡◌, take}
use Rattle.rival_separation.proofs.rival.put_front.Given as goal

abbrev pub invariant-loop-edge : goal.invariant-loop-edge
invariant-loop-edge l = l.room ≡ record l.fn.room { path = take l.edge-index l.edges }
