use Rattle.std.proofs.Common.{◌≡◌}
use Rattle.set_separation.proofs.PutPrefixes.{IsPutBack}
use Rattle.set_separation.proofs.outsider.put_prefix.Given as goal

-- the edges from the place back to the one that was come to
abbrev pub invariant-loop-at : goal.invariant-loop-at
invariant-loop-at l = record {
  rest : l.room ≡ record l.fn.room { path = l.room.path };
  path : IsPutBack l.tree l.place l.at l.room.path;
}

abbrev pub decreases-loop-at : goal.decreases-loop-at
decreases-loop-at l = l.at
