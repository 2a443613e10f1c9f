use Rattle.std.proofs.Common.{◌≡◌, take, map}
use Rattle.lsdb_build.proofs.FirstPlaces.{names_of, AreNew}
use Rattle.lsdb_build.proofs.checks.refuse_seen_name.Given as goal

abbrev pub invariant-loop-i : goal.invariant-loop-i
invariant-loop-i l = record {
  seen : map (λ n. n.now) l.seen.keys ≡ names_of (take l.i l.configs);
  left : AreNew l.configs l.i;
}
