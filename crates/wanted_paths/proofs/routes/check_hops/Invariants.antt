use Rattle.std.proofs.Common.{◌≡◌, ◌+◌, drop}
use Rattle.wanted_paths.specs.LineFaults.{broken_faults}
use Rattle.wanted_paths.proofs.routes.check_hops.Given as goal

abbrev pub invariant-loop-i : goal.invariant-loop-i
invariant-loop-i l = broken_faults l.names l.line (l.i + 1) (drop l.i l.hops) l.last ≡ broken_faults l.names l.line 1 l.hops l.last
