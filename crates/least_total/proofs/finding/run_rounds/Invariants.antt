-- What is known stays true, and the ends come nearer.
use Rattle.std.proofs.Common.{◌-◌}
use Rattle.least_total.specs.Rounds.{IsTotalSoFar}
use Rattle.least_total.proofs.finding.run_rounds.Given as goal

abbrev pub invariant-loop-most : goal.invariant-loop-most
invariant-loop-most l = IsTotalSoFar l.problem l.limits.top l.limits.nodes l.cap l.so_far

abbrev pub decreases-loop-most : goal.decreases-loop-most
decreases-loop-most l = l.so_far.total - l.so_far.least
