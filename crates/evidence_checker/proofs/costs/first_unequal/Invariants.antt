use Rattle.evidence_checker.proofs.CostLaws.{LeastOff}
use Rattle.evidence_checker.proofs.costs.first_unequal.Given as goal

abbrev pub invariant-loop-index : goal.invariant-loop-index
invariant-loop-index l = LeastOff l.costs l.names l.lines l.index l.least
