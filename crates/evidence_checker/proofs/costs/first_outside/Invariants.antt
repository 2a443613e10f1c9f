use Rattle.std.proofs.Common.{ℕ, ◌<◌}
use Rattle.evidence_checker.specs.Tests.{IsOutside}
use Rattle.evidence_checker.proofs.costs.first_outside.Given as goal

abbrev pub invariant-loop-var : goal.invariant-loop-var
invariant-loop-var l = (k : ℕ) → k < l.var → IsOutside l.low l.high l.costs k → ⊥
