use Rattle.std.proofs.Common.{ℕ, ◌<◌, get_or}
use Rattle.design_problem.specs.declared.problem.Request.{Request}
use Rattle.evidence_checker.specs.Costs.{IsOnlyAt}
use Rattle.evidence_checker.proofs.paths.first_not_only.Given as goal

abbrev pub invariant-loop-index : goal.invariant-loop-index
invariant-loop-index l = (k : ℕ) (d : Request) → k < l.index → IsOnlyAt l.graph l.costs (get_or l.requests k d)
