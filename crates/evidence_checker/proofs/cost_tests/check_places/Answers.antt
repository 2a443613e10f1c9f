use Rattle.std.proofs.Common.{rules}
use Rattle.evidence_checker.proofs.cost_tests.check_places.Goals as goal

pub returns-clause-first : goal.returns-clause-first
returns-clause-first c = rw c.at.ensures (search rules)
