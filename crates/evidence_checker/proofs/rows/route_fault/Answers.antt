use Rattle.std.proofs.Common.{rules}
use Rattle.evidence_checker.proofs.rows.route_fault.Goals as goal

pub returns-then-eq : goal.returns-then-eq
returns-then-eq c = search rules
