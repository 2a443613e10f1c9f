use Rattle.std.proofs.Common.{rules}
use Rattle.evidence_checker.proofs.costs.is_off.Goals as goal

pub returns : goal.returns
returns c = search rules
