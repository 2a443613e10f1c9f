use Rattle.std.proofs.Common.{rules}
use Rattle.evidence_checker.proofs.shape.shows_least.Goals as goal

pub returns-then-fits_cap : goal.returns-then-fits_cap
returns-then-fits_cap c = search rules
