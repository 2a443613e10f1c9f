use Rattle.std.proofs.Common.{rules}
use Rattle.printed_parts.proofs.parts.at_greatest_bound.Goals as goal

pub returns-clause-same : goal.returns-clause-same
returns-clause-same c = search rules
