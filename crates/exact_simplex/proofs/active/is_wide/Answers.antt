use Rattle.std.proofs.Common.{rules}
use Rattle.exact_simplex.proofs.active.is_wide.Goals as goal

pub returns : goal.returns
returns c = search rules
