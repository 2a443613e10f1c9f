use Rattle.std.proofs.Common.{rules}
use Rattle.least_conflict.proofs.telling.whole_row.Goals as goal

pub returns : goal.returns
returns c = search rules
