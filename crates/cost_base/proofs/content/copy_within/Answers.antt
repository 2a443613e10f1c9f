use Rattle.std.proofs.Common.{rules}
use Rattle.cost_base.proofs.content.copy_within.Goals as goal

pub returns-then-is_long-2-clause-read : goal.returns-then-is_long-2-clause-read
returns-then-is_long-2-clause-read c = search rules
