use Rattle.std.proofs.Common.{rules}
use Rattle.cost_branching.proofs.pool.Pool.truncate.Goals as goal

pub returns-clause-rows : goal.returns-clause-rows
returns-clause-rows c = search rules
