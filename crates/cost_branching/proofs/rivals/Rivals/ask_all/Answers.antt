use Rattle.std.proofs.Common.{rules}
use Rattle.cost_branching.proofs.rivals.Rivals.ask_all.Goals as goal

pub returns-clause-asked : goal.returns-clause-asked
returns-clause-asked g c = search rules
