use Rattle.spread_sets.proofs.PrintedSets.{sufficient_settle}
use Rattle.spread_sets.proofs.laws.sufficient_budgets_settle.Goals as goal

pub returns : goal.returns
returns c = sufficient_settle
