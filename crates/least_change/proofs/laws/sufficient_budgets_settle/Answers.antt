use Rattle.least_change.proofs.Sufficient.{sufficient_settle}
use Rattle.least_change.proofs.laws.sufficient_budgets_settle.Goals as goal

pub returns : goal.returns
returns c = sufficient_settle
