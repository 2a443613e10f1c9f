use Rattle.least_conflict.proofs.LargeBudgets.{sufficient_settle}
use Rattle.least_conflict.proofs.laws.sufficient_budgets_settle.Goals as goal

pub returns : goal.returns
returns c = sufficient_settle
