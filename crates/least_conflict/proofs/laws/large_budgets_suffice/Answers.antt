use Rattle.least_conflict.proofs.LargeBudgets.{large_suffice}
use Rattle.least_conflict.proofs.laws.large_budgets_suffice.Goals as goal

pub returns : goal.returns
returns c = large_suffice
