use Rattle.designer_command.proofs.LargeBudgets.{large_suffice}
use Rattle.designer_command.proofs.completeness.large_budgets_suffice.Goals as goal

pub returns : goal.returns
returns c = large_suffice
