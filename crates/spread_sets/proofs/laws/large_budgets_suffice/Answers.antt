use Rattle.spread_sets.proofs.PrintedSets.{large_suffice}
use Rattle.spread_sets.proofs.laws.large_budgets_suffice.Goals as goal

pub returns : goal.returns
returns c = large_suffice
