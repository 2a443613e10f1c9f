use Rattle.std.proofs.Common.{rules}
use Rattle.present_costs.proofs.variables.cost_within.Goals as goal

pub returns-then-cost-high : goal.returns-then-cost-high
returns-then-cost-high c = search rules
