use Rattle.std.proofs.Common.{rules}
use Rattle.present_costs.proofs.variables.noted_with.Goals as goal

pub returns-then-cost-first : goal.returns-then-cost-first
returns-then-cost-first c = search rules
