use Rattle.std.proofs.Common.{rules}
use Rattle.change_commands.proofs.changed_lines.changed_cost.Goals as goal

pub returns-then-present-cost : goal.returns-then-present-cost
returns-then-present-cost c = search rules
