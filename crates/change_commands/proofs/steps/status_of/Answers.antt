use Rattle.std.proofs.Common.{rules}
use Rattle.change_commands.proofs.steps.status_of.Goals as goal

pub returns-in-NoOrder : goal.returns-in-NoOrder
returns-in-NoOrder c = search rules
