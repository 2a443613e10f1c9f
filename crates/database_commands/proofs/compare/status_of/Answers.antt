use Rattle.std.proofs.Common.{rules}
use Rattle.database_commands.proofs.compare.status_of.Goals as goal

pub returns-else-are_alike : goal.returns-else-are_alike
returns-else-are_alike c = search rules
