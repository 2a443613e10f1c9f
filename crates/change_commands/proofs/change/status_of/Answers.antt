use Rattle.std.proofs.Common.{rules}
use Rattle.change_commands.proofs.change.status_of.Goals as goal

pub returns-in-Undecided : goal.returns-in-Undecided
returns-in-Undecided c = search rules
