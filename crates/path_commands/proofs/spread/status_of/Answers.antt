use Rattle.std.proofs.Common.{rules}
use Rattle.path_commands.proofs.spread.status_of.Goals as goal

pub returns-in-Undecided : goal.returns-in-Undecided
returns-in-Undecided c = search rules
