use Rattle.std.proofs.Common.{rules}
use Rattle.database_commands.proofs.route.route_end.Goals as goal

pub returns : goal.returns
returns c = search rules
