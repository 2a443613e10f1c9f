use Rattle.std.proofs.Common.{rules}
use Rattle.path_commands.proofs.audit.audited.Goals as goal

pub returns-clause-found : goal.returns-clause-found
returns-clause-found c = search rules
