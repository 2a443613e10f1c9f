use Rattle.std.proofs.Common.{rules}
use Rattle.path_commands.proofs.audit.least_of.Goals as goal

pub returns-in-Some-clause-least : goal.returns-in-Some-clause-least
returns-in-Some-clause-least c = search rules

pub returns-in-None-clause-least : goal.returns-in-None-clause-least
returns-in-None-clause-least c = search rules
