use Rattle.designer_command.proofs.FurtherCommands.{spreads_found}
use Rattle.designer_command.proofs.completeness.spreads_are_found.Goals as goal

pub returns : goal.returns
returns c = spreads_found
