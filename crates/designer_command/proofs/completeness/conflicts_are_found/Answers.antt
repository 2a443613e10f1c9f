use Rattle.designer_command.proofs.FurtherCommands.{conflicts_found}
use Rattle.designer_command.proofs.completeness.conflicts_are_found.Goals as goal

pub returns : goal.returns
returns c = conflicts_found
