use Rattle.designer_command.proofs.ChangeCommands.{steps_found}
use Rattle.designer_command.proofs.completeness.steps_are_found.Goals as goal

pub returns : goal.returns
returns c = steps_found
