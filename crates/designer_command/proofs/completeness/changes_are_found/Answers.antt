use Rattle.designer_command.proofs.ChangeCommands.{changes_found}
use Rattle.designer_command.proofs.completeness.changes_are_found.Goals as goal

pub returns : goal.returns
returns c = changes_found
