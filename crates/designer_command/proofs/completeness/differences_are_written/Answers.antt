use Rattle.designer_command.proofs.LiveCommands.{differences_written}
use Rattle.designer_command.proofs.completeness.differences_are_written.Goals as goal

pub returns : goal.returns
returns c = differences_written
