use Rattle.designer_command.proofs.LiveCommands.{help_written}
use Rattle.designer_command.proofs.completeness.help_is_written.Goals as goal

pub returns : goal.returns
returns c = help_written
