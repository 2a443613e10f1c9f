use Rattle.designer_command.proofs.LiveCommands.{running_audited}
use Rattle.designer_command.proofs.completeness.running_area_is_audited.Goals as goal

pub returns : goal.returns
returns c = running_audited
