use Rattle.designer_command.proofs.FurtherCommands.{lsas_written}
use Rattle.designer_command.proofs.completeness.identified_input_is_written.Goals as goal

pub returns : goal.returns
returns c = lsas_written
