use Rattle.designer_command.proofs.FurtherCommands.{totals_found}
use Rattle.designer_command.proofs.completeness.totals_are_found.Goals as goal

pub returns : goal.returns
returns c = totals_found
