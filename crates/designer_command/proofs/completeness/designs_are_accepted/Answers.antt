use Rattle.designer_command.proofs.CompletenessLaws.{designs_accepted}
use Rattle.designer_command.proofs.completeness.designs_are_accepted.Goals as goal

pub returns : goal.returns
returns c = designs_accepted
