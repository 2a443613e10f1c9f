use Rattle.designer_command.proofs.CompletenessLaws.{trials_designed}
use Rattle.designer_command.proofs.completeness.trials_are_designed.Goals as goal

pub returns : goal.returns
returns c = trials_designed
