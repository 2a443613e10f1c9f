use Rattle.designer_command.proofs.CompletenessLaws.{designed}
use Rattle.designer_command.proofs.completeness.well_formed_input_is_designed.Goals as goal

pub returns : goal.returns
returns c = designed
