use Rattle.designer_command.proofs.CompletenessLaws.{audited}
use Rattle.designer_command.proofs.completeness.well_formed_input_is_audited.Goals as goal

pub returns : goal.returns
returns c = audited
