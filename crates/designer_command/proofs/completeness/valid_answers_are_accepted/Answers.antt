use Rattle.designer_command.proofs.CompletenessLaws.{accepted}
use Rattle.designer_command.proofs.completeness.valid_answers_are_accepted.Goals as goal

pub returns : goal.returns
returns c = accepted
