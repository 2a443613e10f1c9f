use Rattle.designer_command.proofs.CompletenessLaws.{written}
use Rattle.designer_command.proofs.completeness.headed_costs_are_written.Goals as goal

pub returns : goal.returns
returns c = written
