-- No count of theirs rises.
use Rattle.text_lines.specs.Arguments.{texts}
use Rattle.designer_command.proofs.CompletenessLaws.{sure_shelf, sure_sink}
use Rattle.designer_command.proofs.completeness.sure_run.Goals as goal

pub returns-clause-meets : goal.returns-clause-meets
returns-clause-meets g c = c.run.ensures.meets

pub returns-clause-shelf : goal.returns-clause-shelf
returns-clause-shelf g c = sure_shelf (texts c.args.words.now) _ _ _ _ _ _ _ _ c.run.result c.run.ensures.meets

pub returns-clause-sink : goal.returns-clause-sink
returns-clause-sink g c = sure_sink (texts c.args.words.now) _ _ _ _ _ _ _ _ c.run.result c.run.ensures.meets
