-- The exit status is the number of the run's status.
use Rattle.std.proofs.Common.{◌∙◌}
use Rattle.designer_command.proofs.exit_and_record.run_to_exit.Goals as goal

pub returns-clause-exit : goal.returns-clause-exit
returns-clause-exit g c = c.from.ensures ∙ c.number.ensures
