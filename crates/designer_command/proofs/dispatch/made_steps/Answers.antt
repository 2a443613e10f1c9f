-- The order of steps is of the costs that a text gives, in the network of the files.
use Rattle.text_lines.specs.Arguments.{texts}
use Rattle.input_files.specs.Stops.{files_named}
use Rattle.change_commands.specs.Steps.{MaySteps}
use Rattle.change_commands.specs.WantedMoves.{steps_read}
use Rattle.designer_command.specs.Runs.{input_files_of}
use Rattle.designer_command.proofs.Runs.{files_made}
use Rattle.designer_command.proofs.dispatch.made_steps.Goals as goal

pub returns : goal.returns
returns g c =
    files_made (g.S.Shelf.gave c.args.shelf.now c.steps_report.new.shelf) (λ names. steps_read names c.args.wanted.answer.now)
    (MaySteps c.args.wanted.nodes c.args.wanted.by) c.steps_report.result (files_named c.files.result)
    (input_files_of c.args.request.now (texts c.args.configs.now)) c.files.ensures c.steps_report.ensures
