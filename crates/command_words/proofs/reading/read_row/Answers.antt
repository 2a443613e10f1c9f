use Rattle.command_words.specs.Commands.{row_of}
use Rattle.text_lines.specs.Arguments.{texts}
use Rattle.command_words.proofs.JobSteps.{refused_row, taken_row}
use Rattle.command_words.proofs.reading.read_row.Goals as goal

pub returns-in_err-matches : goal.returns-in_err-matches
returns-in_err-matches c =
    refused_row (row_of c.args.name) (texts c.args.words.now) c.from_residual.result _ c.from_residual.ensures.1 c.in_err-matches.ensures

pub returns : goal.returns
returns c =
    taken_row (row_of c.args.name) (texts c.args.words.now) _ c.job_of_values.result c.in_ok-matches.ensures.0
    c.in_ok-matches.ensures.1 c.job_of_values.ensures
