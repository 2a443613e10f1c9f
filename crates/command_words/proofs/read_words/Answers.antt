use Rattle.text_lines.specs.Arguments.{texts}
use Rattle.command_words.proofs.Ranges.{answered_in}
use Rattle.command_words.proofs.read_words.Goals as goal

pub returns-clause-ranges : goal.returns-clause-ranges
returns-clause-ranges c = answered_in (texts c.args.words.now) _ c.read_row.result c.in-Some.ensures c.read_row.ensures
