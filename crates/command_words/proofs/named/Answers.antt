use Rattle.std.proofs.Common.{◌∙◌, ap}
use Rattle.command_words.specs.Commands.{command_named}
use Rattle.text_lines.specs.Arguments.{texts}
use Rattle.command_words.proofs.JobSteps.{named_row, no_words}
use Rattle.command_words.proofs.named.Goals as goal

pub returns-in_err-first : goal.returns-in_err-first
returns-in_err-first c = rw c.from_residual.ensures (no_words c.args.words.now c.in_err-first.ensures.cases)

pub returns : goal.returns
returns c =
    rw (ap texts c.in_ok-first.ensures.cases.0)
    (named_row _ (texts c.in_ok-first._others.now) c.command_named.result (c.command_named.ensures ∙ ap command_named c.as_bytes.ensures.value))
