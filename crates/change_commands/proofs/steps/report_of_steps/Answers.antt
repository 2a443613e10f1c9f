-- The text of what was found, with its status.
use Rattle.std.proofs.Common.{◌∙◌}
use Rattle.change_commands.proofs.steps.report_of_steps.Goals as goal

pub returns : goal.returns
returns c = record {
  status = c.made.ensures.status ∙ c.status_of.ensures;
  text = c.made.ensures.text ∙ c.in_ok-text.ensures;
}
