-- What was found is told, a line for each path.
use Rattle.std.proofs.Common.{◌∙◌, ap}
use Rattle.path_commands.specs.LiveAudits.{live_lines}
use Rattle.path_commands.proofs.audit_live.report_of_left.Goals as goal

pub returns : goal.returns
returns c = record {
  paths = c.in_ok-found.found.items;
  found = c.in_ok-found.ensures;
  reports = record {
    status = c.made.ensures.status;
    text = c.made.ensures.text ∙ c.in_ok-text.ensures ∙ ap (live_lines 0) c.deref.ensures.value;
  };
}
