-- What was found is told, a line for each path.
use Rattle.std.proofs.Common.{◌∙◌, ap, sym}
use Rattle.path_commands.specs.Audits.{audit_lines}
use Rattle.path_commands.proofs.audit.report_of_audit.Goals as goal

pub returns : goal.returns
returns c = record {
  paths = c.in_ok-found.found.items;
  audited = c.in_ok-found.ensures;
  reports = record {
    status = c.made.ensures.status;
    text = c.made.ensures.text ∙ c.in_ok-text.ensures ∙ ap (audit_lines 0) c.deref.ensures.value;
  };
}
