-- The text is that of what was found, and its answer is a value.
use Rattle.std.proofs.Common.{List, ℕ, subst}
use Rattle.cost_base.specs.declared.Status.TheVariants.{Done}
use Rattle.report_writer.specs.Reports.{Reports}
use Rattle.design_commands.proofs.total.least_report.Goals as goal

pub returns : goal.returns
returns c = record {
  value = c.keeps_answer.ensures;
  reports = subst (λ (bytes : List ℕ). Reports Done bytes c.made.result) c.in_ok-text.ensures c.made.ensures;
}
