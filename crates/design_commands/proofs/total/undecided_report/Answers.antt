-- The text is that of what was found, and its answer is a value.
use Rattle.std.proofs.Common.{◌∙◌, List, ℕ, ap, subst}
use Rattle.cost_base.specs.declared.Status.TheVariants.{Undecided}
use Rattle.design_problem.specs.declared.form.Row.{Row}
use Rattle.design_problem.specs.Text.{text}
use Rattle.report_writer.specs.Reports.{Reports}
use Rattle.design_commands.specs.TotalRuns.{at_cap, bound_lines, total_text}
use Rattle.design_commands.proofs.total.undecided_report.Goals as goal

pub returns : goal.returns
returns c = record {
  value = c.keeps_answer.ensures;
  reports = subst (λ (bytes : List ℕ). Reports Undecided bytes c.made.result)
      (c.in_ok-text.ensures
      ∙ ap (λ (rows : List Row). total_text (text c.args.answer.now) c.args.range.total (bound_lines c.args.range.bound rows c.args.tree))
      c.deref.ensures.value)
      c.made.ensures;
}
