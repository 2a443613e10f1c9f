-- The costs by their names.
use Rattle.std.proofs.Common.{◌∙◌, ◌++◌, ap}
use Rattle.std.specs.Prelude.{Some}
use Rattle.std.proofs.lemmas.Result.{on_ok_weaker}
use Rattle.design_problem.specs.declared.answer.Costs.{Costs}
use Rattle.design_problem.specs.Text.{costs_lines}
use Rattle.text_lines.specs.Lines.{with_ends}
use Rattle.path_commands.proofs.conflict_text.push_costs_part.Goals as goal

pub returns : goal.returns
returns c =
    on_ok_weaker c.push_costs.result (λ pushed. pushed
    ∙ ap (λ (printed : Costs). c.args.text.now.items ++ with_ends (costs_lines (Some printed)))
    c.in_ok-costs.ensures.named) c.push_costs.ensures
