-- The costs by their names, no row and no tree.
use Rattle.std.proofs.Common.{◌∙◌, ap, []}
use Rattle.std.specs.Prelude.{None, Some, codes}
use Rattle.design_problem.specs.declared.answer.Costs.{Costs}
use Rattle.text_lines.specs.Lines.{with_ends}
use Rattle.path_commands.specs.Spreads.{spread_lines}
use Rattle.path_commands.proofs.SpreadTexts.{trees_behind}
use Rattle.path_commands.proofs.spread_text.fit_text.Goals as goal

pub returns : goal.returns
returns c =
    trees_behind (codes "verdict fit") (Some c.in_ok-costs.costs) [] None None c.in_ok-text.text.items
    c.push_trees.new.text.items c.in_ok-text.ensures c.in_ok-push_trees.ensures
    ∙ ap (λ (printed : Costs). with_ends (spread_lines (codes "verdict fit") (Some printed) [] None None))
    c.in_ok-costs.ensures.named
