-- The undecided tree at the greatest bound.
use Rattle.std.proofs.Common.{◌∙◌, ap}
use Rattle.std.specs.Prelude.{None, Some, codes}
use Rattle.design_problem.specs.declared.answer.CapTree.{CapTree}
use Rattle.text_lines.specs.Lines.{with_ends}
use Rattle.path_commands.specs.Spreads.{spread_lines}
use Rattle.path_commands.proofs.SpreadTexts.{trees_behind}
use Rattle.path_commands.proofs.spread_text.undecided_text.Goals as goal

pub returns : goal.returns
returns c =
    trees_behind (codes "verdict undecided") None c.args.rows.now None (Some c.at_greatest_bound-tree.result) c.in_ok-text.text.items
    c.push_trees.new.text.items c.in_ok-text.ensures c.in_ok-push_trees.ensures
    ∙ ap (λ (t : CapTree). with_ends (spread_lines (codes "verdict undecided") None c.args.rows.now None (Some t)))
    c.at_greatest_bound-tree.ensures.same
