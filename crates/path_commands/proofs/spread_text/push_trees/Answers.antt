-- Both trees, and the last line.
use Rattle.std.specs.Prelude.{codes, [], ◌∷◌}
use Rattle.std.specs.Option.{option_copied}
use Rattle.std.proofs.lemmas.Result.{on_ok_weaker}
use Rattle.design_problem.specs.Text.{tree_lines}
use Rattle.path_commands.proofs.SpreadTexts.{trees_pushed}
use Rattle.path_commands.proofs.spread_text.push_trees.Goals as goal

pub returns : goal.returns
returns c =
    on_ok_weaker c.push_line.result
    (λ last. trees_pushed c.args.text.now.items c.push_tree.new.text.items c.push_tree-2.new.text.items c.push_line.new.text.items
    (tree_lines (codes "proof") (option_copied c.args.proof)) (tree_lines (codes "open") (option_copied c.args.undecided)) (codes "end" ∷ [])
    c.in_ok-push_tree.ensures c.in_ok-push_tree-2.ensures last)
    c.push_line.ensures
