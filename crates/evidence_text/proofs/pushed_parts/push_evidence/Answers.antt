-- The rows' lines, and behind them the tree's.
use Rattle.std.specs.Prelude.{Some}
use Rattle.std.proofs.lemmas.Result.{on_ok_weaker}
use Rattle.design_problem.specs.Text.{tree_lines, rows_lines}
use Rattle.evidence_text.specs.Parts.{part_word}
use Rattle.text_lines.proofs.LineLaws.{lines_behind}
use Rattle.evidence_text.proofs.pushed_parts.push_evidence.Goals as goal

pub returns : goal.returns
returns c =
    on_ok_weaker c.push_tree.result
    (λ later. lines_behind c.args.text.now.items c.push_rows.new.text.items c.push_tree.new.text.items
    (rows_lines c.args.rows.now) (tree_lines (part_word c.args.part) (Some c.args.tree.now))
    c.in_ok-push_rows.ensures later)
    c.push_tree.ensures
