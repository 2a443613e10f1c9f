use Rattle.std.proofs.Common.{rules, ◌<◌, ◌≤◌, length}
use Rattle.printed_rows.specs.NamedRows.{is_row_named}
use Rattle.cost_base.proofs.MarkLaws.{all_marked, marked_more}
use Rattle.printed_rows.proofs.row_marks.mark_trees.Goals as goal

pub loop-tree-preserved : goal.loop-tree-preserved
loop-tree-preserved c =
    let xs = c.args.trees.now in
    let i = c.loop-tree.tree-index in
    let within : i < length xs = search rules in
    marked_more (λ k tree. is_row_named tree k) c.args.marks.now.items c.loop-tree.marks.items c.mark_tree.new.marks.items xs i
    c.tree-item.result within c.tree-item.is c.loop-tree.invariant c.mark_tree.ensures

pub returns : goal.returns
returns c =
    let past : length c.args.trees.now ≤ c.loop-tree.tree-index = search rules in
    all_marked (λ k tree. is_row_named tree k) c.args.marks.now.items c.loop-tree.marks.items c.args.trees.now c.loop-tree.tree-index past c.loop-tree.invariant
