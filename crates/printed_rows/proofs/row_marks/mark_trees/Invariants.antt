use Rattle.std.proofs.Common.{take}
use Rattle.cost_base.specs.Marks.{AreMarked}
use Rattle.printed_rows.specs.NamedRows.{is_row_named_in}
use Rattle.printed_rows.proofs.row_marks.mark_trees.Given as goal

-- the rows of the trees so far are marked
abbrev pub invariant-loop-tree : goal.invariant-loop-tree
invariant-loop-tree l = AreMarked (is_row_named_in (take l.tree-index l.trees)) l.fn.marks.items l.marks.items
