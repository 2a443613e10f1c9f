use Rattle.std.proofs.Common.{take}
use Rattle.std.specs.List.{list_any}
use Rattle.cost_base.specs.Marks.{AreMarked}
use Rattle.printed_rows.specs.NamedRows.{part_names}
use Rattle.printed_rows.proofs.row_marks.mark_parts.Given as goal

-- the rows of the parts so far are marked
abbrev pub invariant-loop-row : goal.invariant-loop-row
invariant-loop-row l = AreMarked (λ k. list_any (part_names k) (take l.row-index l.parts)) l.fn.marks.items l.marks.items
