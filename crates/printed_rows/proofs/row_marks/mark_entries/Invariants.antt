use Rattle.std.proofs.Common.{take}
use Rattle.cost_base.specs.Marks.{AreMarked}
use Rattle.printed_rows.specs.NamedRows.{is_row_named}
use Rattle.printed_rows.proofs.row_marks.mark_entries.Given as goal

-- the rows of the entries so far are marked
abbrev pub invariant-loop-entry : goal.invariant-loop-entry
invariant-loop-entry l = AreMarked (is_row_named (take l.entry-index l.entries)) l.fn.marks.items l.marks.items
