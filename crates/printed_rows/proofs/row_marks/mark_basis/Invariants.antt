use Rattle.std.proofs.Common.{take}
use Rattle.std.specs.List.{list_any}
use Rattle.cost_base.specs.Marks.{AreMarked}
use Rattle.printed_rows.specs.NamedRows.{member_names}
use Rattle.printed_rows.proofs.row_marks.mark_basis.Given as goal

-- the rows of the members so far are marked
abbrev pub invariant-loop-member : goal.invariant-loop-member
invariant-loop-member l = AreMarked (λ k. list_any (member_names k) (take l.member-index l.basis)) l.fn.marks.items l.marks.items
