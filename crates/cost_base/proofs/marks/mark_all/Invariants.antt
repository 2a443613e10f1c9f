use Rattle.std.proofs.Common.{take}
use Rattle.cost_base.specs.Marks.{AreMarked, is_one_of}
use Rattle.cost_base.proofs.marks.mark_all.Given as goal

-- the places so far are marked
abbrev pub invariant-loop-place : goal.invariant-loop-place
invariant-loop-place l = AreMarked (is_one_of (take l.place-index l.places)) l.fn.marks.items l.marks.items
