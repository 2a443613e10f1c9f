-- The columns before the index have their marks.
use Rattle.std.proofs.Common.{take}
use Rattle.fraction_lines.specs.Marks.{AllMarked}
use Rattle.fraction_lines.proofs.marks.marks_of.Given as goal

abbrev pub invariant-loop-entry : goal.invariant-loop-entry
invariant-loop-entry l = AllMarked l.marks (take l.entry-index l.entries)
