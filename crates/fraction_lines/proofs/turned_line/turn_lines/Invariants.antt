-- The lines before the index are turned, and the others are as before.
use Rattle.std.proofs.Common.{◌≡◌, suc, ◌++◌, map, take, drop, length}
use Rattle.fraction_lines.specs.Turns.{AreTableLines, turned_by}
use Rattle.fraction_lines.proofs.turned_line.turn_lines.Given as goal

abbrev pub invariant-loop-line : goal.invariant-loop-line
invariant-loop-line l = record {
  turned : l.lines ≡ map (λ fs. turned_by fs l.quotients (suc l.pivot.column) l.pivot.inverse) (take l.line-index l.initial.lines) ++
      drop l.line-index l.initial.lines;
  numbers : AreTableLines l.top (length l.quotients) l.lines;
  scratch : length l.scratch ≡ length l.quotients;
}
