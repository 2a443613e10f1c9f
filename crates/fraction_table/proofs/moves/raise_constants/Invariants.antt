-- The lines before the index are raised, and the others are as before.
use Rattle.std.proofs.Common.{◌≡◌, ℕ, ◌++◌, map, take, drop}
use Rattle.fraction_lines.specs.Turns.{AreTableLines}
use Rattle.fraction_table.specs.Moves.{raised_line}
use Rattle.fraction_table.proofs.moves.raise_constants.Given as goal

abbrev pub invariant-loop-line : goal.invariant-loop-line
invariant-loop-line l = record {
  raised : l.lines ≡ map (raised_line l.column l.fall) (take l.line-index l.initial.lines) ++ drop l.line-index l.initial.lines;
  numbers : (count : ℕ) → AreTableLines l.top count l.initial.lines → AreTableLines l.top count l.lines;
}
