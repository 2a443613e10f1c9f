-- The lines before the counter stay small.
use Rattle.std.proofs.Common.{ℕ, ◌<◌}
use Rattle.integer_pivots.specs.Turns.{StaysSmall}
use Rattle.table_kernel.specs.Turns.{line_of, turn_of_line}
use Rattle.table_kernel.proofs.kernel.Kernel.lines_stay_small.Given as goal

abbrev pub invariant-loop-var : goal.invariant-loop-var
invariant-loop-var l = (v : ℕ) → v < l.var → StaysSmall (turn_of_line l.self l.column v) (line_of l.self v) l.self.entering
