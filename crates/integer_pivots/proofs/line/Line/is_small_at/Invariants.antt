-- The numbers before the counter are small.
use Rattle.std.proofs.Common.{ℕ, ◌*◌, ◌^◌, ◌<◌, ◌≤◌}
use Rattle.std.specs.Prelude.{nat_abs}
use Rattle.integer_pivots.specs.Turns.{turned_entry}
use Rattle.integer_pivots.proofs.line.Line.is_small_at.Given as goal

abbrev pub invariant-loop-c : goal.invariant-loop-c
invariant-loop-c l = (k : ℕ) → k < l.c → nat_abs (turned_entry l.fn.turn l.column l.entering l.self k) ≤ 2 ^ 30 * nat_abs l.fn.lowest.part
