-- The ranges before the counter aren't empty.
use Rattle.std.proofs.Common.{ℕ, ◌<◌, ◌≤◌, get_or}
use Rattle.fraction_table.proofs.fit.is_box.Given as goal

abbrev pub invariant-loop-var : goal.invariant-loop-var
invariant-loop-var l = (k : ℕ) → k < l.var → get_or l.low k 0 ≤ get_or l.high k 0
