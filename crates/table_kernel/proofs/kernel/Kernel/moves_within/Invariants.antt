-- The constants of the variables before the counter stay within their limit.
use Rattle.std.proofs.Common.{ℕ, ◌<◌}
use Rattle.std.specs.Prelude.{nat_abs}
use Rattle.table_kernel.specs.Moves.{LineMayMove, box_distance}
use Rattle.table_kernel.specs.Turns.{line_of}
use Rattle.table_kernel.proofs.kernel.Kernel.moves_within.Given as goal

abbrev pub invariant-loop-var : goal.invariant-loop-var
invariant-loop-var l = (v : ℕ) → v < l.var → LineMayMove (nat_abs l.self.common) (box_distance l.self.table.costs l.costs) (line_of l.self v)
