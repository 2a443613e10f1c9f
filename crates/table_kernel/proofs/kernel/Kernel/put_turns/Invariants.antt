-- The turns before the counter are put.
use Rattle.table_kernel.proofs.HeldTurns.{AreTurnsBefore}
use Rattle.table_kernel.proofs.kernel.Kernel.put_turns.Given as goal

abbrev pub invariant-loop-var : goal.invariant-loop-var
invariant-loop-var l = AreTurnsBefore l.fn.self l.self l.column l.var
