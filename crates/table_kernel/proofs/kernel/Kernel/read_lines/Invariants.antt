-- The lines before the index are read.
use Rattle.table_kernel.proofs.ReadSteps.{AreReadBefore}
use Rattle.table_kernel.proofs.kernel.Kernel.read_lines.Given as goal

abbrev pub invariant-loop-var : goal.invariant-loop-var
invariant-loop-var l = AreReadBefore l.fn.self l.self l.var
