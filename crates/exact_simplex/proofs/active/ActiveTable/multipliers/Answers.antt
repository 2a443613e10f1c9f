-- The kernel has as many constants as the table that it stands for has lines.
use Rattle.exact_simplex.proofs.active.ActiveTable.multipliers.Goals as goal

pub multipliers-requires-clause-kernel : goal.multipliers-requires-clause-kernel
multipliers-requires-clause-kernel c = c.requires.active.kernel c.if-self.true
