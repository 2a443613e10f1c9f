-- The table in fractions is the one that the kernel stood for.
use Rattle.exact_simplex.proofs.active.ActiveTable.leave_kernel.Goals as goal

pub restate-requires : goal.restate-requires
restate-requires c = record { kernel = c.requires.active.kernel c.requires.kernel }
