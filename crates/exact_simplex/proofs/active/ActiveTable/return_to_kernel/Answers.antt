-- The kernel works on where it was read back.
use Rattle.exact_simplex.proofs.ParkedTables.{read_back_or_beside}
use Rattle.exact_simplex.proofs.active.ActiveTable.return_to_kernel.Goals as goal

pub returns-then-is_wide-clause-active : goal.returns-then-is_wide-clause-active
returns-then-is_wide-clause-active c =
    let back = c.read_back.ensures in
    read_back_or_beside c.is_ok-self.result c.args.self.now c.read_back.new.self c.read_back.result c.is_ok-self.ensures.value c.requires.fractions
    c.requires.active back.table back.parked back.kernel
