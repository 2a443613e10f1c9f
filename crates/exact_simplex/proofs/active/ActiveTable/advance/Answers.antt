-- The table in fractions takes the step, and the kernel that is read back stands for it.
use Rattle.exact_simplex.proofs.ParkedTables.{stepped_beside}
use Rattle.exact_simplex.proofs.active.ActiveTable.advance.Goals as goal

pub return_to_kernel-requires-clause-active : goal.return_to_kernel-requires-clause-active
return_to_kernel-requires-clause-active c =
    let told = c.in_ok-solved.ensures in
    stepped_beside c.args.self.now c.advance.new.self c.requires.fractions c.requires.active told.keeps told.room told.tableau
