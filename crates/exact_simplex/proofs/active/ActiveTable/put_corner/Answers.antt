-- Where no constant of the lines is negative none of the kernel's is.
use Rattle.exact_simplex.proofs.Actives.{kernel_high}
use Rattle.exact_simplex.proofs.active.ActiveTable.put_corner.Goals as goal

pub put_corner-requires-clause-kernel : goal.put_corner-requires-clause-kernel
put_corner-requires-clause-kernel c = c.requires.active.kernel c.if-self.true

pub put_corner-requires-clause-high : goal.put_corner-requires-clause-high
put_corner-requires-clause-high c =
    kernel_high c.args.self.now.in_kernel c.args.self.now.kernel c.if-self.true (c.requires.active.kernel c.if-self.true) c.requires.high
