-- Where the kernel works its bounds are kept, since the greatest number is that of 127 bits.
use Rattle.exact_simplex.proofs.Actives.{started}
use Rattle.exact_simplex.proofs.active.ActiveTable.start.Goals as goal

pub returns-clause-sound : goal.returns-clause-sound
returns-clause-sound c =
    started c.is_wide.result c.in_ok-starting_kernel.field-0 c.in_ok-starting_kernel.ensures.sound
    (λ is. c.in_ok-starting_kernel.ensures.kernel (c.is_wide.ensures.0 is)) c.in_ok-starting_kernel.ensures.parked
