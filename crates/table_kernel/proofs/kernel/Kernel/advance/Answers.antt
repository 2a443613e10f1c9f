-- Where no constant is negative, no line's is; and where a pivot isn't covered, the kernel is held up at it.
use Rattle.std.proofs.Common.{subst}
use Rattle.whole_numbers.specs.Lists.{number_at}
use Rattle.fraction_table.specs.PivotForms.{IsPivotFormFound}
use Rattle.table_kernel.specs.Kernels.{width_of}
use Rattle.table_kernel.proofs.Refusals.{held_up}
use Rattle.table_kernel.proofs.Settling.{lines_high}
use Rattle.table_kernel.proofs.kernel.Kernel.advance.Goals as goal

pub returns-in-None-clause-ahead : goal.returns-in-None-clause-ahead
returns-in-None-clause-ahead c =
    let k = c.args.self.now in
    lines_high k c.requires.kernel
    (subst (IsPivotFormFound (width_of k) k.table.rows.items (number_at k.constants.items)) c.in-None.is c.pivot_form.ensures)

pub returns-in-Some-clause-held_up : goal.returns-in-Some-clause-held_up
returns-in-Some-clause-held_up c =
    let k = c.args.self.now in
    held_up k c.raise.new.self c.in-Some.place c.raise.result
    (subst (IsPivotFormFound (width_of k) k.table.rows.items (number_at k.constants.items)) c.in-Some.is c.pivot_form.ensures)
    c.raise.ensures.same c.raise.ensures.refused
