-- The lines of the box are the first ones.
use Rattle.std.proofs.Common.{ap, length, arith}
use Rattle.fraction_table.proofs.Pivots.{lines_long}
use Rattle.fraction_table.proofs.table.Table.first_negative_bound.Goals as goal

pub is_below-requires : goal.is_below-requires
is_below-requires c =
    let t = c.args.self.now in
    omega (arith, c.loop-line-test.true, ap length c.as_slice-width.ensures, lines_long t c.requires.tableau)
