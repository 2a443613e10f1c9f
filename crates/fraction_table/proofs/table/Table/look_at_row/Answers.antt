-- The rows' lines stand behind those of the box.
use Rattle.std.proofs.Common.{ap, length, arith}
use Rattle.fraction_table.proofs.Pivots.{lines_long}
use Rattle.fraction_table.proofs.table.Table.look_at_row.Goals as goal

pub is_below-requires : goal.is_below-requires
is_below-requires c =
    let t = c.args.self.now in
    omega (arith, c.requires.row, ap length c.as_slice-width.ensures, lines_long t c.requires.tableau)
