-- The rows' places stand behind those of the box.
use Rattle.std.proofs.Common.{length, arith}
use Rattle.fraction_table.proofs.Pivots.{members_long}
use Rattle.table_kernel.proofs.kernel.Kernel.look_at_row.Goals as goal

pub is_below-requires : goal.is_below-requires
is_below-requires c =
    let k = c.args.self.now in
    omega (
      arith,
      c.requires.row,
      c.width-width.ensures,
      c.requires.kernel.shaped.constants,
      members_long k.table.costs (length k.table.rows.items),
    )
