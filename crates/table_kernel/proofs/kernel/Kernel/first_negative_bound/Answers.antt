-- The places of the box are the first ones.
use Rattle.std.proofs.Common.{length, arith}
use Rattle.fraction_table.proofs.Pivots.{members_long}
use Rattle.table_kernel.proofs.kernel.Kernel.first_negative_bound.Goals as goal

pub is_below-requires : goal.is_below-requires
is_below-requires c =
    let k = c.args.self.now in
    omega (
      arith,
      c.loop-place-test.true,
      c.width-width.ensures,
      c.requires.kernel.shaped.constants,
      members_long k.table.costs (length k.table.rows.items),
    )
