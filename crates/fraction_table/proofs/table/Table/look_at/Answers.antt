-- The column is a pivot where the line's entry in it is positive, and else changes nothing.
use Rattle.std.proofs.Common.{ap, length, arith}
use Rattle.fraction_table.proofs.Pivots.{line_long, line_read}
use Rattle.fraction_table.proofs.table.Table.look_at.Goals as goal

pub entry-entry-requires : goal.entry-entry-requires
entry-entry-requires c =
    let t = c.args.self.now in
    omega (
      arith,
      ap length (line_read t c.args.line c.index.result.now c.index.ensures c.requires.line),
      line_long t c.requires.tableau c.args.line c.requires.line,
      c.requires.column,
    )
