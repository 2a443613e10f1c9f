-- The kernel adds the row where its bounds cover it, and else the table in fractions, for which there is room, too.
use Rattle.std.proofs.Common.{rules}
use Rattle.exact_simplex.proofs.active.ActiveTable.put_row.Goals as goal

pub covers-requires-clause-few : goal.covers-requires-clause-few
covers-requires-clause-few c = c.requires.active.room.few

pub put_row-requires-clause-kernel : goal.put_row-requires-clause-kernel
put_row-requires-clause-kernel c = c.requires.active.kernel c.if-self.true

pub returns-then-covers-clause-stays : goal.returns-then-covers-clause-stays
returns-then-covers-clause-stays c = search rules
