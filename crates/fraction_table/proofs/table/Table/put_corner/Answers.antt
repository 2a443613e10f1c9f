-- The point that was put is the least.
use Rattle.fraction_table.proofs.CornerScales.{values_least}
use Rattle.fraction_table.proofs.table.Table.put_corner.Goals as goal

pub returns-clause-least : goal.returns-clause-least
returns-clause-least c =
    values_least c.args.self.now c.requires.tableau c.requires.high (record { scale = c.in_ok-scale.scale; values = c.put_corner_values.new.into })
    c.in_ok-scale.ensures.common c.put_corner_values.ensures.places c.put_corner_values.ensures.values
