-- What a tableau keeps while a row is added.
use Rattle.fraction_table.specs.declared.table.Table.{Table}
use Rattle.fraction_table.specs.RowLines.{HoldsSame}
use Rattle.fraction_table.specs.ValidTables.{HasRoom}

-- room for a pivot stays
pub room_same : (old new : Table) → HoldsSame old new → HasRoom old → HasRoom new
room_same old new same room =
    record { few = rw same.costs room.few; quotients = rw (same.costs, same.quotients) room.quotients; scratch = rw (same.costs, same.scratch) room.scratch }
