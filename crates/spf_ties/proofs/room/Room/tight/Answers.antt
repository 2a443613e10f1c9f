use Rattle.std.proofs.Common.{rules}
use Rattle.spf_ties.proofs.room.Room.tight.Goals as goal

pub returns-else-price-from : goal.returns-else-price-from
returns-else-price-from c = search rules
