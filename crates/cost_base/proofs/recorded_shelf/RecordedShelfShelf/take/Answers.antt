use Rattle.std.proofs.Common.{rules}
use Rattle.cost_base.proofs.recorded_shelf.RecordedShelfShelf.take.Goals as goal

pub returns-clause-gave : goal.returns-clause-gave
returns-clause-gave g c = search rules
