use Rattle.std.proofs.Common.{rules}
use Rattle.cost_base.proofs.file_shelf.FileShelfShelf.take.Goals as goal

pub returns-in-Err-Failed-clause-gave : goal.returns-in-Err-Failed-clause-gave
returns-in-Err-Failed-clause-gave g c = search rules
