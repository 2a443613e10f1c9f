use Rattle.std.proofs.Common.{rules}
use Rattle.least_total.proofs.printing.moved_from.Goals as goal

pub returns-in-Some : goal.returns-in-Some
returns-in-Some c = search rules
