use Rattle.std.proofs.Common.{rules}
use Rattle.present_costs.proofs.beside.resolve_beside_present.Goals as goal

pub returns-in-Some-clause-made : goal.returns-in-Some-clause-made
returns-in-Some-clause-made c = search rules
