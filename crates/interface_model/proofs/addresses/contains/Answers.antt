use Rattle.std.proofs.Common.{rules}
use Rattle.interface_model.proofs.addresses.contains.Goals as goal

pub returns : goal.returns
returns c = search rules
