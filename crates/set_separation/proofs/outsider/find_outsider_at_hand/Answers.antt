use Rattle.std.proofs.Common.{rules}
use Rattle.set_separation.proofs.outsider.find_outsider_at_hand.Goals as goal

pub returns-in-Some-clause-outsider : goal.returns-in-Some-clause-outsider
returns-in-Some-clause-outsider c = search rules
