use Rattle.std.proofs.Common.{rules}
use Rattle.rival_separation.proofs.rival.find_rival_at_hand.Goals as goal

pub returns-in-Some-clause-rival : goal.returns-in-Some-clause-rival
returns-in-Some-clause-rival c = search rules
