use Rattle.spread_sets.proofs.SpreadLaws.{cheapest_listed}
use Rattle.spread_sets.proofs.laws.cheapest_are_members.Goals as goal

pub returns : goal.returns
returns c = cheapest_listed
