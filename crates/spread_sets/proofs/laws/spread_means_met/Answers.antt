use Rattle.spread_sets.proofs.SpreadLaws.{spread_is_met}
use Rattle.spread_sets.proofs.laws.spread_means_met.Goals as goal

pub returns : goal.returns
returns c = spread_is_met
