use Rattle.spread_sets.proofs.AskedSets.{same_source}
use Rattle.spread_sets.proofs.source.SpreadsFormSource.ask.Goals as goal

pub returns-clause-same : goal.returns-clause-same
returns-clause-same g c = same_source c.args.self.now c.ask_each.new.self c.ask_each.ensures.problem c.ask_each.ensures.sets
