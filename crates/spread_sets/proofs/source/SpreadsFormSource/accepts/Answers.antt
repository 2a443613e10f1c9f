use Rattle.std.proofs.Common.{ap}
use Rattle.spread_sets.specs.Sources.{KnownSets}
use Rattle.spread_sets.proofs.AskedSets.{same_source}
use Rattle.spread_sets.proofs.source.SpreadsFormSource.accepts.Goals as goal

pub returns-clause-same : goal.returns-clause-same
returns-clause-same g c =
    same_source c.args.self.now c.shares_each.new.self (ap (λ (s : KnownSets). s.problem) c.shares_each.ensures.same)
    (ap (λ (s : KnownSets). s.sets) c.shares_each.ensures.same)
