use Rattle.spread_sets.specs.Sources.{AreTiesPut}
use Rattle.spread_sets.proofs.source.Spreads.push_ties.Given as goal

abbrev pub invariant-loop-number : goal.invariant-loop-number
invariant-loop-number g l = AreTiesPut l.fn.place l.number l.fn.self l.fn.pool l.self l.pool
