use Rattle.spread_sets.specs.Asking.{AreSetsAsked}
use Rattle.spread_sets.proofs.source.Spreads.ask_each.Given as goal

abbrev pub invariant-loop-place : goal.invariant-loop-place
invariant-loop-place g l = AreSetsAsked l.point l.place l.fn.self l.fn.pool l.self l.pool l.asked
