use Rattle.std.proofs.Common.{◌≡◌, ◌<◌, ℕ, get_or}
use Rattle.area_graph.specs.Costs.{cost}
use Rattle.spread_sets.specs.Spreads.{edges_of}
use Rattle.spread_sets.proofs.set_asker.cost_the_same.Given as goal

-- the first members cost the same
abbrev pub invariant-loop-member : goal.invariant-loop-member
invariant-loop-member l = (k : ℕ) → k < l.member-index → cost l.problem.graph l.point (edges_of l.problem (get_or l.members k 0)) ≡ l.first
