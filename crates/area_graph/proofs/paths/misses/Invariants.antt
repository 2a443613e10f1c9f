use Rattle.std.proofs.Common.{◌↔◌, drop, map}
use Rattle.cost_base.specs.Lists.{Lacks}
use Rattle.area_graph.specs.Area.{edge_at}
use Rattle.area_graph.specs.Paths.{visited}
use Rattle.area_graph.proofs.paths.misses.Given as goal

abbrev pub invariant-loop-number : goal.invariant-loop-number
invariant-loop-number l =
    Lacks (visited l.graph l.start l.edges) l.vertex ↔ Lacks (map (λ e. (edge_at l.graph e).to) (drop l.number-index l.edges)) l.vertex
