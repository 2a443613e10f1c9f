use Rattle.std.proofs.Common.{◌≡◌, ◌++◌, drop}
use Rattle.std.specs.Prelude.{filter, ◌==◌}
use Rattle.area_graph.specs.Area.{edge_at}
use Rattle.wanted_paths.proofs.parts.push_into.Given as goal

abbrev pub invariant-loop-edge : goal.invariant-loop-edge
invariant-loop-edge l =
    l.excluded.items ++ filter (λ e. (edge_at l.graph e).to == l.vertex) (drop l.edge-index l.edges)
    ≡ l.initial.excluded.items ++ filter (λ e. (edge_at l.graph e).to == l.vertex) l.edges
