use Rattle.std.proofs.Common.{◌≡◌, drop}
use Rattle.std.specs.Prelude.{filter, ◌==◌}
use Rattle.cost_base.specs.Lists.{first_of}
use Rattle.area_graph.specs.Area.{edge_at}
use Rattle.wanted_paths.proofs.routes.first_into.Given as goal

abbrev pub invariant-loop-edge : goal.invariant-loop-edge
invariant-loop-edge l =
    first_of (filter (λ e. (edge_at l.graph e).to == l.vertex) (drop l.edge-index l.edges))
    ≡ first_of (filter (λ e. (edge_at l.graph e).to == l.vertex) l.edges)
