-- with the edges that are left it is what all tight edges add
use Rattle.std.proofs.Common.{◌≡◌, ◌++◌, map, slice_index_or}
use Rattle.area_graph.specs.Area.{edge_at}
use Rattle.spf_ties.specs.Distances.{tight_out}
use Rattle.database_commands.specs.Routes.{spaced_quads}
use Rattle.database_commands.proofs.hops.RoutedGraph.push_hops.Given as goal

abbrev pub invariant-loop-edge : goal.invariant-loop-edge
invariant-loop-edge l =
    l.line ++ spaced_quads (map (λ e. slice_index_or l.self.ids.now (edge_at l.self.graph.now e).to 0) l.edge-iterator)
    ≡ l.initial.line
    ++ spaced_quads (map (λ e. slice_index_or l.self.ids.now (edge_at l.self.graph.now e).to 0)
    (tight_out l.self.graph.now l.self.point.now l.self.room.now l.vertex))
