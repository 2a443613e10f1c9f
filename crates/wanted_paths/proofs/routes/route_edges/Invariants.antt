use Rattle.std.proofs.Common.{◌≡◌, ◌++◌, drop}
use Rattle.wanted_paths.specs.Paths.{route_edges}
use Rattle.wanted_paths.proofs.routes.route_edges.Given as goal

abbrev pub invariant-loop-i : goal.invariant-loop-i
invariant-loop-i l = l.edges.items ++ route_edges l.names l.graph (drop l.i l.hops) l.last ≡ route_edges l.names l.graph l.hops l.last
