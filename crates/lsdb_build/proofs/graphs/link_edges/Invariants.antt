use Rattle.std.proofs.Common.{◌≡◌, ◌++◌, drop}
use Rattle.lsdb_build.specs.Graphs.{link_edges}
use Rattle.lsdb_build.proofs.graphs.link_edges.Given as goal

abbrev pub invariant-loop-i : goal.invariant-loop-i
invariant-loop-i l = l.edges.items ++ link_edges l.routers (drop l.i l.links) (drop l.i l.prices) ≡ link_edges l.routers l.links l.prices
