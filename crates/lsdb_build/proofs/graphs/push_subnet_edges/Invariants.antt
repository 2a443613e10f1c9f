use Rattle.std.proofs.Common.{◌≡◌, ◌+◌, ◌++◌, drop}
use Rattle.lsdb_build.specs.Graphs.{subnet_edges}
use Rattle.lsdb_build.proofs.graphs.push_subnet_edges.Given as goal

abbrev pub invariant-loop-i : goal.invariant-loop-i
invariant-loop-i l = l.edges.items ++ subnet_edges l.links (l.routers + l.i) (drop l.i l.subnets) ≡ l.fn.edges.items ++ subnet_edges l.links l.routers l.subnets
