use Rattle.std.proofs.Common.{◌≡◌, ◌++◌, map}
use Rattle.cost_base.specs.Lists.{numbers_from}
use Rattle.area_graph.specs.declared.Vertex.TheVariants.{Router, Subnet}
use Rattle.area_graph.proofs.adjacency.vertices_of.Given as goal

abbrev pub invariant-loop-router : goal.invariant-loop-router
invariant-loop-router l = l.vertices.items ≡ map Router (numbers_from 0 l.router)

abbrev pub invariant-loop-subnet : goal.invariant-loop-subnet
invariant-loop-subnet l = l.vertices.items ≡ map Router (numbers_from 0 l.fn.routers) ++ map Subnet (numbers_from 0 l.subnet)
