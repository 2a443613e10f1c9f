use Rattle.lsdb_build.proofs.GraphLaws.{members_below, graph_fits}
use Rattle.lsdb_build.proofs.graphs.graph_of.Goals as goal

pub push_subnet_edges-requires-clause-members : goal.push_subnet_edges-requires-clause-members
push_subnet_edges-requires-clause-members c =
    rw (c.as_slice-subnets.ensures, c.as_slice-links.ensures)
    (members_below (record {
      routers = c.lsdb.inside.routers;
      links = c.lsdb.inside.links;
      subnets = c.lsdb.inside.subnets;
    }) c.lsdb.invariant)

pub new-requires : goal.new-requires
new-requires c =
    rw (
      c.in_ok-vertices.ensures,
      c.in_ok-push_subnet_edges.ensures,
      c.in_ok-edges.ensures,
      c.as_slice.ensures,
      c.as_slice-links.ensures,
      c.as_slice-subnets.ensures,
    )
    (graph_fits (record {
      routers = c.lsdb.inside.routers;
      links = c.lsdb.inside.links;
      subnets = c.lsdb.inside.subnets;
    }) c.args.prices.now c.lsdb.invariant c.requires.priced)
