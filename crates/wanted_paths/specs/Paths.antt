-- What the words of a wanted path mean in a database: routers, links, edges, and what is excluded.
use Rattle.std.specs.Prelude.{ℕ, ◌+◌, List, [], ◌∷◌, ◌++◌, ◌==◌, ◌&&◌, ◌||◌, Bool, false, Option, Some, None, map, filter, length, slice_get, slice_index_or, unwrap_or}
use Rattle.std.specs.List.{list_any}
use Rattle.cost_base.specs.Lists.{numbers_from, first_of, same_bytes}
use Rattle.area_graph.specs.declared.Price.TheVariants.{Fixed}
use Rattle.area_graph.specs.Area.{Area, edge_at}
use Rattle.lsdb_build.specs.declared.Far.{Far}
use Rattle.lsdb_build.specs.declared.Far.TheVariants.{Router as ToRouter, Subnet as ToSubnet}
use Rattle.lsdb_build.specs.declared.Linked.{Linked}
use Rattle.lsdb_build.specs.Graphs.{Database, graph_at}
use Rattle.design_problem.specs.declared.problem.Request.{Request}
use Rattle.request_reader.specs.declared.Excluded.{Excluded}
use Rattle.request_reader.specs.declared.Excluded.TheVariants.{Router, Interface}
use Rattle.request_reader.specs.declared.Directive.{Directive}
use Rattle.request_reader.specs.declared.Directive.TheVariants.{Path}

-- the link is the interface of that router
abbrev pub is_link_named : Database → List ℕ → List ℕ → Linked → Bool
is_link_named d router interface link =
    same_bytes (slice_index_or d.routers link.router []) router && same_bytes link.interface interface

-- the number of the router of a name
abbrev pub router_number : Database → List ℕ → ℕ
router_number d name = unwrap_or (first_of (filter (λ r. same_bytes (slice_index_or d.routers r []) name) (numbers_from 0 (length d.routers)))) 0

-- the link, where there is one, is the interface of that router
abbrev pub names_link : Database → List ℕ → List ℕ → Option Linked → Bool
names_link d router interface None = false
names_link d router interface (Some link) = is_link_named d router interface link

-- the number of the link of a router's interface
abbrev pub link_number : Database → List ℕ → List ℕ → ℕ
link_number d router interface =
    unwrap_or (first_of (filter (λ l. names_link d router interface (slice_get d.links l)) (numbers_from 0 (length d.links)))) 0

-- the edge out of a vertex to a router
abbrev pub edge_between : Area → ℕ → ℕ → ℕ
edge_between g from router =
    unwrap_or (first_of (filter (λ e. (edge_at g e).from == from && (edge_at g e).to == router) (numbers_from 0 (length g.edges)))) 0

-- the edges of a hop: over a transit subnet there are two
abbrev pub hop_edges : Database → Area → ℕ → Option Linked → ℕ → List ℕ
hop_edges d g l None next = []
hop_edges d g l (Some link) next = far_edges link.to
  where
    far_edges : Far → List ℕ
    far_edges (ToRouter r) = l ∷ []
    far_edges (ToSubnet s) = l ∷ edge_between g (length d.routers + s) next ∷ []

-- the router that a route goes on from
abbrev pub next_name : List (List ℕ × List ℕ) → List ℕ → List ℕ
next_name [] last = last
next_name (hop ∷ hops) last = hop.0

-- the edges of a route, hop by hop
abbrev pub route_edges : Database → Area → List (List ℕ × List ℕ) → List ℕ → List ℕ
route_edges d g [] last = []
route_edges d g (hop ∷ hops) last =
    let l = link_number d hop.0 hop.1 in
    hop_edges d g l (slice_get d.links l) (router_number d (next_name hops last)) ++ route_edges d g hops last

-- a link, where there is one, excludes the edge: its own, its link back's, or the one from its transit subnet back
abbrev pub link_excludes : Database → Area → ℕ → Option Linked → ℕ → Bool
link_excludes d g l None e = false
link_excludes d g l (Some link) e = e == l || link_back_excludes link.link_back || far_excludes link.to
  where
    link_back_excludes : Option ℕ → Bool
    link_back_excludes None = false
    link_back_excludes (Some m) = e == m

    far_excludes : Far → Bool
    far_excludes (ToRouter r) = false
    far_excludes (ToSubnet s) = (edge_at g e).from == length d.routers + s && (edge_at g e).to == link.router

-- a part excludes the edge: its router is at one of the edge's ends, or the link of its interface excludes the edge
abbrev pub excludes : Database → Area → ℕ → Excluded → Bool
excludes d g e (Router name) = (edge_at g e).from == router_number d name || (edge_at g e).to == router_number d name
excludes d g e (Interface router interface) =
    let l = link_number d router interface in
    link_excludes d g l (slice_get d.links l) e

-- the numbers of the edges that the parts exclude, in rising order
abbrev pub excluded_edges : Database → Area → List Excluded → List ℕ
excluded_edges d g parts = filter (λ e. list_any (excludes d g e) parts) (numbers_from 0 (length g.edges))

-- the request of a `path` line: the edges between its ends, and its excluded edges
abbrev pub request_of : Database → Area → Directive → Option Request
request_of d g (Path route without) =
    Some (record {
      path = record { start = router_number d (next_name route.hops route.last); edges = route_edges d g route.hops route.last };
      end = router_number d route.last;
      excluded = excluded_edges d g without;
    })
request_of d g _ = None

-- the area's graph with cost 1 at each link: which vertices an edge joins doesn't depend on prices
abbrev pub outline : Database → Area
outline d = graph_at d (map (λ link. Fixed 1) d.links)
