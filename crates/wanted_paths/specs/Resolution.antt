-- Whether the names of a wanted path are those of a database, and its hops a simple path.
use Rattle.std.specs.Prelude.{ℕ, List, [], ◌∷◌, ◌==◌, ◌&&◌, not, Bool, true, false, Option, Some, None, slice_get, slice_index_or}
use Rattle.std.specs.List.{list_any}
use Rattle.cost_base.specs.Lists.{same_bytes}
use Rattle.area_graph.specs.Area.{Area}
use Rattle.area_graph.specs.Paths.{visited}
use Rattle.lsdb_build.specs.declared.Far.{Far}
use Rattle.lsdb_build.specs.declared.Far.TheVariants.{Router as ToRouter, Subnet as ToSubnet}
use Rattle.lsdb_build.specs.declared.Linked.{Linked}
use Rattle.lsdb_build.specs.Graphs.{Database, router_of}
use Rattle.request_reader.specs.WrittenRoutes.{Route}
use Rattle.wanted_paths.specs.Paths.{is_link_named, next_name, link_number, router_number, route_edges}

-- a configuration has the name
abbrev pub knows_router : Database → List ℕ → Bool
knows_router d name = list_any (same_bytes name) d.routers

-- the router has a linked interface of the name
abbrev pub knows_link : Database → List ℕ → List ℕ → Bool
knows_link d router interface = list_any (is_link_named d router interface) d.links

-- the link leads to the router, over a transit subnet where the router is a member
abbrev pub leads_to_router : Database → ℕ → Option Linked → Bool
leads_to_router d router None = false
leads_to_router d router (Some link) = far_leads link.to
  where
    far_leads : Far → Bool
    far_leads (ToRouter r) = r == router
    far_leads (ToSubnet s) = list_any (λ l. router_of d.links l == router) (slice_index_or d.subnets s [])

-- each hop's names are known, and the last router's
abbrev pub is_known : Database → List (List ℕ × List ℕ) → List ℕ → Bool
is_known d [] last = knows_router d last
is_known d (hop ∷ hops) last = knows_router d hop.0 && knows_link d hop.0 hop.1 && is_known d hops last

-- each hop leads to the router of the next word
abbrev pub is_joined : Database → List (List ℕ × List ℕ) → List ℕ → Bool
is_joined d [] last = true
is_joined d (hop ∷ hops) last =
    leads_to_router d (router_number d (next_name hops last)) (slice_get d.links (link_number d hop.0 hop.1)) && is_joined d hops last

-- no number comes twice
abbrev pub is_none_twice : List ℕ → Bool
is_none_twice [] = true
is_none_twice (x ∷ xs) = not (list_any (λ y. x == y) xs) && is_none_twice xs

-- no router and no transit subnet comes twice
abbrev pub is_loop_free : Database → Area → Route → Bool
is_loop_free d g route =
    is_none_twice (visited g (router_number d (next_name route.hops route.last)) (route_edges d g route.hops route.last))

-- the names are known, the hops join, and no vertex comes twice
abbrev pub resolves_route : Database → Area → Route → Bool
resolves_route d g route =
    is_known d route.hops route.last && is_joined d route.hops route.last && is_loop_free d g route
