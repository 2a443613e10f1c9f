-- The edges that parts exclude, as a list in which one may come twice.
use Rattle.std.specs.Prelude.{ℕ, ◌+◌, List, [], ◌∷◌, ◌++◌, ◌==◌, Option, Some, None, filter, length, slice_get, option_to_list}
use Rattle.area_graph.specs.Area.{Area, edge_at, edges_out, edges_in}
use Rattle.lsdb_build.specs.declared.Far.{Far}
use Rattle.lsdb_build.specs.declared.Far.TheVariants.{Router as ToRouter, Subnet as ToSubnet}
use Rattle.lsdb_build.specs.declared.Linked.{Linked}
use Rattle.lsdb_build.specs.Graphs.{Database}
use Rattle.request_reader.specs.declared.Excluded.{Excluded}
use Rattle.request_reader.specs.declared.Excluded.TheVariants.{Router, Interface}
use Rattle.wanted_paths.specs.Paths.{link_number, router_number}

-- the edge to the router from what a link of it leads to, where that is a transit subnet
abbrev pub excluded_from : Database → Area → ℕ → Far → List ℕ
excluded_from d g router (ToRouter r) = []
excluded_from d g router (ToSubnet s) = filter (λ e. (edge_at g e).to == router) (edges_out g (length d.routers + s))

-- the edges that a link excludes: its own, that of its link back, and that out of its transit subnet
abbrev pub excluded_by_link : Database → Area → ℕ → Linked → List ℕ
excluded_by_link d g l link = l ∷ option_to_list link.link_back ++ excluded_from d g link.router link.to

-- the edges that a link excludes, and none where there is no link
abbrev pub excluded_at : Database → Area → ℕ → Option Linked → List ℕ
excluded_at d g l None = []
excluded_at d g l (Some link) = excluded_by_link d g l link

-- the edges that one part excludes
abbrev pub excluded_by : Database → Area → Excluded → List ℕ
excluded_by d g (Router name) = edges_out g (router_number d name) ++ edges_in g (router_number d name)
excluded_by d g (Interface router interface) =
    let l = link_number d router interface in
    excluded_at d g l (slice_get d.links l)

-- the edges that the parts exclude, part by part
abbrev pub excluded_by_all : Database → Area → List Excluded → List ℕ
excluded_by_all d g [] = []
excluded_by_all d g (part ∷ parts) = excluded_by d g part ++ excluded_by_all d g parts
