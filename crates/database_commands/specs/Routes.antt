-- What `route` writes of a file of LSAs: the least cost from a router to another, and the first hops.
use Rattle.std.specs.Prelude.{◌≡◌, ℕ, ◌<◌, ◌==◌, List, [], ◌∷◌, ◌++◌, map, flat_map, length, codes, true, Option, Some, None, unwrap_or, slice_index_or, if◌then◌else◌}
use Rattle.std.specs.List.{list_any}
use Rattle.cost_base.specs.declared.Status.{Status}
use Rattle.cost_base.specs.declared.Status.TheVariants.{Done}
use Rattle.cost_base.specs.Decimal.{decimal}
use Rattle.line_builder.specs.Words.{dotted_quad, line_of_words}
use Rattle.area_graph.specs.Area.{Area, edge_at}
use Rattle.area_graph.specs.Costs.{at_costs}
use Rattle.spf_ties.specs.Distances.{IsLeastCost, tight_out}
use Rattle.input_files.specs.Readings.{Reading, Refused, Ready, ◌>>=◌}
use Rattle.lsa_bytes.specs.declared.Lsa.{Lsa}
use Rattle.lsa_bytes.specs.declared.fault.LsaFault.TheVariants.{NoRouterId}
use Rattle.lsa_bytes.specs.AreaGraphs.{lsa_graph, routers_among, networks_among, router_vertex_back}
use Rattle.lsa_bytes.specs.Databases.{is_router_of}
use Rattle.lsa_bytes.specs.Numbers.{lsa_fault_number}
use Rattle.live_input.specs.LsaFiles.{lsas_read}

-- a router ID without a router-LSA is refused: 0 stands for the one to start from, 1 for the one to go to
abbrev pub unless_unknown : List ℕ → ℕ → ℕ → List Lsa → Reading (List Lsa) → Reading (List Lsa)
unless_unknown file id place lsas next =
    if list_any (is_router_of id) lsas then next
    else Refused (record { number = lsa_fault_number NoRouterId; file = file; line = place })

-- what a file of LSAs says that has both routers
abbrev pub route_read : List ℕ → ℕ → ℕ → Reading (List Lsa)
route_read file from to = lsas_read file >>= λ lsas. unless_unknown file from 0 lsas (unless_unknown file to 1 lsas (Ready lsas))

-- the vertex of a router, which has a router-LSA
abbrev pub vertex_of_router : List Lsa → ℕ → ℕ
vertex_of_router lsas id = unwrap_or (router_vertex_back lsas id (λ body. true)) 0

-- a vertex is named by its advertising router, or by the link state ID of its network-LSA
abbrev pub router_ids : List Lsa → List ℕ
router_ids lsas = map (λ lsa. lsa.router) (routers_among lsas)

-- the link state IDs of the network-LSAs
abbrev pub network_ids : List Lsa → List ℕ
network_ids lsas = map (λ lsa. lsa.id) (networks_among lsas)

-- the names of all vertices: routers, then networks
abbrev pub vertex_ids : List Lsa → List ℕ
vertex_ids lsas = router_ids lsas ++ network_ids lsas

-- the name of a vertex
abbrev pub id_at : List Lsa → ℕ → ℕ
id_at lsas vertex = slice_index_or (vertex_ids lsas) vertex 0

-- each vertex's least cost over simple paths of the graph to a vertex
abbrev pub AreDistances : Area → ℕ → List (Option ℕ) → Type 0
AreDistances g to distances =
    (v : ℕ) → v < length g.vertices → IsLeastCost g (at_costs []) (record { start = v; end = to; excluded = [] }) (slice_index_or distances v None)

-- the vertices at the ends of the tight edges out of a vertex, in edge order
abbrev pub hops_out : Area → List (Option ℕ) → ℕ → List ℕ
hops_out g distances v = map (λ e. (edge_at g e).to) (tight_out g (at_costs []) (record { costs = distances; marks = []; path = [] }) v)

-- each ID behind a space
abbrev pub spaced_quads : List ℕ → List ℕ
spaced_quads ids = flat_map (λ id. 32 ∷ dotted_quad id) ids

-- `cost C first X ..`, or `unreachable`
abbrev pub route_end : Option ℕ → List ℕ → List ℕ
route_end None hops = codes "unreachable"
route_end (Some cost) hops = codes "cost " ++ (decimal cost ++ (codes " first" ++ spaced_quads hops))

-- the IDs at the ends of the tight edges out of a vertex
abbrev pub hop_ids : List Lsa → List (Option ℕ) → ℕ → List ℕ
hop_ids lsas distances v = map (id_at lsas) (hops_out (lsa_graph lsas) distances v)

-- `cost 0 first none` from a router to itself
abbrev pub found_end : List Lsa → ℕ → ℕ → List (Option ℕ) → List ℕ
found_end lsas from to distances =
    if from == to then codes "cost 0 first none"
    else route_end (slice_index_or distances (vertex_of_router lsas from) None) (hop_ids lsas distances (vertex_of_router lsas from))

-- `from A to B ..`, and an LF
abbrev pub route_line : List Lsa → ℕ → ℕ → List (Option ℕ) → List ℕ
route_line lsas from to distances =
    line_of_words (codes "from" ∷ dotted_quad from ∷ codes "to" ∷ dotted_quad to ∷ found_end lsas from to distances ∷ [])

-- the line tells the least cost from a router to another, and where the first edges lead of the paths that cost no more
pub record IsRoute (from to : ℕ) (lsas : List Lsa) (bytes : List ℕ) : Type 0 where
  pub distances : List (Option ℕ)
  pub least : AreDistances (lsa_graph lsas) (vertex_of_router lsas to) distances
  pub written : bytes ≡ route_line lsas from to distances

-- what `route` may write of what its file says
abbrev pub MayRoute : ℕ → ℕ → List Lsa → Status → List ℕ → Type 0
MayRoute from to lsas Done bytes = IsRoute from to lsas bytes
MayRoute from to lsas status bytes = ⊥
