-- The graph of a database of LSAs (RFC 2328, 16.1, first stage).
use Rattle.std.specs.Prelude.{ℕ, ◌+◌, ◌==◌, ◌&&◌, List, [], ◌∷◌, ◌++◌, filter, flat_map, length, Bool, false, Option, Some, None, if◌then◌else◌}
use Rattle.std.specs.List.{list_any}
use Rattle.area_graph.specs.declared.Price.{Price}
use Rattle.area_graph.specs.declared.Price.TheVariants.{Fixed, Zero}
use Rattle.area_graph.specs.declared.Edge.{Edge}
use Rattle.area_graph.specs.Area.{Area, vertices_of}
use Rattle.lsa_bytes.specs.declared.LsaLink.{LsaLink}
use Rattle.lsa_bytes.specs.declared.Body.{Body}
use Rattle.lsa_bytes.specs.declared.Body.TheVariants.{Links, Attached}
use Rattle.lsa_bytes.specs.declared.Lsa.{Lsa}
use Rattle.lsa_bytes.specs.Databases.{is_router_lsa, is_network_lsa, is_router_of, is_network_of}

-- the router-LSAs, in file order
abbrev pub routers_among : List Lsa → List Lsa
routers_among lsas = filter is_router_lsa lsas

-- the network-LSAs, in file order
abbrev pub networks_among : List Lsa → List Lsa
networks_among lsas = filter is_network_lsa lsas

-- a link of this type with this ID is among the links
abbrev pub has_link : ℕ → ℕ → Body → Bool
has_link kind id (Links links) = list_any (λ link. link.kind == kind && link.id == id) links
has_link kind id (Attached attached) = false

-- the body is a network-LSA's that lists this router as attached
abbrev pub attaches : ℕ → Body → Bool
attaches router (Links links) = false
attaches router (Attached attached) = list_any (λ other. other == router) attached

-- the vertex of the first LSA that is the one sought, if its body leads back; the first of all has vertex n
abbrev pub vertex_back : ℕ → (Lsa → Bool) → (Body → Bool) → List Lsa → Option ℕ
vertex_back n is_sought leads_back [] = None
vertex_back n is_sought leads_back (lsa ∷ more) =
    if is_sought lsa then (if leads_back lsa.body then Some n else None) else vertex_back (n + 1) is_sought leads_back more

-- an edge to a vertex, where there is such a vertex
abbrev pub edge_if_found : ℕ → Price → Option ℕ → List Edge
edge_if_found from price None = []
edge_if_found from price (Some to) = record { from = from; to = to; price = price } ∷ []

-- the vertex of a router's router-LSA, if its body leads back
abbrev pub router_vertex_back : List Lsa → ℕ → (Body → Bool) → Option ℕ
router_vertex_back lsas router leads_back = vertex_back 0 (is_router_of router) leads_back (routers_among lsas)

-- the vertex of the network-LSA of this link state ID, if its body leads back
abbrev pub network_vertex_back : List Lsa → ℕ → (Body → Bool) → Option ℕ
network_vertex_back lsas id leads_back = vertex_back (length (routers_among lsas)) (is_network_of id) leads_back (networks_among lsas)

-- where a link leads: of type 1 to a router that has one back, of type 2 into a network to which the router is attached
abbrev pub far_end : List Lsa → ℕ → LsaLink → Option ℕ
far_end lsas router link =
    if link.kind == 1 then router_vertex_back lsas link.id (has_link 1 router)
    else if link.kind == 2 then network_vertex_back lsas link.id (attaches router)
    else None

-- the edge of a router-LSA's link at its metric, where its far end leads back
abbrev pub link_edge : List Lsa → ℕ → ℕ → LsaLink → List Edge
link_edge lsas vertex router link = edge_if_found vertex (Fixed link.metric) (far_end lsas router link)

-- out of a network an edge leads to an attached router that has a link of type 2 into it
abbrev pub attached_edge : List Lsa → ℕ → ℕ → ℕ → List Edge
attached_edge lsas vertex id router = edge_if_found vertex Zero (router_vertex_back lsas router (has_link 2 id))

-- the edges out of one LSA's vertex
abbrev pub edges_from : List Lsa → ℕ → Lsa → Body → List Edge
edges_from lsas vertex lsa (Links links) = flat_map (link_edge lsas vertex lsa.router) links
edges_from lsas vertex lsa (Attached attached) = flat_map (attached_edge lsas vertex lsa.id) attached

-- the edges out of the vertices of several LSAs, of which the first has the number `vertex`
abbrev pub edges_in_order : List Lsa → ℕ → List Lsa → List Edge
edges_in_order lsas vertex [] = []
edges_in_order lsas vertex (lsa ∷ more) = edges_from lsas vertex lsa lsa.body ++ edges_in_order lsas (vertex + 1) more

-- the routers and then the networks, each in file order
abbrev pub lsa_graph : List Lsa → Area
lsa_graph lsas = record {
  vertices = vertices_of (length (routers_among lsas)) (length (networks_among lsas));
  edges = edges_in_order lsas 0 (routers_among lsas) ++ edges_in_order lsas (length (routers_among lsas)) (networks_among lsas);
}
