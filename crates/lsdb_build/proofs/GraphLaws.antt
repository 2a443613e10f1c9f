-- The graph of a database at prices of its links is a graph.
use Rattle.std.proofs.Common.{◌≡◌, ℕ, suc, ◌+◌, ◌-◌, ◌*◌, ◌<◌, ◌≤◌, ◌++◌, List, [], ◌∷◌, None, length, get_or, drop, map, sym, ap, ◌∙◌, subst, arith, slice_get, slice_index_or, All}
use Rattle.std.proofs.lemmas.List.{length-map, length-append, get_or-map, get_or_default, at_drop_more}
use Rattle.std.proofs.lemmas.List.Elements.{All-nil, All-cons, All-head, All-tail, All-append, All-map, All-weaker}
use Rattle.std.proofs.lemmas.List.Sums.{length-filter, count_by-le-length}
use Rattle.cost_base.specs.Lists.{numbers_from}
use Rattle.cost_base.proofs.ListLemmas.{length-numbers_from, all_kept}
use Rattle.area_graph.specs.declared.Vertex.TheVariants.{Router as RouterVertex, Subnet as SubnetVertex}
use Rattle.area_graph.specs.declared.Price.{Price}
use Rattle.area_graph.specs.declared.Price.TheVariants.{Fixed, Var, Zero}
use Rattle.area_graph.specs.declared.Edge.{Edge}
use Rattle.area_graph.specs.Area.{vertices_of, FitsSource, FitsTarget, FitsEdge, FitsGraph}
use Rattle.area_graph.proofs.Vertices.{vertices_length, router_vertex, routers_count, FitsVertices, subnet_vertex}
use Rattle.lsdb_build.specs.declared.Far.{Far}
use Rattle.lsdb_build.specs.declared.Far.TheVariants.{Router, Subnet}
use Rattle.lsdb_build.specs.declared.Linked.{Linked}
use Rattle.lsdb_build.specs.Graphs.{Database, IsAreaDatabase, IsDatabaseLink, IsFar, IsLinkPrice, far_vertex, link_edges, subnet_edges, router_of, links_into_subnet, link_leads_to, graph_at}

-- the numbers from one on: it, then those from the next one on
pub numbers_step : (n m : ℕ) → n < m → numbers_from n (m - n) ≡ n ∷ numbers_from (n + 1) (m - (n + 1))
numbers_step n m below = let whole : m - n ≡ suc (m - (n + 1)) = omega arith in ap (numbers_from n) whole

-- the members of a subnet are numbers of links
pub record AreMembers (count : ℕ) (members : List ℕ) : Type 0 where
  pub few : length members ≤ count
  pub below : All (λ l. l < count) members

pub members_fit : (d : Database) → IsAreaDatabase d → All (AreMembers (length d.links)) d.subnets
members_fit d h = λ s e within.
    (let is : slice_index_or d.subnets s e ≡ links_into_subnet d s = get_or_default d.subnets s e [] within ∙ h.members s within in
    subst (AreMembers (length d.links)) (sym is) (record {
      few = omega (
        arith,
        length-filter (λ l. link_leads_to s (slice_get d.links l)) (numbers_from 0 (length d.links)),
        count_by-le-length (λ l. link_leads_to s (slice_get d.links l)) (numbers_from 0 (length d.links)),
        length-numbers_from 0 (length d.links),
      );
      below = all_kept (λ l. l < length d.links) (λ l. link_leads_to s (slice_get d.links l)) 0 (length d.links) (λ k above below leads. omega (arith, below));
    }))

-- Edges

link_edges_length : (r : ℕ) (links : List Linked) (prices : List Price) → length (link_edges r links prices) ≤ length links
link_edges_length r [] prices = omega arith
link_edges_length r (l ∷ links) [] = omega arith
link_edges_length r (l ∷ links) (price ∷ prices) = omega (arith, link_edges_length r links prices)

subnet_edges_length : (links : List Linked) (v most : ℕ) (subnets : List (List ℕ)) →
    All (λ members. length members ≤ most) subnets → length (subnet_edges links v subnets) ≤ length subnets * most
subnet_edges_length links v most [] all = omega arith
subnet_edges_length links v most (members ∷ subnets) all =
    let here = All-head (λ ms. length ms ≤ most) members subnets all in
    let rest = subnet_edges_length links (v + 1) most subnets (All-tail (λ ms. length ms ≤ most) members subnets all) in
    let edge : ℕ → Edge = λ l. record { from = v; to = router_of links l; price = Zero } in
    omega (arith, length-append (map edge members) (subnet_edges links (v + 1) subnets), length-map members edge)

-- a link between vertices that are there
pub record IsBetween (r s : ℕ) (link : Linked) : Type 0 where
  pub router : link.router < r
  pub far : far_vertex r link.to < r + s

source_fits : (n : ℕ) (price : Price) → IsLinkPrice price → FitsSource (RouterVertex n) price
source_fits n (Fixed cost) h = h
source_fits n (Var v) h = tt
source_fits n Zero h = absurd h

link_edges_fit : (r s : ℕ) (links : List Linked) (prices : List Price) → All (IsBetween r s) links →
    All IsLinkPrice prices → All (FitsVertices (vertices_of r s)) (link_edges r links prices)
link_edges_fit r s [] prices between priced = All-nil (FitsVertices (vertices_of r s))
link_edges_fit r s (l ∷ links) [] between priced = All-nil (FitsVertices (vertices_of r s))
link_edges_fit r s (l ∷ links) (price ∷ prices) between priced =
    let here = All-head (IsBetween r s) l links between in
    let is = router_vertex r s l.router here.router in
    All-cons (FitsVertices (vertices_of r s)) (record { from = l.router; to = far_vertex r l.to; price = price }) (link_edges r links prices)
    (record {
      from = omega (arith, here.router, vertices_length r s);
      to = omega (arith, here.far, vertices_length r s);
      price = subst (λ v. FitsSource v price) (sym is) (source_fits l.router price (All-head IsLinkPrice price prices priced));
      target = subst (λ v. FitsTarget v (get_or (vertices_of r s) (far_vertex r l.to) (RouterVertex 0))) (sym is) tt;
    })
    (link_edges_fit r s links prices (All-tail (IsBetween r s) l links between) (All-tail IsLinkPrice price prices priced))

router_of_below : (r : ℕ) (links : List Linked) → All (λ link. link.router < r) links → (l : ℕ) → l < length links → router_of links l < r
router_of_below r links all l below =
    subst (λ n. n < r) (sym (get_or-map (λ (link : Linked). link.router) links l
    (record { router = 0; interface = []; line = 0; cost = None; to = Router 0; link_back = None }) 0 below))
    (all l (record { router = 0; interface = []; line = 0; cost = None; to = Router 0; link_back = None }) below)

subnet_edges_fit : (r s : ℕ) (links : List Linked) → All (λ link. link.router < r) links →
    (k : ℕ) (subnets : List (List ℕ)) → k + length subnets ≤ s → All (All (λ l. l < length links)) subnets →
    All (FitsVertices (vertices_of r s)) (subnet_edges links (r + k) subnets)
subnet_edges_fit r s links routers k [] room all = All-nil (FitsVertices (vertices_of r s))
subnet_edges_fit r s links routers k (members ∷ subnets) room all =
    let source = subnet_vertex r s k (omega arith) in
    let rest = subnet_edges_fit r s links routers (k + 1) subnets (omega arith) (All-tail (All (λ l. l < length links)) members subnets all) in
    let edge : ℕ → Edge = λ l. record { from = r + k; to = router_of links l; price = Zero } in
    All-append (FitsVertices (vertices_of r s)) (map edge members) (subnet_edges links (r + k + 1) subnets)
    (All-map (FitsVertices (vertices_of r s)) edge members (All-weaker (λ l. l < length links) (λ l. FitsVertices (vertices_of r s) (edge l)) (λ l below.
    (let to = router_of_below r links routers l below in
    let target = router_vertex r s (router_of links l) to in
    record {
      from = omega (arith, vertices_length r s);
      to = omega (arith, to, vertices_length r s);
      price = subst (λ v. FitsSource v Zero) (sym source) tt;
      target = subst (λ v. FitsTarget v (get_or (vertices_of r s) (router_of links l) (RouterVertex 0))) (sym source)
          (subst (FitsTarget (SubnetVertex k)) (sym target) tt);
    })) members (All-head (All (λ l. l < length links)) members subnets all)))
    (subst (λ v. All (FitsVertices (vertices_of r s)) (subnet_edges links v subnets)) (omega arith) rest)

far_below : (d : Database) (far : Far) → IsFar d far → far_vertex (length d.routers) far < length d.routers + length d.subnets
far_below d (Router n) h = omega arith
far_below d (Subnet n) h = omega arith

pub links_between : (d : Database) → IsAreaDatabase d → All (IsBetween (length d.routers) (length d.subnets)) d.links
links_between d h = All-weaker (IsDatabaseLink d) (IsBetween (length d.routers) (length d.subnets))
    (λ link is. record { router = is.router; far = far_below d link.to is.far }) d.links h.each_link

-- the graph of a database at prices of its links is a graph
pub graph_fits : (d : Database) (prices : List Price) → IsAreaDatabase d → All IsLinkPrice prices → FitsGraph (graph_at d prices)
graph_fits d prices h priced =
    let r = length d.routers in
    let s = length d.subnets in
    let between = links_between d h in
    let members = members_fit d h in
    let first = link_edges_fit r s d.links prices between priced in
    let second = subnet_edges_fit r s d.links
    (All-weaker (IsBetween r s) (λ link. link.router < r) (λ link b. b.router) d.links between) 0 d.subnets
    (omega arith) (All-weaker (AreMembers (length d.links)) (All (λ l. l < length d.links))
    (λ ms m. m.below) d.subnets members) in
    let edges = All-append (FitsVertices (vertices_of r s)) (link_edges r d.links prices)
    (subnet_edges d.links r d.subnets) first
    (subst (λ v. All (FitsVertices (vertices_of r s)) (subnet_edges d.links v d.subnets)) (omega arith) second) in
    let many = subnet_edges_length d.links r 4000 d.subnets
    (All-weaker (AreMembers (length d.links)) (λ ms. length ms ≤ 4000) (λ ms m. omega (arith, m.few, h.links))
    d.subnets members) in
    record {
      edges = All-weaker (FitsVertices (vertices_of r s)) (FitsEdge (graph_at d prices))
          (λ edge e. record { from = e.from; to = e.to; price = e.price; target = e.target })
          (link_edges r d.links prices ++ subnet_edges d.links r d.subnets) edges;
      routers = omega (arith, routers_count r s, h.routers);
      vertex_count = omega (arith, vertices_length r s, h.routers, h.subnets);
      edge_count = omega (
        arith,
        length-append (link_edges r d.links prices) (subnet_edges d.links r d.subnets),
        link_edges_length r d.links prices,
        many,
        h.links,
        h.subnets,
      );
    }

-- the edges out of the subnets from one on
pub subnet_edges_step : (links : List Linked) (r i : ℕ) (subnets : List (List ℕ)) (members : List ℕ) →
    i < length subnets → members ≡ get_or subnets i members →
    subnet_edges links (r + i) (drop i subnets)
    ≡ map (λ l. record { from = r + i; to = router_of links l; price = Zero }) members
    ++ subnet_edges links (r + (i + 1)) (drop (i + 1) subnets)
subnet_edges_step links r i subnets members within is =
    let next : r + i + 1 ≡ r + (i + 1) = omega arith in
    at_drop_more (subnet_edges links (r + i)) subnets i members within
    ∙ ap (λ (ms : List ℕ). map (λ (l : ℕ). record { from = r + i; to = router_of links l; price = Zero }) ms
    ++ subnet_edges links (r + i + 1) (drop (i + 1) subnets)) (sym is)
    ∙ ap (λ v. map (λ (l : ℕ). record { from = r + i; to = router_of links l; price = Zero }) members ++ subnet_edges links v (drop (i + 1) subnets)) next

pub members_below : (d : Database) → IsAreaDatabase d → All (All (λ l. l < length d.links)) d.subnets
members_below d h = All-weaker (AreMembers (length d.links)) (All (λ l. l < length d.links)) (λ ms m. m.below) d.subnets (members_fit d h)
