-- Under costs, one for each link, the graph whose links are the variables is the graph with those costs: the paths of a
-- request are the same, and cost the same.
use Rattle.std.proofs.Common.{◌≡◌, ◌↔◌, ℕ, zero, suc, ◌+◌, ◌*◌, ◌<◌, ◌≤◌, refl, sym, ◌∙◌, ap, subst, List, [], ◌∷◌, length, map, arith, All}
use Rattle.std.specs.Prelude.{slice_index}
use Rattle.std.proofs.lemmas.List.{length-map, map-append}
use Rattle.std.proofs.lemmas.List.Elements.{All-nil, All-cons, All-append, All-weaker}
use Rattle.std.proofs.lemmas.Simd.{map-map}
use Rattle.cost_base.specs.Lists.{numbers_from}
use Rattle.area_graph.specs.declared.Price.{Price}
use Rattle.area_graph.specs.declared.Price.TheVariants.{Fixed, Var, Zero}
use Rattle.area_graph.specs.declared.Edge.{Edge}
use Rattle.area_graph.specs.Area.{Area}
use Rattle.area_graph.specs.Paths.{Ends, IsPathOf}
use Rattle.area_graph.specs.Costs.{cost, at_costs, IsOnlyCheapest, IsPriced, FitsPoint}
use Rattle.lsdb_build.specs.declared.Linked.{Linked}
use Rattle.lsdb_build.specs.Graphs.{Database, graph_at, far_vertex, link_edges, subnet_edges, router_of}
use Rattle.design_problem.specs.Problems.{IsProblem, request_ends}
use Rattle.request_reader.specs.Asked.{Asked}
use Rattle.path_requests.specs.Meaning.{present_cost}
use Rattle.path_requests.specs.Resolving.{present_problem_of}
use Rattle.path_requests.proofs.PresentLaws.{present_prices_are}
use Rattle.path_requests.proofs.ProblemLaws.{subnets_priced}
use Rattle.present_costs.specs.AtCosts.{fixed_at, graph_with, graph_at_costs, graph_by_links}
use Rattle.present_costs.proofs.CheapestWith.{edge_with, path_with, cost_with, only_cheapest_with}

links_with : (w : List ℕ) (n : ℕ) (links : List Linked) (prices : List Price) →
    map (edge_with w) (link_edges n links prices) ≡ link_edges n links (map (fixed_at w) prices)
links_with w n [] prices = refl
links_with w n (link ∷ links) [] = refl
links_with w n (link ∷ links) (price ∷ prices) =
    ap (λ (es : List Edge). record { from = link.router; to = far_vertex n link.to; price = fixed_at w price } ∷ es) (links_with w n links prices)

members_with : (w : List ℕ) (links : List Linked) (vertex : ℕ) (members : List ℕ) →
    map (edge_with w) (map (λ l. record { from = vertex; to = router_of links l; price = Zero }) members)
    ≡ map (λ l. record { from = vertex; to = router_of links l; price = Zero }) members
members_with w links vertex [] = refl
members_with w links vertex (l ∷ members) =
    ap (λ (es : List Edge). record { from = vertex; to = router_of links l; price = Zero } ∷ es) (members_with w links vertex members)

subnets_with : (w : List ℕ) (links : List Linked) (vertex : ℕ) (subnets : List (List ℕ)) →
    map (edge_with w) (subnet_edges links vertex subnets) ≡ subnet_edges links vertex subnets
subnets_with w links vertex [] = refl
subnets_with w links vertex (members ∷ subnets) =
    map-append (edge_with w) (map (λ l. record { from = vertex; to = router_of links l; price = Zero }) members) (subnet_edges links (vertex + 1) subnets)
    ∙ cc (members_with w links vertex members, subnets_with w links (vertex + 1) subnets)

-- a database's graph at costs is its graph at the prices at costs
pub graph_with_prices : (w : List ℕ) (d : Database) (prices : List Price) → graph_with w (graph_at d prices) ≡ graph_at d (map (fixed_at w) prices)
graph_with_prices w d prices =
    ap (λ (es : List Edge). record { vertices = (graph_at d prices).vertices; edges = es })
    (map-append (edge_with w) (link_edges (length d.routers) d.links prices) (subnet_edges d.links (length d.routers) d.subnets)
    ∙ cc (links_with w (length d.routers) d.links prices, subnets_with w d.links (length d.routers) d.subnets))

-- The graph by links.

-- what is as some costs at each place gives those costs
all_places : (w : List ℕ) (g : ℕ → ℕ) (a : ℕ) → ((k : ℕ) → k < length w → g (a + k) ≡ slice_index w k) →
    map (λ l. Fixed (g l)) (numbers_from a (length w)) ≡ map Fixed w
all_places [] g a at = refl
all_places (c ∷ w) g a at =
    let here : a + 0 ≡ a = omega arith in
    let first : g a ≡ c = ap g (sym here) ∙ at 0 (omega arith) in
    let rest = all_places w g (a + 1) (λ k within. let next : a + 1 + k ≡ a + suc k = omega arith in ap g next ∙ at (suc k) (omega arith)) in
    cc (first, rest)

-- at costs, one for each link, it is the graph with those costs
pub by_links : (d : Database) (w : List ℕ) → length w ≡ length d.links → graph_with w (graph_by_links d) ≡ graph_at_costs d w
by_links d w same =
    graph_with_prices w d (map Var (numbers_from 0 (length d.links)))
    ∙ ap (graph_at d) (map-map (fixed_at w) Var (numbers_from 0 (length d.links))
    ∙ ap (λ n. map (λ l. Fixed (slice_index w l)) (numbers_from 0 n)) (sym same) ∙
    all_places w (slice_index w) 0 (λ k within. ap (slice_index w) (omega arith)))

-- so the simple paths of a request are the same
pub path_by_links : (d : Database) (w : List ℕ) (ends : Ends) (es : List ℕ) → length w ≡ length d.links →
    IsPathOf (graph_by_links d) ends es ↔ IsPathOf (graph_at_costs d w) ends es
path_by_links d w ends es same =
    subst (λ (g : Area). IsPathOf (graph_by_links d) ends es ↔ IsPathOf g ends es) (by_links d w same) (path_with w (graph_by_links d) ends es)

-- they cost the same
pub cost_by_links : (d : Database) (w es : List ℕ) → length w ≡ length d.links →
    cost (graph_at_costs d w) (at_costs []) es ≡ cost (graph_by_links d) (at_costs w) es
cost_by_links d w es same =
    ap (λ (g : Area). cost g (at_costs []) es) (sym (by_links d w same)) ∙ cost_with w (graph_by_links d) es

-- and the same ones are only cheapest
pub only_cheapest_by_links : (d : Database) (w : List ℕ) (ends : Ends) (es : List ℕ) → length w ≡ length d.links →
    IsOnlyCheapest (graph_at_costs d w) (at_costs []) ends es ↔ IsOnlyCheapest (graph_by_links d) (at_costs w) ends es
only_cheapest_by_links d w ends es same =
    subst (λ (g : Area). IsOnlyCheapest g (at_costs []) ends es ↔ IsOnlyCheapest (graph_by_links d) (at_costs w) ends es) (by_links d w same)
    (only_cheapest_with w (graph_by_links d) ends es)

-- The point of costs.

links_priced : (n count : ℕ) (links : List Linked) (a more : ℕ) → a + more ≤ count →
    All (λ (edge : Edge). IsPriced count edge.price) (link_edges n links (map Var (numbers_from a more)))
links_priced n count [] a more room = All-nil (λ (edge : Edge). IsPriced count edge.price)
links_priced n count (link ∷ links) a zero room = All-nil (λ (edge : Edge). IsPriced count edge.price)
links_priced n count (link ∷ links) a (suc more) room =
    All-cons (λ (edge : Edge). IsPriced count edge.price) (record { from = link.router; to = far_vertex n link.to; price = Var a })
    (link_edges n links (map Var (numbers_from (a + 1) more))) (omega (arith, room)) (links_priced n count links (a + 1) more (omega (arith, room)))

-- costs above 0 of 16 bits, one for each link, are a point for the graph by links
pub costs_fit : (d : Database) (w : List ℕ) → length w ≡ length d.links → All (λ cost. 0 < cost) w → All (λ cost. cost ≤ 65535) w →
    FitsPoint (graph_by_links d) (at_costs w)
costs_fit d w same above below = record {
  scale = omega arith;
  scale_below = omega arith;
  priced = rw same (All-append (λ (edge : Edge). IsPriced (length d.links) edge.price)
      (link_edges (length d.routers) d.links (map Var (numbers_from 0 (length d.links)))) (subnet_edges d.links (length d.routers) d.subnets)
      (links_priced (length d.routers) (length d.links) d.links 0 (length d.links) (omega arith))
      (subnets_priced (length d.links) d.links (length d.routers) d.subnets));
  least = above;
  most = All-weaker (λ cost. cost ≤ 65535) (λ cost. cost ≤ 65535 * 1) (λ cost small. omega (arith, small)) w below;
}

-- The present network.

-- its graph is the one with the present costs
pub present_graph : (a : Asked) (d : Database) → (present_problem_of a d).graph ≡ graph_at_costs d (map (present_cost a) d.links)
present_graph a d =
    ap (graph_at d) (present_prices_are a d 0 d.links ∙ sym (map-map Fixed (present_cost a) d.links))

-- its wanted paths are paths of their requests in the graph by links
pub present_paths_by_links : (a : Asked) (d : Database) → IsProblem (present_problem_of a d) →
    All (λ r. IsPathOf (graph_by_links d) (request_ends r) r.path.edges) (present_problem_of a d).requests
present_paths_by_links a d kept =
    All-weaker (λ r. IsPathOf (present_problem_of a d).graph (request_ends r) r.path.edges)
    (λ r. IsPathOf (graph_by_links d) (request_ends r) r.path.edges)
    (λ r path. (path_by_links d (map (present_cost a) d.links) (request_ends r) r.path.edges (length-map d.links (present_cost a))).1
    (subst (λ (g : Area). IsPathOf g (request_ends r) r.path.edges) (present_graph a d) path))
    (present_problem_of a d).requests kept.requests
