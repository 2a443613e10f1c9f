-- A route that resolves is a simple path of the database's graph, whatever the prices are.
use Rattle.std.proofs.Common.{inl, inr, ◌≡◌, ◌≢◌, ℕ, zero, suc, ◌+◌, ◌<◌, ◌≤◌, refl, sym, ◌∙◌, ap, subst, List, [], ◌∷◌, ◌++◌, length, map, get_or, arith, Bool, true, false, Option, Some, None}
use Rattle.std.specs.Prelude.{AllPairs, filter, slice_get, slice_index_or, not, ◌&&◌, ◌==◌}
use Rattle.std.specs.List.{list_any}
use Rattle.std.proofs.lemmas.List.{get_or_default, get_or_append_left, get_or-append-add, length-append, length-map, get_or-map}
use Rattle.std.proofs.lemmas.List.Folds.{Any-from_list_any}
use Rattle.std.proofs.lemmas.Option.{slice_get-get_or, slice_get_within, get_or_from_slice_get}
use Rattle.std.proofs.lemmas.Bool.{eqb-true, eq-eqb, and_parts, and_from, cases_Bool, cases_order, cases_eq, or_parts, or_from, not-true, eqb-false, ne_eqb, false≢true}
use Rattle.cost_base.specs.Lists.{numbers_from, first_of, same_bytes, Lacks, NoneTwice}
use Rattle.cost_base.proofs.ByteLemmas.{same_bytes-true, same_bytes-same}
use Rattle.area_graph.proofs.Vertices.{vertices_length}
use Rattle.area_graph.specs.declared.Price.{Price}
use Rattle.area_graph.specs.declared.Price.TheVariants.{Zero}
use Rattle.area_graph.specs.declared.Edge.{Edge}
use Rattle.area_graph.specs.Area.{Area, edge_at, no_edge}
use Rattle.area_graph.specs.Paths.{Joins, visited, IsSimple, Avoids}
use Rattle.lsdb_build.specs.declared.Far.{Far}
use Rattle.lsdb_build.specs.declared.Far.TheVariants.{Router as ToRouter, Subnet as ToSubnet}
use Rattle.lsdb_build.specs.declared.Linked.{Linked}
use Rattle.lsdb_build.specs.Graphs.{Database, IsAreaDatabase, graph_at, far_vertex, link_edges, subnet_edges, router_of}
use Rattle.request_reader.specs.WrittenRoutes.{Route}
use Rattle.wanted_paths.specs.Paths.{is_link_named, names_link, next_name, link_number, router_number, edge_between, hop_edges, route_edges}
use Rattle.wanted_paths.specs.Resolution.{knows_router, knows_link, leads_to_router, is_known, is_joined, is_none_twice, is_loop_free, resolves_route}

-- the first number of a run that passes a test
pub record IsFirstPassing (test : ℕ → Bool) (a n : ℕ) : Type 0 where
  pub number : ℕ
  pub found : first_of (filter test (numbers_from a n)) ≡ Some number
  pub from : a ≤ number
  pub below : number < a + n
  pub passes : test number ≡ true

pub first_passing : (test : ℕ → Bool) (a n k : ℕ) → a ≤ k → k < a + n → test k ≡ true → IsFirstPassing test a n
first_passing test a zero k from below passes = absurd (omega arith)
first_passing test a (suc n) k from below passes =
    elim (cases_Bool (test a)) [
      | inl here ↦ record { number = a; found = rw here refl; from = omega arith; below = omega arith; passes = here }
      | inr later ↦
          let rest = first_passing test (a + 1) n k
          (elim (cases_eq a k) [
            | inl same ↦ absurd (false≢true (sym later ∙ ap test same ∙ passes))
            | inr apart ↦
                omega arith
          ]) (omega arith) passes in
          record { number = rest.number; found = rw later rest.found; from = omega (arith, rest.from); below = omega (arith, rest.below); passes = rest.passes }
    ]

-- the number of a known router, under which the name stands
pub router_known : (d : Database) (name : List ℕ) → knows_router d name ≡ true →
    (router_number d name < length d.routers) × (get_or d.routers (router_number d name) [] ≡ name)
router_known d name known =
    let any = Any-from_list_any (same_bytes name) d.routers known in
    let named = same_bytes-true name any.1 any.4 in
    let here = named_at any.0 any.1 any.2 any.3 named in
    let first = first_passing (λ r. same_bytes (slice_index_or d.routers r []) name) 0 (length d.routers) any.0 (omega arith) (omega (arith, any.2)) here in
    let is : router_number d name ≡ first.number = rw first.found refl in
    let stands = same_bytes-true (slice_index_or d.routers first.number []) name first.passes in
    (omega (arith, first.below), ap (λ r. get_or d.routers r []) is ∙ stands)
  where
    named_at : (k : ℕ) (x : List ℕ) → k < length d.routers → slice_index_or d.routers k x ≡ x → name ≡ x →
        same_bytes (slice_index_or d.routers k []) name ≡ true
    named_at k x below is same = same_bytes-same (slice_index_or d.routers k []) name (get_or_default d.routers k [] x below ∙ is ∙ sym same)

-- where names differ, a router's name has that router's number
pub router_number_is : (d : Database) (r : ℕ) (name : List ℕ) → AllPairs (λ a b. a ≢ b) d.routers →
    r < length d.routers → get_or d.routers r [] ≡ name → router_number d name ≡ r
router_number_is d r name different within stands =
    let first = first_passing (λ k. same_bytes (slice_index_or d.routers k []) name) 0 (length d.routers) r
    (omega arith) (omega arith) (same_bytes-same (get_or d.routers r []) name stands) in
    let is : router_number d name ≡ first.number = rw first.found refl in
    let there = same_bytes-true (slice_index_or d.routers first.number []) name first.passes in
    is ∙ elim (cases_order first.number r) [
      | inl same ↦ same
      | inr apart ↦ elim apart [
        | inl before ↦ absurd (different first.number r [] before within (there ∙ sym stands))
        | inr after ↦ absurd (different r first.number [] after (omega (arith, first.below)) (stands ∙ sym there))
      ]
    ]

-- the link of a known interface
pub record IsKnownLink (d : Database) (router interface : List ℕ) : Type 0 where
  pub link : Linked
  pub there : slice_get d.links (link_number d router interface) ≡ Some link
  pub named : is_link_named d router interface link ≡ true

pub link_known : (d : Database) (router interface : List ℕ) → knows_link d router interface ≡ true → IsKnownLink d router interface
link_known d router interface known =
    let any = Any-from_list_any (is_link_named d router interface) d.links known in
    let there : slice_get d.links any.0 ≡ Some any.1 = slice_get-get_or d.links any.0 any.1 any.2 ∙ ap Some any.3 in
    let here : names_link d router interface (slice_get d.links any.0) ≡ true = rw there any.4 in
    let first = first_passing (λ l. names_link d router interface (slice_get d.links l)) 0 (length d.links) any.0 (omega arith) (omega (arith, any.2)) here in
    let is : link_number d router interface ≡ first.number = rw first.found refl in
    by_link (slice_get d.links first.number) (ap (slice_get d.links) is) first.passes
  where
    by_link : (o : Option Linked) → slice_get d.links (link_number d router interface) ≡ o →
        names_link d router interface o ≡ true → IsKnownLink d router interface
    by_link None there passes = absurd (false≢true passes)
    by_link (Some link) there passes = record { link = link; there = there; named = passes }

-- an edge from one vertex to another stands in a list
pub record HasEdge (edges : List Edge) (source target : ℕ) : Type 0 where
  pub place : ℕ
  pub within : place < length edges
  pub from : (get_or edges place no_edge).from ≡ source
  pub to : (get_or edges place no_edge).to ≡ target

has_left : (xs ys : List Edge) (source target : ℕ) → HasEdge xs source target → HasEdge (xs ++ ys) source target
has_left xs ys source target has =
    let same = get_or_append_left xs ys no_edge has.place has.within in
    record {
      place = has.place;
      within = omega (arith, has.within, length-append xs ys);
      from = ap (λ (edge : Edge). edge.from) same ∙ has.from;
      to = ap (λ (edge : Edge). edge.to) same ∙ has.to;
    }

has_right : (xs ys : List Edge) (source target : ℕ) → HasEdge ys source target → HasEdge (xs ++ ys) source target
has_right xs ys source target has =
    let same = get_or-append-add xs ys has.place no_edge in
    record {
      place = length xs + has.place;
      within = omega (arith, has.within, length-append xs ys);
      from = ap (λ (edge : Edge). edge.from) same ∙ has.from;
      to = ap (λ (edge : Edge). edge.to) same ∙ has.to;
    }

-- the edge of a subnet to a member's router
member_edge : (links : List Linked) (vertex router : ℕ) (members : List ℕ) →
    list_any (λ l. router_of links l == router) members ≡ true →
    HasEdge (map (λ l. record { from = vertex; to = router_of links l; price = Zero }) members) vertex router
member_edge links vertex router members is_member =
    let any = Any-from_list_any (λ l. router_of links l == router) members is_member in
    let same : get_or (map (λ l. record { from = vertex; to = router_of links l; price = Zero }) members) any.0 no_edge
    ≡ record { from = vertex; to = router_of links (get_or members any.0 any.1); price = Zero }
    = get_or-map (λ (l : ℕ). record { from = vertex; to = router_of links l; price = Zero }) members any.0 any.1 no_edge any.2 in
    record {
      place = any.0;
      within = omega (arith, any.2, length-map {B = Edge} members (λ (l : ℕ). record { from = vertex; to = router_of links l; price = Zero }));
      from = ap (λ (edge : Edge). edge.from) same;
      to = ap (λ (edge : Edge). edge.to) same ∙ ap (router_of links) any.3 ∙ eqb-true (router_of links any.1) router any.4;
    }

pub subnet_edge : (links : List Linked) (vertex router : ℕ) (subnets : List (List ℕ)) (s : ℕ) →
    list_any (λ l. router_of links l == router) (slice_index_or subnets s []) ≡ true →
    HasEdge (subnet_edges links vertex subnets) (vertex + s) router
subnet_edge links vertex router [] s is_member = absurd (false≢true is_member)
subnet_edge links vertex router (members ∷ subnets) zero is_member =
    let same : vertex ≡ vertex + 0 = omega arith in
    subst (λ (v : ℕ). HasEdge (subnet_edges links vertex (members ∷ subnets)) v router) same
    (has_left (map (λ l. record { from = vertex; to = router_of links l; price = Zero }) members) (subnet_edges links (vertex + 1) subnets) vertex router
    (member_edge links vertex router members is_member))
subnet_edge links vertex router (members ∷ subnets) (suc s) is_member =
    let rest = subnet_edge links (vertex + 1) router subnets s is_member in
    let next : vertex + 1 + s ≡ vertex + suc s = omega arith in
    has_right (map (λ l. record { from = vertex; to = router_of links l; price = Zero }) members)
    (subnet_edges links (vertex + 1) subnets) (vertex + suc s) router
    (subst (λ (v : ℕ). HasEdge (subnet_edges links (vertex + 1) subnets) v router) next rest)

-- the edge of a link has the link's number
pub record IsLinkEdge (edges : List Edge) (l n : ℕ) (link : Linked) : Type 0 where
  pub within : l < length edges
  pub from : (get_or edges l no_edge).from ≡ link.router
  pub to : (get_or edges l no_edge).to ≡ far_vertex n link.to

pub link_edge : (n : ℕ) (links : List Linked) (prices : List Price) (more : List Edge) (l : ℕ) (link : Linked) →
    length prices ≡ length links → slice_get links l ≡ Some link →
    IsLinkEdge (link_edges n links prices ++ more) l n link
link_edge n [] prices more l link same there = absurd (cc)
link_edge n (first ∷ links) [] more l link same there = absurd (omega arith)
link_edge n (first ∷ links) (price ∷ prices) more zero link same there =
    let is : first ≡ link = cc in
    record { within = omega arith; from = ap (λ (i : Linked). i.router) is; to = ap (λ (i : Linked). far_vertex n i.to) is }
link_edge n (first ∷ links) (price ∷ prices) more (suc l) link same there =
    let rest = link_edge n links prices more l link (omega arith) there in
    record { within = omega (arith, rest.within); from = rest.from; to = rest.to }

-- the edge out of a vertex to a router is one, where there is one
pub edge_to_known : (g : Area) (source target : ℕ) → HasEdge g.edges source target →
    (edge_between g source target < length g.edges) × ((edge_at g (edge_between g source target)).from ≡ source)
    × ((edge_at g (edge_between g source target)).to ≡ target)
edge_to_known g source target has =
    let first = first_passing (λ e. (edge_at g e).from == source && (edge_at g e).to == target) 0
    (length g.edges) has.place (omega arith) (omega (arith, has.within))
    (and_from ((edge_at g has.place).from == source) ((edge_at g has.place).to == target)
    (eq-eqb (edge_at g has.place).from source has.from) (eq-eqb (edge_at g has.place).to target has.to)) in
    let is : edge_between g source target ≡ first.number = rw first.found refl in
    let parts = and_parts ((edge_at g first.number).from == source) ((edge_at g first.number).to == target) first.passes in (
      omega (arith, first.below),
      ap (λ e. (edge_at g e).from) is ∙ eqb-true (edge_at g first.number).from source parts.0,
      ap (λ e. (edge_at g e).to) is ∙ eqb-true (edge_at g first.number).to target parts.1,
    )

-- the edges of a hop join its router to the next one
hop_joins : (d : Database) (g : Area) (l : ℕ) (link : Linked) (next t : ℕ) (rest : List ℕ) →
    IsLinkEdge g.edges l (length d.routers) link →
    ((s : ℕ) → list_any (λ m. router_of d.links m == next) (slice_index_or d.subnets s []) ≡ true →
    HasEdge g.edges (length d.routers + s) next) → leads_to_router d next (Some link) ≡ true → Joins g next rest t →
    Joins g link.router (hop_edges d g l (Some link) next ++ rest) t
hop_joins d g l link next t rest edge members leads joins = by_far link.to refl
  where
    by_far : (far : Far) → link.to ≡ far → Joins g link.router (hop_edges d g l (Some link) next ++ rest) t
    by_far (ToRouter r) is =
        let there : r ≡ next = eqb-true r next (rw is at leads) in
        let ends : (edge_at g l).to ≡ next = edge.to ∙ ap (far_vertex (length d.routers)) is ∙ there in
        rw is (edge.within, edge.from, subst (λ (v : ℕ). Joins g v rest t) (sym ends) joins)
    by_far (ToSubnet s) is =
        let second = edge_to_known g (length d.routers + s) next (members s (rw is at leads)) in
        let ends : (edge_at g l).to ≡ length d.routers + s = edge.to ∙ ap (far_vertex (length d.routers)) is in
        rw is (
          edge.within,
          edge.from,
          (second.0, second.1 ∙ sym ends, subst (λ (v : ℕ). Joins g v rest t) (sym second.2) joins),
        )

-- each hop of a route leads on: its edges join from its first router to its last
pub route_joins : (d : Database) (prices : List Price) (hops : List (List ℕ × List ℕ)) (last : List ℕ) → IsAreaDatabase d →
    length prices ≡ length d.links → is_known d hops last ≡ true → is_joined d hops last ≡ true →
    Joins (graph_at d prices) (router_number d (next_name hops last)) (route_edges d (graph_at d prices) hops last)
    (router_number d last)
route_joins d prices [] last base same known joined = refl
route_joins d prices (hop ∷ hops) last base same known joined =
    let more = and_parts (knows_router d hop.0 && knows_link d hop.0 hop.1) (is_known d hops last) known in
    let names = and_parts (knows_router d hop.0) (knows_link d hop.0 hop.1) more.0 in
    let found = link_known d hop.0 hop.1 names.1 in
    let ways = and_parts (leads_to_router d (router_number d (next_name hops last))
    (slice_get d.links (link_number d hop.0 hop.1))) (is_joined d hops last) joined in
    let leads : leads_to_router d (router_number d (next_name hops last)) (Some found.link) ≡ true = rw found.there at ways.0 in
    let rest = route_joins d prices hops last base same more.1 ways.1 in
    let owner = and_parts (same_bytes (slice_index_or d.routers found.link.router []) hop.0) (same_bytes found.link.interface hop.1) found.named in
    let within : link_number d hop.0 hop.1 < length d.links = slice_get_within d.links (link_number d hop.0 hop.1) found.link found.there in
    let link_is : get_or d.links (link_number d hop.0 hop.1) found.link ≡ found.link =
    get_or_from_slice_get d.links (link_number d hop.0 hop.1) found.link found.link found.there in
    let its_router : found.link.router < length d.routers
    = subst (λ (i : Linked). i.router < length d.routers) link_is (base.each_link (link_number d hop.0 hop.1) found.link within).router in
    let starts : router_number d hop.0 ≡ found.link.router
    = router_number_is d found.link.router hop.0 base.different its_router (same_bytes-true (slice_index_or d.routers found.link.router []) hop.0 owner.0) in
    rw (starts, found.there)
    (hop_joins d (graph_at d prices) (link_number d hop.0 hop.1) found.link (router_number d (next_name hops last))
    (router_number d last) (route_edges d (graph_at d prices) hops last)
    (link_edge (length d.routers) d.links prices (subnet_edges d.links (length d.routers) d.subnets) (link_number d hop.0 hop.1) found.link same found.there)
    (λ s is_member. has_right (link_edges (length d.routers) d.links prices)
    (subnet_edges d.links (length d.routers) d.subnets) (length d.routers + s)
    (router_number d (next_name hops last))
    (subnet_edge d.links (length d.routers) (router_number d (next_name hops last)) d.subnets s is_member))
    leads rest)

-- a list lacks a number exactly where the test doesn't find it
pub lacks_from : (xs : List ℕ) (x : ℕ) → list_any (λ y. x == y) xs ≡ false → Lacks xs x
lacks_from [] x none = tt
lacks_from (y ∷ ys) x none = let parts = or_parts (x == y) (list_any (λ z. x == z) ys) none in (eqb-false x y parts.0, lacks_from ys x parts.1)

pub lacks_test : (xs : List ℕ) (x : ℕ) → Lacks xs x → list_any (λ y. x == y) xs ≡ false
lacks_test [] x lacks = refl
lacks_test (y ∷ ys) x lacks = or_from (x == y) (list_any (λ z. x == z) ys) (ne_eqb x y lacks.0) (lacks_test ys x lacks.1)

none_twice_is : (xs : List ℕ) → is_none_twice xs ≡ true → NoneTwice xs
none_twice_is [] once = tt
none_twice_is (x ∷ xs) once =
    let parts = and_parts (not (list_any (λ y. x == y) xs)) (is_none_twice xs) once in
    (lacks_from xs x (not-true (list_any (λ y. x == y) xs) parts.0), none_twice_is xs parts.1)

-- a router's number is one of a vertex
pub router_vertex : (d : Database) (prices : List Price) (r : ℕ) → r < length d.routers → r < length (graph_at d prices).vertices
router_vertex d prices r within = omega (arith, vertices_length (length d.routers) (length d.subnets))

next_known : (d : Database) (hops : List (List ℕ × List ℕ)) (last : List ℕ) → is_known d hops last ≡ true → knows_router d (next_name hops last) ≡ true
next_known d [] last known = known
next_known d (hop ∷ hops) last known =
    let more = and_parts (knows_router d hop.0 && knows_link d hop.0 hop.1) (is_known d hops last) known in
    (and_parts (knows_router d hop.0) (knows_link d hop.0 hop.1) more.0).0

last_known : (d : Database) (hops : List (List ℕ × List ℕ)) (last : List ℕ) → is_known d hops last ≡ true → knows_router d last ≡ true
last_known d [] last known = known
last_known d (hop ∷ hops) last known = last_known d hops last (and_parts (knows_router d hop.0 && knows_link d hop.0 hop.1) (is_known d hops last) known).1

-- a route that resolves is a simple path from its first router to its last
pub route_simple : (d : Database) (prices : List Price) (route : Route) → IsAreaDatabase d →
    length prices ≡ length d.links → resolves_route d (graph_at d prices) route ≡ true →
    IsSimple (graph_at d prices) (router_number d (next_name route.hops route.last))
    (route_edges d (graph_at d prices) route.hops route.last) (router_number d route.last)
route_simple d prices route base same resolves =
    let whole = and_parts (is_known d route.hops route.last && is_joined d route.hops route.last) (is_loop_free d (graph_at d prices) route) resolves in
    let parts = and_parts (is_known d route.hops route.last) (is_joined d route.hops route.last) whole.0 in
    record {
      start = router_vertex d prices (router_number d (next_name route.hops route.last))
          (router_known d (next_name route.hops route.last) (next_known d route.hops route.last parts.0)).0;
      end = router_vertex d prices (router_number d route.last) (router_known d route.last (last_known d route.hops route.last parts.0)).0;
      joins = route_joins d prices route.hops route.last base same parts.0 parts.1;
      none_twice = none_twice_is (visited (graph_at d prices) (router_number d (next_name route.hops route.last))
          (route_edges d (graph_at d prices) route.hops route.last)) whole.1;
    }

-- a path avoids what isn't there
pub avoids_none : (es : List ℕ) → Avoids [] es
avoids_none [] = tt
avoids_none (e ∷ es) = (tt, avoids_none es)
