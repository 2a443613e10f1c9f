-- What a database of LSAs makes is a graph.
use Rattle.std.proofs.Common.{◌≡◌, ℕ, zero, suc, ◌+◌, ◌^◌, ◌<◌, ◌≤◌, ◌&&◌, ◌||◌, not, Bool, true, false, cond, nat_eq, List, [], ◌∷◌, ◌++◌, length, filter, get_or, Option, None, Some, All, refl, sym, ap, subst, ◌∙◌, arith}
use Rattle.std.specs.Prelude.{MatchOption, flat_map, sum_by}
use Rattle.std.proofs.lemmas.Bool.{false≢true, eqb-false, not-true}
use Rattle.std.proofs.lemmas.List.{length-append}
use Rattle.std.proofs.lemmas.List.Elements.{All-nil, All-cons, All-head, All-tail, All-append, All-weaker, All-filter}
use Rattle.std.proofs.lemmas.List.Sums.{length-filter, count_by-le-length, sum_by-cons}
use Rattle.area_graph.specs.declared.Vertex.{Vertex}
use Rattle.area_graph.specs.declared.Vertex.TheVariants.{Router as RouterVertex, Subnet as SubnetVertex}
use Rattle.area_graph.specs.declared.Price.{Price}
use Rattle.area_graph.specs.declared.Price.TheVariants.{Fixed, Zero}
use Rattle.area_graph.specs.declared.Edge.{Edge}
use Rattle.area_graph.specs.Area.{vertices_of, FitsSource, FitsTarget, FitsEdge, FitsGraph}
use Rattle.area_graph.proofs.Vertices.{vertices_length, router_vertex, routers_count, FitsVertices, subnet_vertex}
use Rattle.lsa_bytes.specs.declared.LsaLink.{LsaLink}
use Rattle.lsa_bytes.specs.declared.Body.{Body}
use Rattle.lsa_bytes.specs.declared.Body.TheVariants.{Links, Attached}
use Rattle.lsa_bytes.specs.declared.Lsa.{Lsa}
use Rattle.lsa_bytes.specs.Databases.{is_router_lsa, is_network_lsa, has_links, is_zero_link, has_zero_metric, size_of_lsa, size_of_body, is_router_of, is_network_of, IsLsaDatabase}
use Rattle.lsa_bytes.specs.AreaGraphs.{routers_among, networks_among, vertex_back, edge_if_found, router_vertex_back, network_vertex_back, has_link, attaches, far_end, link_edge, attached_edge, edges_from, edges_in_order, lsa_graph}
use Rattle.lsa_bytes.specs.declared.vertices.Kind.TheVariants.{Router, Network}
use Rattle.lsa_bytes.specs.Vertices.{is_kind}
use Rattle.cost_base.proofs.ListLemmas.{none_passes}

-- Edges between them.

router_edge_fits : (r s v w metric : ℕ) → v < r → w < r + s → 0 < metric → FitsVertices (vertices_of r s) (record { from = v; to = w; price = Fixed metric })
router_edge_fits r s v w metric from to some =
    let is = router_vertex r s v from in
    record {
      from = omega (arith, vertices_length r s);
      to = omega (arith, vertices_length r s);
      price = subst (λ source. FitsSource source (Fixed metric)) (sym is) some;
      target = subst (λ source. FitsTarget source (get_or (vertices_of r s) w (RouterVertex 0))) (sym is) tt;
    }

network_edge_fits : (r s k w : ℕ) → k < s → w < r → FitsVertices (vertices_of r s) (record { from = r + k; to = w; price = Zero })
network_edge_fits r s k w from to =
    let source = subnet_vertex r s k from in
    let target = router_vertex r s w to in
    record {
      from = omega (arith, vertices_length r s);
      to = omega (arith, vertices_length r s);
      price = subst (λ v. FitsSource v Zero) (sym source) tt;
      target = subst (λ v. FitsTarget v (get_or (vertices_of r s) w (RouterVertex 0))) (sym source) (subst (FitsTarget (SubnetVertex k)) (sym target) tt);
    }

-- the vertices that lead back are in range
back_bound : (n : ℕ) (test : Lsa → Bool) (leads : Body → Bool) (lsas : List Lsa) →
    MatchOption (vertex_back n test leads lsas) (Unit {0}) (λ w. w < n + length lsas)
back_bound n test leads [] = tt
back_bound n test leads (lsa ∷ more) = by_tests (test lsa) (leads lsa.body) (back_bound (n + 1) test leads more)
  where
    later : (found : Option ℕ) → MatchOption found (Unit {0}) (λ w. w < n + 1 + length more) → MatchOption found (Unit {0}) (λ w. w < n + suc (length more))
    later None bound = tt
    later (Some w) bound = omega arith

    by_tests : (b c : Bool) → MatchOption (vertex_back (n + 1) test leads more) (Unit {0})
        (λ w. w < n + 1 + length more) →
        MatchOption (cond b (cond c (Some n) None) (vertex_back (n + 1) test leads more)) (Unit {0})
        (λ w. w < n + suc (length more))
    by_tests true true bound = omega arith
    by_tests true false bound = tt
    by_tests false c bound = later (vertex_back (n + 1) test leads more) bound

edge_fits : (P : Edge → Type 0) (from : ℕ) (price : Price) (to : Option ℕ) →
    MatchOption to (Unit {0}) (λ w. P (record { from = from; to = w; price = price })) → All P (edge_if_found from price to)
edge_fits P from price None fits = All-nil P
edge_fits P from price (Some w) fits = All-cons P (record { from = from; to = w; price = price }) [] fits (All-nil P)

weaker : (found : Option ℕ) (P Q : ℕ → Type 0) → ((w : ℕ) → P w → Q w) → MatchOption found (Unit {0}) P → MatchOption found (Unit {0}) Q
weaker None P Q go fits = tt
weaker (Some w) P Q go fits = go w fits

flat_fits : {X : Type 0} (P : Edge → Type 0) (Q : X → Type 0) (f : X → List Edge) (xs : List X) → All Q xs →
    ((x : X) → Q x → All P (f x)) → All P (flat_map f xs)
flat_fits P Q f [] all each = All-nil P
flat_fits P Q f (x ∷ xs) all each = All-append P (f x) (flat_map f xs) (each x (All-head Q x xs all)) (flat_fits P Q f xs (All-tail Q x xs all) each)

-- a metric of a link that isn't at fault
some_metric : (metric : ℕ) → nat_eq metric 0 ≡ false → 0 < metric
some_metric zero none = absurd (eqb-false 0 0 none refl)
some_metric (suc metric) none = omega arith

module _ (lsas : List Lsa) where
  abbrev Fits : Edge → Type 0
  Fits edge = FitsVertices (vertices_of (length (routers_among lsas)) (length (networks_among lsas))) edge

  link_fits : (v router : ℕ) (link : LsaLink) → v < length (routers_among lsas) → is_zero_link link ≡ false → All Fits (link_edge lsas v router link)
  link_fits v router link from metric =
      edge_fits Fits v (Fixed link.metric) (far_end lsas router link)
      (by_kind (nat_eq link.kind 1) (nat_eq link.kind 2) metric)
    where
      by_kind : (a b : Bool) → ((a || b) && nat_eq link.metric 0) ≡ false →
          MatchOption (cond a (router_vertex_back lsas link.id (has_link 1 router))
          (cond b (network_vertex_back lsas link.id (attaches router)) None)) (Unit {0})
          (λ w. Fits (record { from = v; to = w; price = Fixed link.metric }))
      by_kind true b none = weaker (router_vertex_back lsas link.id (has_link 1 router)) (λ w. w < 0 + length (routers_among lsas))
          (λ w. Fits (record { from = v; to = w; price = Fixed link.metric }))
          (λ w bound. router_edge_fits (length (routers_among lsas)) (length (networks_among lsas)) v w link.metric from (omega arith)
          (some_metric link.metric none))
          (back_bound 0 (is_router_of link.id) (has_link 1 router) (routers_among lsas))
      by_kind false true none = weaker (network_vertex_back lsas link.id (attaches router))
          (λ w. w < length (routers_among lsas) + length (networks_among lsas))
          (λ w. Fits (record { from = v; to = w; price = Fixed link.metric }))
          (λ w bound. router_edge_fits (length (routers_among lsas)) (length (networks_among lsas)) v w link.metric from bound (some_metric link.metric none))
          (back_bound (length (routers_among lsas)) (is_network_of link.id) (attaches router) (networks_among lsas))
      by_kind false false none = tt

  attached_fits : (k id router : ℕ) → k < length (networks_among lsas) → All Fits (attached_edge lsas (length (routers_among lsas) + k) id router)
  attached_fits k id router from = edge_fits Fits (length (routers_among lsas) + k) Zero (router_vertex_back lsas router (has_link 2 id))
      (weaker (router_vertex_back lsas router (has_link 2 id)) (λ w. w < 0 + length (routers_among lsas))
      (λ w. Fits (record { from = length (routers_among lsas) + k; to = w; price = Zero }))
      (λ w bound. network_edge_fits (length (routers_among lsas)) (length (networks_among lsas)) k w from (omega arith))
      (back_bound 0 (is_router_of router) (has_link 2 id) (routers_among lsas)))

  -- the edges out of router-LSAs without a link at fault
  router_fits : (v : ℕ) (lsa : Lsa) (body : Body) → v < length (routers_among lsas) → has_links body ≡ true →
      has_zero_metric body ≡ false → All Fits (edges_from lsas v lsa body)
  router_fits v lsa (Links links) from kind metric =
      flat_fits Fits (λ link. is_zero_link link ≡ false) (link_edge lsas v lsa.router) links
      (none_passes is_zero_link links metric) (λ link none. link_fits v lsa.router link from none)
  router_fits v lsa (Attached attached) from kind metric = absurd (false≢true kind)

  network_fits : (k : ℕ) (lsa : Lsa) (body : Body) → k < length (networks_among lsas) → has_links body ≡ false →
      All Fits (edges_from lsas (length (routers_among lsas) + k) lsa body)
  network_fits k lsa (Links links) from kind = absurd (false≢true (sym kind))
  network_fits k lsa (Attached attached) from kind =
      flat_fits Fits (λ router. Unit {0}) (attached_edge lsas (length (routers_among lsas) + k) lsa.id) attached
      (λ i d within. tt) (λ router any. attached_fits k lsa.id router from)

  routers_fit : (v : ℕ) (some : List Lsa) → v + length some ≤ length (routers_among lsas) →
      All (λ lsa. is_router_lsa lsa ≡ true) some → All (λ lsa. has_zero_metric lsa.body ≡ false) some →
      All Fits (edges_in_order lsas v some)
  routers_fit v [] room kinds metrics = All-nil Fits
  routers_fit v (lsa ∷ more) room kinds metrics =
      All-append Fits (edges_from lsas v lsa lsa.body) (edges_in_order lsas (v + 1) more)
      (router_fits v lsa lsa.body (omega arith) (All-head (λ l. is_router_lsa l ≡ true) lsa more kinds)
      (All-head (λ l. has_zero_metric l.body ≡ false) lsa more metrics))
      (routers_fit (v + 1) more (omega arith) (All-tail (λ l. is_router_lsa l ≡ true) lsa more kinds)
      (All-tail (λ l. has_zero_metric l.body ≡ false) lsa more metrics))

  networks_fit : (k : ℕ) (some : List Lsa) → k + length some ≤ length (networks_among lsas) →
      All (λ lsa. is_network_lsa lsa ≡ true) some → All Fits (edges_in_order lsas (length (routers_among lsas) + k) some)
  networks_fit k [] room kinds = All-nil Fits
  networks_fit k (lsa ∷ more) room kinds =
      let next : length (routers_among lsas) + (k + 1) ≡ length (routers_among lsas) + k + 1 = omega arith in
      All-append Fits (edges_from lsas (length (routers_among lsas) + k) lsa lsa.body) (edges_in_order lsas (length (routers_among lsas) + k + 1) more)
      (network_fits k lsa lsa.body (omega arith) (not-true (has_links lsa.body) (All-head (λ l. is_network_lsa l ≡ true) lsa more kinds)))
      (subst (λ (v : ℕ). All Fits (edges_in_order lsas v more)) next
      (networks_fit (k + 1) more (omega arith) (All-tail (λ l. is_network_lsa l ≡ true) lsa more kinds)))

  -- as many edges as links and attached routers, or fewer
  edge_few : (from : ℕ) (price : Price) (to : Option ℕ) → length (edge_if_found from price to) ≤ 1
  edge_few from price None = omega arith
  edge_few from price (Some w) = omega arith

  flat_few : {X : Type 0} (f : X → List Edge) (xs : List X) → ((x : X) → length (f x) ≤ 1) → length (flat_map f xs) ≤ length xs
  flat_few f [] each = omega arith
  flat_few f (x ∷ xs) each = omega (arith, length-append (f x) (flat_map f xs), each x, flat_few f xs each)

  from_few : (v : ℕ) (lsa : Lsa) (body : Body) → length (edges_from lsas v lsa body) ≤ size_of_body body
  from_few v lsa (Links links) = flat_few (link_edge lsas v lsa.router) links (λ link. edge_few v (Fixed link.metric) (far_end lsas lsa.router link))
  from_few v lsa (Attached attached) = flat_few (attached_edge lsas v lsa.id) attached (λ router. edge_few v Zero
      (router_vertex_back lsas router (has_link 2 lsa.id)))

  edges_few : (v : ℕ) (some : List Lsa) → length (edges_in_order lsas v some) ≤ sum_by size_of_lsa some
  edges_few v [] = omega arith
  edges_few v (lsa ∷ more) =
      omega (
        arith,
        length-append (edges_from lsas v lsa lsa.body) (edges_in_order lsas (v + 1) more),
        from_few v lsa lsa.body,
        edges_few (v + 1) more,
        sum_by-cons size_of_lsa lsa more,
      )

-- the sizes of both kinds are those of all
sizes_split : (lsas : List Lsa) → sum_by size_of_lsa (routers_among lsas) + sum_by size_of_lsa (networks_among lsas) ≡ sum_by size_of_lsa lsas
sizes_split [] = refl
sizes_split (lsa ∷ more) = by_kind (is_router_lsa lsa) (sizes_split more)
  where
    by_kind : (b : Bool) → sum_by size_of_lsa (routers_among more) + sum_by size_of_lsa (networks_among more) ≡ sum_by size_of_lsa more
        → sum_by size_of_lsa (cond b (lsa ∷ routers_among more) (routers_among more))
        + sum_by size_of_lsa (cond (not b) (lsa ∷ networks_among more) (networks_among more)) ≡ sum_by size_of_lsa (lsa ∷ more)
    by_kind true split = omega (arith, split, sum_by-cons size_of_lsa lsa (routers_among more), sum_by-cons size_of_lsa lsa more)
    by_kind false split = omega (arith, split, sum_by-cons size_of_lsa lsa (networks_among more), sum_by-cons size_of_lsa lsa more)

length_small : (lsas : List Lsa) → length lsas ≤ sum_by size_of_lsa lsas
length_small [] = omega arith
length_small (lsa ∷ more) = omega (arith, length_small more, sum_by-cons size_of_lsa lsa more)

pub database_few : (lsas : List Lsa) → IsLsaDatabase lsas → length lsas < 2 ^ 30
database_few lsas is = omega (arith, is.small, length_small lsas)

pub routers_few : (lsas : List Lsa) → IsLsaDatabase lsas → length (routers_among lsas) ≤ 1000
routers_few lsas is = omega (arith, length-filter is_router_lsa lsas, is.faultless.routers)

all_pass : (p : Lsa → Bool) (lsas : List Lsa) → All (λ lsa. p lsa ≡ true) (filter p lsas)
all_pass p [] = All-nil (λ lsa. p lsa ≡ true)
all_pass p (lsa ∷ more) = by_test (p lsa) refl (all_pass p more)
  where
    by_test : (b : Bool) → p lsa ≡ b → All (λ l. p l ≡ true) (filter p more) → All (λ l. p l ≡ true) (cond b (lsa ∷ filter p more) (filter p more))
    by_test true is rest = All-cons (λ l. p l ≡ true) lsa (filter p more) is rest
    by_test false is rest = rest

pub graph_fits : (lsas : List Lsa) → IsLsaDatabase lsas → FitsGraph (lsa_graph lsas)
graph_fits lsas is =
    let r = length (routers_among lsas) in
    let s = length (networks_among lsas) in
    let first = routers_fit lsas 0 (routers_among lsas) (omega arith) (all_pass is_router_lsa lsas)
    (All-filter is_router_lsa (λ l. has_zero_metric l.body ≡ false) lsas is.faultless.metrics) in
    let second = networks_fit lsas 0 (networks_among lsas) (omega arith) (all_pass is_network_lsa lsas) in
    let from_r : r + 0 ≡ r = omega arith in
    let edges = All-append (Fits lsas) (edges_in_order lsas 0 (routers_among lsas)) (edges_in_order lsas r (networks_among lsas))
    first (subst (λ (v : ℕ). All (Fits lsas) (edges_in_order lsas v (networks_among lsas))) from_r second) in
    record {
      edges = All-weaker (Fits lsas) (FitsEdge (lsa_graph lsas))
          (λ edge e. record { from = e.from; to = e.to; price = e.price; target = e.target })
          (edges_in_order lsas 0 (routers_among lsas) ++ edges_in_order lsas r (networks_among lsas)) edges;
      routers = omega (arith, routers_count r s, routers_few lsas is);
      vertex_count = omega (
        arith,
        vertices_length r s,
        routers_few lsas is,
        length-filter is_network_lsa lsas,
        count_by-le-length is_network_lsa lsas,
        database_few lsas is,
      );
      edge_count = omega (
        arith,
        length-append (edges_in_order lsas 0 (routers_among lsas))
            (edges_in_order lsas r (networks_among lsas)),
        edges_few lsas 0 (routers_among lsas),
        edges_few lsas r (networks_among lsas),
        sizes_split lsas,
        is.small,
      );
    }

-- the graph that is made step by step
pub graph_made : (vs db : List Lsa) (r s : ℕ) (made : List Vertex) (none first second : List Edge) → vs ≡ db →
    r ≡ length (routers_among vs) → s ≡ length (networks_among vs)
    → made ≡ vertices_of r s → none ≡ [] → first ≡ none ++ edges_in_order vs 0 (filter (is_kind Router) vs) →
    second ≡ first ++ edges_in_order vs r (filter (is_kind Network) vs)
    → record { vertices = made; edges = second } ≡ lsa_graph db
graph_made vs db r s made none first second same r_is s_is made_is none_is first_is second_is =
    let nodes : made ≡ vertices_of (length (routers_among vs)) (length (networks_among vs)) = made_is
    ∙ ap (λ (n : ℕ). vertices_of n s) r_is ∙ ap (λ (n : ℕ). vertices_of (length (routers_among vs)) n) s_is in
    let links : second ≡ edges_in_order vs 0 (routers_among vs) ++ edges_in_order vs (length (routers_among vs)) (networks_among vs) =
    second_is ∙ ap (λ (es : List Edge). es ++ edges_in_order vs r (networks_among vs))
    (first_is ∙ ap (λ (es : List Edge). es ++ edges_in_order vs 0 (routers_among vs)) none_is)
    ∙ ap (λ (n : ℕ). edges_in_order vs 0 (routers_among vs) ++ edges_in_order vs n (networks_among vs)) r_is in
    let both : record { vertices = made; edges = second } ≡ lsa_graph vs = λ i. record { vertices = nodes i; edges = links i } in
    both ∙ ap lsa_graph same
