-- Which vertices an edge joins doesn't depend on prices, so a wanted path is the same in the outline and in the graph.
use Rattle.std.proofs.Common.{◌≡◌, ℕ, zero, suc, ◌+◌, refl, ◌∙◌, ap, List, [], ◌∷◌, ◌++◌, length, map, get_or, arith, Option, Some, None}
use Rattle.std.specs.Prelude.{filter, slice_get, unwrap_or, ◌&&◌, ◌==◌}
use Rattle.std.specs.List.{filter_map, list_any}
use Rattle.std.proofs.lemmas.List.{length-map}
use Rattle.cost_base.specs.Lists.{numbers_from, first_of}
use Rattle.cost_base.proofs.ListLemmas.{filter-numbers_from-agree}
use Rattle.area_graph.specs.declared.Price.{Price}
use Rattle.area_graph.specs.declared.Price.TheVariants.{Fixed}
use Rattle.area_graph.specs.declared.Edge.{Edge}
use Rattle.area_graph.specs.Area.{Area, edge_at, no_edge}
use Rattle.area_graph.specs.Paths.{visited}
use Rattle.lsdb_build.specs.declared.Far.{Far}
use Rattle.lsdb_build.specs.declared.Far.TheVariants.{Router as ToRouter, Subnet as ToSubnet}
use Rattle.lsdb_build.specs.declared.Linked.{Linked}
use Rattle.lsdb_build.specs.Graphs.{Database, graph_at, link_edges}
use Rattle.request_reader.specs.declared.Excluded.{Excluded}
use Rattle.request_reader.specs.declared.Excluded.TheVariants.{Router, Interface}
use Rattle.request_reader.specs.declared.Directive.{Directive}
use Rattle.request_reader.specs.declared.Directive.TheVariants.{FreeAll, Free, Fix, Path, SymmetricAll, Symmetric}
use Rattle.request_reader.specs.declared.DirectiveLine.{DirectiveLine}
use Rattle.request_reader.specs.WrittenRoutes.{Route}
use Rattle.wanted_paths.specs.Paths.{next_name, router_number, link_number, edge_between, hop_edges, route_edges, link_excludes, excludes, excluded_edges, request_of}
use Rattle.wanted_paths.specs.Resolution.{is_none_twice, is_loop_free}
use Rattle.wanted_paths.specs.Paths.{outline}

-- the edges of two graphs join the same vertices
pub record SameEnds (g h : Area) : Type 0 where
  pub count : length g.edges ≡ length h.edges
  pub from : (e : ℕ) → (edge_at g e).from ≡ (edge_at h e).from
  pub to : (e : ℕ) → (edge_at g e).to ≡ (edge_at h e).to

link_count : (n : ℕ) (links : List Linked) (p q : List Price) (more : List Edge) → length p ≡ length links →
    length q ≡ length links → length (link_edges n links p ++ more) ≡ length (link_edges n links q ++ more)
link_count n [] p q more first second = refl
link_count n (link ∷ links) [] q more first second = absurd (omega arith)
link_count n (link ∷ links) (x ∷ p) [] more first second = absurd (omega arith)
link_count n (link ∷ links) (x ∷ p) (y ∷ q) more first second = ap suc (link_count n links p q more (omega arith) (omega arith))

link_from : (n : ℕ) (links : List Linked) (p q : List Price) (more : List Edge) (e : ℕ) → length p ≡ length links →
    length q ≡ length links → (get_or (link_edges n links p ++ more) e no_edge).from
    ≡ (get_or (link_edges n links q ++ more) e no_edge).from
link_from n [] p q more e first second = refl
link_from n (link ∷ links) [] q more e first second = absurd (omega arith)
link_from n (link ∷ links) (x ∷ p) [] more e first second = absurd (omega arith)
link_from n (link ∷ links) (x ∷ p) (y ∷ q) more zero first second = refl
link_from n (link ∷ links) (x ∷ p) (y ∷ q) more (suc e) first second = link_from n links p q more e (omega arith) (omega arith)

link_to : (n : ℕ) (links : List Linked) (p q : List Price) (more : List Edge) (e : ℕ) → length p ≡ length links →
    length q ≡ length links → (get_or (link_edges n links p ++ more) e no_edge).to
    ≡ (get_or (link_edges n links q ++ more) e no_edge).to
link_to n [] p q more e first second = refl
link_to n (link ∷ links) [] q more e first second = absurd (omega arith)
link_to n (link ∷ links) (x ∷ p) [] more e first second = absurd (omega arith)
link_to n (link ∷ links) (x ∷ p) (y ∷ q) more zero first second = refl
link_to n (link ∷ links) (x ∷ p) (y ∷ q) more (suc e) first second = link_to n links p q more e (omega arith) (omega arith)

-- the graph at any prices joins what the outline joins
pub as_outline : (d : Database) (prices : List Price) → length prices ≡ length d.links → SameEnds (graph_at d prices) (outline d)
as_outline d prices same =
    let ones : List Price = map (λ (link : Linked). Fixed 1) d.links in
    let count : length ones ≡ length d.links = length-map {B = Price} d.links (λ (link : Linked). Fixed 1) in
    let n = length d.routers in
    record {
      count = link_count n d.links prices ones _ same count;
      from = λ e. link_from n d.links prices ones _ e same count;
      to = λ e. link_to n d.links prices ones _ e same count;
    }

edge_to_same : (g h : Area) (source target : ℕ) → SameEnds g h → edge_between g source target ≡ edge_between h source target
edge_to_same g h source target same =
    ap (λ (es : List ℕ). unwrap_or (first_of es) 0)
    (filter-numbers_from-agree (λ e. (edge_at g e).from == source && (edge_at g e).to == target)
    (λ e. (edge_at h e).from == source && (edge_at h e).to == target) 0 (length g.edges)
    (λ e above below. rw (same.from e, same.to e) refl)
    ∙ ap (λ n. filter (λ e. (edge_at h e).from == source && (edge_at h e).to == target) (numbers_from 0 n)) same.count)

hop_same : (d : Database) (g h : Area) (l : ℕ) (o : Option Linked) (next : ℕ) → SameEnds g h → hop_edges d g l o next ≡ hop_edges d h l o next
hop_same d g h l None next same = refl
hop_same d g h l (Some link) next same = by_far link.to
  where
    by_far : (far : Far) → hop_edges d g l (Some (record link { to = far })) next ≡ hop_edges d h l (Some (record link { to = far })) next
    by_far (ToRouter r) = refl
    by_far (ToSubnet s) = ap (λ e. l ∷ e ∷ []) (edge_to_same g h (length d.routers + s) next same)

pub route_same : (d : Database) (g h : Area) (hops : List (List ℕ × List ℕ)) (last : List ℕ) → SameEnds g h →
    route_edges d g hops last ≡ route_edges d h hops last
route_same d g h [] last same = refl
route_same d g h (hop ∷ hops) last same =
    let l = link_number d hop.0 hop.1 in
    rw (hop_same d g h l (slice_get d.links l) (router_number d (next_name hops last)) same, route_same d g h hops last same) refl

link_excludes_same : (d : Database) (g h : Area) (l : ℕ) (o : Option Linked) (e : ℕ) → SameEnds g h → link_excludes d g l o e ≡ link_excludes d h l o e
link_excludes_same d g h l None e same = refl
link_excludes_same d g h l (Some link) e same = by_far link.link_back link.to
  where
    by_far : (link_back : Option ℕ) (far : Far) → link_excludes d g l (Some (record link { link_back = link_back; to = far })) e
        ≡ link_excludes d h l (Some (record link { link_back = link_back; to = far })) e
    by_far None (ToRouter r) = refl
    by_far (Some m) (ToRouter r) = refl
    by_far None (ToSubnet s) = rw (same.from e, same.to e) refl
    by_far (Some m) (ToSubnet s) = rw (same.from e, same.to e) refl

excludes_same : (d : Database) (g h : Area) (e : ℕ) (part : Excluded) → SameEnds g h → excludes d g e part ≡ excludes d h e part
excludes_same d g h e (Router name) same = rw (same.from e, same.to e) refl
excludes_same d g h e (Interface router interface) same =
    let l = link_number d router interface in
    link_excludes_same d g h l (slice_get d.links l) e same

any_excludes_same : (d : Database) (g h : Area) (e : ℕ) (parts : List Excluded) → SameEnds g h →
    list_any (excludes d g e) parts ≡ list_any (excludes d h e) parts
any_excludes_same d g h e [] same = refl
any_excludes_same d g h e (part ∷ parts) same = rw (excludes_same d g h e part same, any_excludes_same d g h e parts same) refl

pub excluded_same : (d : Database) (g h : Area) (parts : List Excluded) → SameEnds g h → excluded_edges d g parts ≡ excluded_edges d h parts
excluded_same d g h parts same =
    filter-numbers_from-agree (λ e. list_any (excludes d g e) parts) (λ e. list_any (excludes d h e) parts) 0 (length g.edges)
    (λ e above below. any_excludes_same d g h e parts same)
    ∙ ap (λ n. filter (λ e. list_any (excludes d h e) parts) (numbers_from 0 n)) same.count

request_same : (d : Database) (g h : Area) (directive : Directive) → SameEnds g h → request_of d g directive ≡ request_of d h directive
request_same d g h (Path route parts) same = rw (route_same d g h route.hops route.last same, excluded_same d g h parts same) refl
request_same d g h (FreeAll lo hi) same = refl
request_same d g h (Free router interface lo hi) same = refl
request_same d g h (Fix router interface) same = refl
request_same d g h SymmetricAll same = refl
request_same d g h (Symmetric router interface) same = refl

-- the requests of lines are the same in both graphs
pub requests_same : (d : Database) (g h : Area) (items : List DirectiveLine) → SameEnds g h →
    filter_map (λ item. request_of d g item.what) items ≡ filter_map (λ item. request_of d h item.what) items
requests_same d g h [] same = refl
requests_same d g h (item ∷ items) same = rw (request_same d g h item.what same, requests_same d g h items same) refl

ends_visited : (g h : Area) (es : List ℕ) → SameEnds g h → map (λ e. (edge_at g e).to) es ≡ map (λ e. (edge_at h e).to) es
ends_visited g h [] same = refl
ends_visited g h (e ∷ es) same = rw (same.to e, ends_visited g h es same) refl

pub loop_free_same : (d : Database) (g h : Area) (route : Route) → SameEnds g h → is_loop_free d g route ≡ is_loop_free d h route
loop_free_same d g h route same =
    let start = router_number d (next_name route.hops route.last) in
    ap (λ (es : List ℕ). is_none_twice (visited g start es)) (route_same d g h route.hops route.last same)
    ∙ ap (λ (vs : List ℕ). is_none_twice (start ∷ vs)) (ends_visited g h (route_edges d h route.hops route.last) same)
