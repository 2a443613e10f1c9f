-- Routes between the routers of LSAs.
use Rattle.std.proofs.Common.{◌≡◌, ℕ, suc, ◌+◌, ◌<◌, ◌≤◌, refl, sym, ◌∙◌, ap, subst, List, [], ◌∷◌, length, arith, Bool, true, false, cond, Option, None, Some, slice_index_or}
use Rattle.std.specs.Prelude.{All, codes, flat_map, unwrap_or, ◌*◌, ◌==◌, ◌&&◌, ◌||◌}
use Rattle.std.specs.List.{list_any}
use Rattle.std.proofs.lemmas.Bool.{false≢true}
use Rattle.std.proofs.lemmas.List.Elements.{All-nil, All-cons, All-append}
use Rattle.std.proofs.lemmas.Simd.{map-map}
use Rattle.cost_base.specs.declared.Status.{Status}
use Rattle.cost_base.specs.declared.Status.TheVariants.{Done}
use Rattle.area_graph.proofs.Vertices.{vertices_length}
use Rattle.area_graph.specs.declared.Price.{Price}
use Rattle.area_graph.specs.declared.Price.TheVariants.{Fixed, Zero}
use Rattle.area_graph.specs.declared.Edge.{Edge}
use Rattle.area_graph.specs.Area.{Area, edge_at}
use Rattle.area_graph.specs.Costs.{IsPriced, FitsPoint, at_costs}
use Rattle.spf_ties.specs.Distances.{tight_out}
use Rattle.input_files.specs.declared.stop.Stop.{Stop}
use Rattle.input_files.specs.Readings.{Reading, Refused, Ready, Says, EndsAs}
use Rattle.input_files.specs.Stops.{StopsAs, IsReadAndMade, IsRefusal}
use Rattle.input_files.proofs.Stops.{refusal_stops}
use Rattle.report_writer.specs.declared.report.Report.{Report}
use Rattle.report_writer.specs.Reports.{Reports, bytes_in}
use Rattle.lsa_bytes.specs.declared.LsaLink.{LsaLink}
use Rattle.lsa_bytes.specs.declared.Body.{Body}
use Rattle.lsa_bytes.specs.declared.Body.TheVariants.{Links, Attached}
use Rattle.lsa_bytes.specs.declared.Lsa.{Lsa}
use Rattle.lsa_bytes.specs.declared.fault.LsaFault.TheVariants.{NoRouterId}
use Rattle.lsa_bytes.specs.AreaGraphs.{routers_among, networks_among, vertex_back, edge_if_found, far_end, link_edge, attached_edge, edges_from, edges_in_order, router_vertex_back, has_link, lsa_graph}
use Rattle.lsa_bytes.specs.Databases.{is_router_lsa, is_router_of}
use Rattle.lsa_bytes.specs.Numbers.{lsa_fault_number}
use Rattle.database_commands.specs.Routes.{unless_unknown, vertex_of_router, id_at, vertex_ids, route_end, hop_ids, IsRoute, MayRoute}
use Rattle.database_commands.specs.Found.{EndsBy, IsFoundEnd}

-- a router without a router-LSA stops the rest
pub unknown_stops : (file : List ℕ) (id place : ℕ) (lsas : List Lsa) (next : Reading (List Lsa)) (stop : Stop) →
    list_any (is_router_of id) lsas ≡ false →
    IsRefusal (record { number = lsa_fault_number NoRouterId; file = file; line = place }) stop
    → StopsAs (unless_unknown file id place lsas next) [] stop
unknown_stops file id place lsas next stop unknown is =
    subst (λ b. StopsAs (cond b next (Refused (record { number = lsa_fault_number NoRouterId; file = file; line = place }))) [] stop) (sym unknown)
    (refusal_stops (List Lsa) (record { number = lsa_fault_number NoRouterId; file = file; line = place }) stop is)

pub known_goes_on : (file : List ℕ) (id place : ℕ) (lsas : List Lsa) (next : Reading (List Lsa)) →
    list_any (is_router_of id) lsas ≡ true → unless_unknown file id place lsas next ≡ next
known_goes_on file id place lsas next known = ap (λ b. cond b next (Refused (record { number = lsa_fault_number NoRouterId; file = file; line = place }))) known

-- Each edge has a fixed price.

abbrev IsFixed : Edge → Type 0
IsFixed edge = IsPriced 0 edge.price

edge_fixed : (from : ℕ) (price : Price) (to : Option ℕ) → IsPriced 0 price → All IsFixed (edge_if_found from price to)
edge_fixed from price None is = All-nil IsFixed
edge_fixed from price (Some to) is = All-cons IsFixed (record { from = from; to = to; price = price }) [] is (All-nil IsFixed)

links_fixed : (lsas : List Lsa) (vertex router : ℕ) (links : List LsaLink) → All IsFixed (flat_map (link_edge lsas vertex router) links)
links_fixed lsas vertex router [] = All-nil IsFixed
links_fixed lsas vertex router (link ∷ links) =
    All-append IsFixed (link_edge lsas vertex router link) (flat_map (link_edge lsas vertex router) links)
    (edge_fixed vertex (Fixed link.metric) (far_end lsas router link) tt) (links_fixed lsas vertex router links)

attached_fixed : (lsas : List Lsa) (vertex id : ℕ) (attached : List ℕ) → All IsFixed (flat_map (attached_edge lsas vertex id) attached)
attached_fixed lsas vertex id [] = All-nil IsFixed
attached_fixed lsas vertex id (router ∷ attached) =
    All-append IsFixed (attached_edge lsas vertex id router) (flat_map (attached_edge lsas vertex id) attached)
    (edge_fixed vertex Zero (router_vertex_back lsas router (has_link 2 id)) tt) (attached_fixed lsas vertex id attached)

body_fixed : (lsas : List Lsa) (vertex : ℕ) (lsa : Lsa) (body : Body) → All IsFixed (edges_from lsas vertex lsa body)
body_fixed lsas vertex lsa (Links links) = links_fixed lsas vertex lsa.router links
body_fixed lsas vertex lsa (Attached attached) = attached_fixed lsas vertex lsa.id attached

order_fixed : (lsas : List Lsa) (vertex : ℕ) (some : List Lsa) → All IsFixed (edges_in_order lsas vertex some)
order_fixed lsas vertex [] = All-nil IsFixed
order_fixed lsas vertex (lsa ∷ some) =
    All-append IsFixed (edges_from lsas vertex lsa lsa.body) (edges_in_order lsas (vertex + 1) some)
    (body_fixed lsas vertex lsa lsa.body) (order_fixed lsas (vertex + 1) some)

pub point_fits : (lsas : List Lsa) → FitsPoint (lsa_graph lsas) (at_costs [])
point_fits lsas = record {
  scale = omega arith;
  scale_below = omega arith;
  priced = All-append IsFixed (edges_in_order lsas 0 (routers_among lsas))
      (edges_in_order lsas (length (routers_among lsas)) (networks_among lsas)) (order_fixed lsas 0 (routers_among lsas))
      (order_fixed lsas (length (routers_among lsas)) (networks_among lsas));
  least = All-nil (λ x. 1 ≤ x);
  most = All-nil (λ x. x ≤ 65535 * 1);
}

-- The vertex of a router that has a router-LSA.

back_below : (n : ℕ) (sought : Lsa → Bool) (xs : List Lsa) → list_any sought xs ≡ true → unwrap_or (vertex_back n sought (λ body. true) xs) 0 < n + length xs
back_below n sought [] any = absurd (false≢true any)
back_below n sought (x ∷ xs) any = by_head (sought x) any (back_below (n + 1) sought xs)
  where
    by_head : (b : Bool) → (b || list_any sought xs) ≡ true →
        (list_any sought xs ≡ true → unwrap_or (vertex_back (n + 1) sought (λ body. true) xs) 0 < n + 1 + length xs)
        → unwrap_or (cond b (cond true (Some n) None) (vertex_back (n + 1) sought (λ body. true) xs)) 0 < n + suc (length xs)
    by_head true some rest = omega arith
    by_head false some rest = omega (arith, rest some)

any_router : (id : ℕ) (lsas : List Lsa) → list_any (is_router_of id) lsas ≡ true → list_any (is_router_of id) (routers_among lsas) ≡ true
any_router id [] any = any
any_router id (lsa ∷ lsas) any = by_kind (is_router_lsa lsa) refl any (any_router id lsas)
  where
    by_kind : (b : Bool) → is_router_lsa lsa ≡ b → (is_router_of id lsa || list_any (is_router_of id) lsas) ≡ true →
        (list_any (is_router_of id) lsas ≡ true → list_any (is_router_of id) (routers_among lsas) ≡ true)
        → list_any (is_router_of id) (cond b (lsa ∷ routers_among lsas) (routers_among lsas)) ≡ true
    by_kind true is some rest = by_name (is_router_of id lsa) some rest
      where
        by_name : (c : Bool) → (c || list_any (is_router_of id) lsas) ≡ true →
            (list_any (is_router_of id) lsas ≡ true → list_any (is_router_of id) (routers_among lsas) ≡ true) →
            (c || list_any (is_router_of id) (routers_among lsas)) ≡ true
        by_name true s r = refl
        by_name false s r = r s
    by_kind false is some rest = rest (sym (ap (λ b. (b && lsa.router == id) || list_any (is_router_of id) lsas) is) ∙ some)

pub vertex_within : (lsas : List Lsa) (id : ℕ) → list_any (is_router_of id) lsas ≡ true → vertex_of_router lsas id < length (lsa_graph lsas).vertices
vertex_within lsas id known =
    omega (
      arith,
      back_below 0 (is_router_of id) (routers_among lsas) (any_router id lsas known),
      vertices_length (length (routers_among lsas)) (length (networks_among lsas)),
    )

-- What is found.

-- between two routers
pub found_between : (lsas : List Lsa) (g : Area) (ids : List ℕ) (from to start end : ℕ) (bytes : List ℕ) →
    g ≡ lsa_graph lsas → ids ≡ vertex_ids lsas → start ≡ vertex_of_router lsas from → end ≡ vertex_of_router lsas to →
    (from == to) ≡ false
    → EndsBy g ids start end bytes → IsFoundEnd lsas from to bytes
found_between lsas g ids from to start end bytes graph names starts ends apart is =
    let moved = subst (λ (h : Area). EndsBy h (vertex_ids lsas) (vertex_of_router lsas from) (vertex_of_router lsas to) bytes) graph
    (subst (λ (ns : List ℕ). EndsBy g ns (vertex_of_router lsas from) (vertex_of_router lsas to) bytes) names
    (subst (λ s. EndsBy g ids s (vertex_of_router lsas to) bytes) starts (subst (λ t. EndsBy g ids start t bytes) ends is))) in
    record {
      distances = moved.room.costs;
      least = moved.least;
      written = moved.written
          ∙ ap (λ (hops : List ℕ). route_end (slice_index_or moved.room.costs (vertex_of_router lsas from) None) hops)
          (sym (map-map (id_at lsas) (λ e. (edge_at (lsa_graph lsas) e).to) (tight_out (lsa_graph lsas) (at_costs []) moved.room (vertex_of_router lsas from))))
          ∙ sym (ap (λ b. cond b (codes "cost 0 first none")
          (route_end (slice_index_or moved.room.costs (vertex_of_router lsas from) None)
          (hop_ids lsas moved.room.costs (vertex_of_router lsas from)))) apart);
    }

-- from a router to itself
pub found_own : (lsas : List Lsa) (g : Area) (ids : List ℕ) (from to start end : ℕ) (bytes own : List ℕ) →
    g ≡ lsa_graph lsas → end ≡ vertex_of_router lsas to → (from == to) ≡ true → own ≡ codes "cost 0 first none"
    → EndsBy g ids start end bytes → IsFoundEnd lsas from to own
found_own lsas g ids from to start end bytes own graph ends same own_is is =
    let moved = subst (λ (h : Area). EndsBy h ids start (vertex_of_router lsas to) bytes) graph (subst (λ t. EndsBy g ids start t bytes) ends is) in
    record {
      distances = moved.room.costs;
      least = moved.least;
      written = own_is
          ∙ sym (ap (λ b. cond b (codes "cost 0 first none")
          (route_end (slice_index_or moved.room.costs (vertex_of_router lsas from) None)
          (hop_ids lsas moved.room.costs (vertex_of_router lsas from)))) same);
    }

-- What `route` comes to behind its file.

pub unknown_start : (file : List ℕ) (from to : ℕ) (lsas slice : List Lsa) (stop : Stop) → slice ≡ lsas →
    (list_any (is_router_of from) slice ≡ false)
    × IsRefusal (record { number = lsa_fault_number NoRouterId; file = file; line = 0 }) stop →
    StopsAs (unless_unknown file from 0 lsas (unless_unknown file to 1 lsas (Ready lsas))) [] stop
unknown_start file from to lsas slice stop same is =
    unknown_stops file from 0 lsas (unless_unknown file to 1 lsas (Ready lsas)) stop (sym (ap (list_any (is_router_of from)) same) ∙ is.0) is.1

pub unknown_end : (file : List ℕ) (from to : ℕ) (lsas slice other : List Lsa) (stop : Stop) → slice ≡ lsas →
    other ≡ lsas → list_any (is_router_of from) slice ≡ true →
    (list_any (is_router_of to) other ≡ false)
    × IsRefusal (record { number = lsa_fault_number NoRouterId; file = file; line = 1 }) stop →
    StopsAs (unless_unknown file from 0 lsas (unless_unknown file to 1 lsas (Ready lsas))) [] stop
unknown_end file from to lsas slice other stop same also known is =
    subst (λ (m : Reading (List Lsa)). StopsAs m [] stop)
    (sym (known_goes_on file from 0 lsas (unless_unknown file to 1 lsas (Ready lsas))
    (sym (ap (list_any (is_router_of from)) same) ∙ known)))
    (unknown_stops file to 1 lsas (Ready lsas) stop (sym (ap (list_any (is_router_of to)) also) ∙ is.0) is.1)

pub routed : (file : List ℕ) (from to : ℕ) (lsas slice other database : List Lsa) (line : List ℕ) (report : Report) →
    slice ≡ lsas → other ≡ lsas → database ≡ lsas → list_any (is_router_of from) slice ≡ true →
    list_any (is_router_of to) other ≡ true →
    IsRoute from to database line → Reports Done line report →
    IsReadAndMade (unless_unknown file from 0 lsas (unless_unknown file to 1 lsas (Ready lsas))) []
    (λ (r : Report) said. MayRoute from to said r.status (bytes_in r.text)) report
routed file from to lsas slice other database line report same also read first second route is =
    let goes : unless_unknown file from 0 lsas (unless_unknown file to 1 lsas (Ready lsas)) ≡ Ready lsas =
    known_goes_on file from 0 lsas (unless_unknown file to 1 lsas (Ready lsas)) (sym (ap (list_any (is_router_of from)) same) ∙ first)
    ∙ known_goes_on file to 1 lsas (Ready lsas) (sym (ap (list_any (is_router_of to)) also) ∙ second) in
    record {
      said = lsas;
      ends = subst (λ (m : Reading (List Lsa)). EndsAs m [] (Says lsas)) (sym goes) refl;
      fits = subst (λ (s : Status). MayRoute from to lsas s (bytes_in report.text)) (sym is.status)
          (subst (IsRoute from to lsas) (sym is.text) (subst (λ (ls : List Lsa). IsRoute from to ls line) read route));
    }
