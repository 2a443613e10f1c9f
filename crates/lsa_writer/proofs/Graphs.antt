-- The graph of written LSAs is that of the database.
use Rattle.std.proofs.Common.{◌≡◌, ℕ, zero, suc, ◌+◌, ◌<◌, refl, sym, ◌∙◌, ap, subst, List, [], ◌∷◌, ◌++◌, length, map, arith, Bool, true, false, cond, Option, Some, None, slice_get, slice_index_or, zero-add}
use Rattle.std.specs.Prelude.{flat_map, ◌==◌}
use Rattle.std.proofs.lemmas.Bool.{eqb-true}
use Rattle.std.proofs.lemmas.Option.{slice_get-get_or, get_or_from_slice_get}
use Rattle.std.proofs.lemmas.List.{length-map}
use Rattle.std.proofs.lemmas.List.Folds.{flat_map-map}
use Rattle.cost_base.specs.Lists.{numbers_from}
use Rattle.area_graph.specs.Area.{vertices_of}
use Rattle.area_graph.specs.declared.Price.TheVariants.{Fixed, Zero}
use Rattle.area_graph.specs.declared.Edge.{Edge}
use Rattle.interface_model.specs.declared.Interface.{Interface}
use Rattle.interface_model.specs.Records.{Router as Config}
use Rattle.lsdb_build.specs.declared.Far.{Far}
use Rattle.lsdb_build.specs.declared.Far.TheVariants.{Router, Subnet}
use Rattle.lsdb_build.specs.declared.Linked.{Linked}
use Rattle.lsdb_build.specs.Graphs.{Database, IsDatabaseLink, IsFar, HasLinkBack, IsLinkBackOf, far_vertex, link_edges, subnet_edges, router_of, graph_at}
use Rattle.lsdb_build.proofs.Pairs.{all_at, at_map}
use Rattle.lsa_bytes.specs.declared.Lsa.{Lsa}
use Rattle.lsa_bytes.specs.AreaGraphs.{routers_among, networks_among, has_link, attaches, router_vertex_back, network_vertex_back, edge_if_found, link_edge, attached_edge, edges_in_order, lsa_graph}
use Rattle.lsa_writer.specs.declared.ends.LinkEnd.{LinkEnd}
use Rattle.lsa_writer.specs.declared.said.OwnedLink.{OwnedLink}
use Rattle.lsa_writer.specs.Ends.{id_of, interface_of_link, no_end, end_with, end_of, link_ends, end_at, designated, member_ends, designated_ends}
use Rattle.lsa_writer.specs.WrittenLsas.{lsa_link, said_link, said_links, links_alone, own_links, routers_in, all_links_said}
use Rattle.lsa_writer.proofs.ListPlaces.{flat_ones}
use Rattle.lsa_writer.proofs.Elections.{member_leads, end_there}
use Rattle.lsa_writer.proofs.LinkGroups.{grouped, in_groups}
use Rattle.lsa_writer.proofs.ToldLinks.{AreFit, own, of_subnet, of_subnets, told, routers_are, networks_are, own_length, said_at, said_order, said_within, cost_there, own_has, lists_member, is_member, router_vertex, network_vertex}

end_router : (id : ℕ) (o : Option Interface) → (end_with id o).router ≡ id
end_router id None = refl
end_router id (Some i) = refl

-- a link that leads back over a point-to-point subnet
record HasBack (d : Database) (link : Linked) (q : ℕ) : Type 0 where
  place : ℕ
  other : Linked
  at : slice_get d.links place ≡ Some other
  owner : other.router ≡ q
  back : other.to ≡ Router link.router

abbrev router_number : Far → ℕ
router_number (Router r) = r
router_number (Subnet s) = s

link_back_is : (d : Database) (l : ℕ) (link : Linked) (q : ℕ) (o : Option ℕ) → link.to ≡ Router q → HasLinkBack d l link (Router q) o → HasBack d link q
link_back_is d l link q None to has = absurd has
link_back_is d l link q (Some m) to has = by_link (slice_get d.links m) refl has.1
  where
    by_link : (o : Option Linked) → slice_get d.links m ≡ o → IsLinkBackOf l link o → HasBack d link q
    by_link None at is = absurd is
    by_link (Some other) at is = record { place = m; other = other; at = at; owner = ap router_number (sym is.1 ∙ to); back = is.2 }

module _ (configs : List Config) (d : Database) (costs : List ℕ) (fit : AreFit configs d) (one_each : length costs ≡ length d.links) where
  abbrev ends : List LinkEnd
  ends = link_ends configs d.links

  abbrev chosen : List LinkEnd
  chosen = designated_ends ends d.subnets

  abbrev said : List OwnedLink
  said = all_links_said configs d costs

  abbrev lsas : List Lsa
  lsas = told configs d costs

  abbrev told_edges : OwnedLink → List Edge
  told_edges s = link_edge lsas s.router (id_of configs s.router) s.link

  abbrev edge_of : Linked → ℕ → Edge
  edge_of link cost = record { from = link.router; to = far_vertex (length d.routers) link.to; price = Fixed cost }

  end_of_link : (l : ℕ) (link : Linked) → slice_get d.links l ≡ Some link → (end_at ends l).router ≡ id_of configs link.router
  end_of_link l link at = ap (λ (e : LinkEnd). e.router) (end_there configs d.links l link at)
      ∙ end_router (id_of configs link.router) (interface_of_link configs link)

  chosen_is : (s : ℕ) (members : List ℕ) → slice_get d.subnets s ≡ Some members → end_at chosen s ≡ designated (member_ends ends members)
  chosen_is s members at = get_or_from_slice_get chosen s (designated (member_ends ends members)) no_end
      (at_map (λ ms. designated (member_ends ends ms)) d.subnets s members at)

  below_count : (r : ℕ) → r < length d.routers → r < length configs
  below_count r below = omega (arith, below, fit.count)

  -- to the neighbour's router
  to_router : (l : ℕ) (link : Linked) (q : ℕ) → slice_get d.links l ≡ Some link → link.to ≡ Router q →
      router_vertex_back lsas (id_of configs q) (has_link 1 (id_of configs link.router)) ≡ Some q
  to_router l link q at to =
      let back = link_back_is d l link q link.link_back to (subst (λ far. HasLinkBack d l link far link.link_back) to (fit.base.links_back l link at)) in
      let priced = cost_there costs d.links back.place back.other one_each back.at in
      let within : q < length d.routers = subst (IsFar d) to (all_at (IsDatabaseLink d) d.links fit.base.each_link l link at).far in
      router_vertex configs d costs q (has_link 1 (id_of configs link.router)) fit (below_count q within)
      (own_has configs said q 1 (id_of configs link.router) back.place (said_link configs chosen back.other priced.0)
      (said_at configs chosen d.links costs back.place back.other priced.0 back.at priced.1) back.owner
      (ap (λ far. (lsa_link configs chosen (end_of configs back.other) far priced.0).kind) back.back)
      (ap (λ far. (lsa_link configs chosen (end_of configs back.other) far priced.0).id) back.back))

  -- into the transit subnet
  into_subnet : (l : ℕ) (link : Linked) (s : ℕ) → slice_get d.links l ≡ Some link → link.to ≡ Subnet s →
      network_vertex_back lsas (end_at chosen s).address (attaches (id_of configs link.router)) ≡ Some (length d.routers + s)
  into_subnet l link s at to =
      let within : s < length d.subnets = subst (IsFar d) to (all_at (IsDatabaseLink d) d.links fit.base.each_link l link at).far in
      let members = slice_index_or d.subnets s [] in
      let there : slice_get d.subnets s ≡ Some members = slice_get-get_or d.subnets s [] within in
      let member = is_member d s l link members fit.base at to there in
      ap (λ (e : LinkEnd). network_vertex_back lsas e.address (attaches (id_of configs link.router))) (chosen_is s members there)
      ∙ network_vertex configs d costs s members (attaches (id_of configs link.router)) fit there
      (lists_member ends members member.0 l (id_of configs link.router) member.1 (end_of_link l link at))
      ∙ ap (λ n. Some (n + s)) fit.count

  -- a link's edge
  one_edge : (l : ℕ) (link : Linked) (cost : ℕ) → slice_get d.links l ≡ Some link → told_edges (said_link configs chosen link cost) ≡ edge_of link cost ∷ []
  one_edge l link cost at = by_far link.to refl
    where
      by_far : (far : Far) → link.to ≡ far → link_edge lsas link.router (id_of configs link.router) (lsa_link configs chosen (end_of configs link) far cost)
          ≡ record { from = link.router; to = far_vertex (length d.routers) far; price = Fixed cost } ∷ []
      by_far (Router q) is = ap (edge_if_found link.router (Fixed cost)) (to_router l link q at is)
      by_far (Subnet s) is = ap (edge_if_found link.router (Fixed cost)) (into_subnet l link s at is)

  all_edges : (links : List Linked) (prices : List ℕ) →
      ((k : ℕ) (link : Linked) → slice_get links k ≡ Some link → (l : ℕ) × (slice_get d.links l ≡ Some link)) →
      length prices ≡ length links
      → flat_map told_edges (said_links configs chosen links prices) ≡ link_edges (length d.routers) links (map Fixed prices)
  all_edges [] prices there same = refl
  all_edges (link ∷ links) [] there same = absurd (omega arith)
  all_edges (link ∷ links) (cost ∷ prices) there same =
      let here = there 0 link refl in
      ap (λ es. es ++ flat_map told_edges (said_links configs chosen links prices)) (one_edge here.0 link cost here.1)
      ∙ ap (λ es. edge_of link cost ∷ es) (all_edges links prices (λ k x at. there (suc k) x at) (omega arith))

  -- the edges out of a router
  own_edges : (r : ℕ) (some : List OwnedLink) →
      flat_map (link_edge lsas r (id_of configs r)) (links_alone (own_links r some))
      ≡ flat_map told_edges (own_links r some)
  own_edges r [] = refl
  own_edges r (s ∷ some) = by_test (s.router == r) refl (own_edges r some)
    where
      by_test : (b : Bool) → (s.router == r) ≡ b →
          flat_map (link_edge lsas r (id_of configs r)) (links_alone (own_links r some))
          ≡ flat_map told_edges (own_links r some) →
          flat_map (link_edge lsas r (id_of configs r)) (links_alone (cond b (s ∷ own_links r some) (own_links r some)))
          ≡ flat_map told_edges (cond b (s ∷ own_links r some) (own_links r some))
      by_test true is rest =
          ap (λ es. link_edge lsas r (id_of configs r) s.link ++ es) rest
          ∙ ap (λ q. link_edge lsas q (id_of configs q) s.link ++ flat_map told_edges (own_links r some)) (sym (eqb-true s.router r is))
      by_test false is rest = rest

  routers_told : (first n : ℕ) → edges_in_order lsas first (map (own configs said) (numbers_from first n)) ≡ grouped told_edges first n said
  routers_told first zero = refl
  routers_told first (suc n) =
      ap (λ es. es ++ edges_in_order lsas (first + 1) (map (own configs said) (numbers_from (first + 1) n))) (own_edges first said)
      ∙ ap (λ es. flat_map told_edges (own_links first said) ++ es) (routers_told (first + 1) n)

  -- a member's edge
  member_edge : (s : ℕ) (members : List ℕ) → slice_get d.subnets s ≡ Some members → (k l : ℕ) → slice_get members k ≡ Some l →
      attached_edge lsas (length d.routers + s) (designated (member_ends ends members)).address (end_at ends l).router
      ≡ record { from = length d.routers + s; to = router_of d.links l; price = Zero } ∷ []
  member_edge s members there k l at =
      let into = member_leads d s members fit.base there k l at in
      let link : Linked = into.link in
      let priced = cost_there costs d.links l link one_each into.at in
      let id = (designated (member_ends ends members)).address in
      let within : link.router < length d.routers = (all_at (IsDatabaseLink d) d.links fit.base.each_link l link into.at).router in
      let vertex : router_vertex_back lsas (id_of configs link.router) (has_link 2 id) ≡ Some link.router =
      router_vertex configs d costs link.router (has_link 2 id) fit (below_count link.router within)
      (own_has configs said link.router 2 id l (said_link configs chosen link priced.0)
      (said_at configs chosen d.links costs l link priced.0 into.at priced.1) refl
      (ap (λ far. (lsa_link configs chosen (end_of configs link) far priced.0).kind) into.to)
      (ap (λ far. (lsa_link configs chosen (end_of configs link) far priced.0).id) into.to ∙ ap (λ (e : LinkEnd). e.address) (chosen_is s members there))) in
      ap (λ router. edge_if_found (length d.routers + s) Zero (router_vertex_back lsas router (has_link 2 id))) (end_of_link l link into.at)
      ∙ ap (edge_if_found (length d.routers + s) Zero) vertex
      ∙ ap (λ to. record { from = length d.routers + s; to = to; price = Zero } ∷ [])
      (sym (get_or_from_slice_get (map (λ (x : Linked). x.router) d.links) l link.router 0
      (at_map (λ (x : Linked). x.router) d.links l link into.at)))

  subnets_told : (s : ℕ) (subnets : List (List ℕ)) →
      ((k : ℕ) (members : List ℕ) → slice_get subnets k ≡ Some members → slice_get d.subnets (s + k) ≡ Some members)
      → edges_in_order lsas (length d.routers + s) (of_subnets ends subnets) ≡ subnet_edges d.links (length d.routers + s) subnets
  subnets_told s [] there = refl
  subnets_told s (members ∷ subnets) there =
      let v = length d.routers + s in
      let id = (designated (member_ends ends members)).address in
      let here : slice_get d.subnets s ≡ Some members = ap (slice_get d.subnets) (omega arith) ∙ there 0 members refl in
      let own : flat_map (attached_edge lsas v id) (routers_in (member_ends ends members))
      ≡ map (λ l. record { from = v; to = router_of d.links l; price = Zero }) members =
      flat_map-map (attached_edge lsas v id) (λ (e : LinkEnd). e.router) (member_ends ends members)
      ∙ flat_map-map (λ (e : LinkEnd). attached_edge lsas v id e.router) (end_at ends) members
      ∙ flat_ones (λ l. attached_edge lsas v id (end_at ends l).router)
      (λ l. record { from = v; to = router_of d.links l; price = Zero }) members (member_edge s members here) in
      let next : length d.routers + s + 1 ≡ length d.routers + (s + 1) = omega arith in
      ap (λ es. es ++ edges_in_order lsas (v + 1) (of_subnets ends subnets)) own
      ∙ ap (λ es. map (λ l. record { from = v; to = router_of d.links l; price = Zero }) members ++ es)
      (ap (λ n. edges_in_order lsas n (of_subnets ends subnets)) next
      ∙ subnets_told (s + 1) subnets (λ k ms at. ap (slice_get d.subnets) (omega arith) ∙ there (suc k) ms at)
      ∙ ap (λ n. subnet_edges d.links n subnets) (sym next))

  pub one_graph : lsa_graph lsas ≡ graph_at d (map Fixed costs)
  one_graph =
      let rs = routers_are configs d costs in
      let ns = networks_are configs d costs in
      let router_count : length (routers_among lsas) ≡ length d.routers = ap length rs ∙ own_length configs said ∙ fit.count in
      let network_count : length (networks_among lsas) ≡ length d.subnets = ap length ns ∙ length-map d.subnets (of_subnet ends) in
      let vertices : vertices_of (length (routers_among lsas)) (length (networks_among lsas)) ≡ vertices_of (length d.routers) (length d.subnets) =
      ap (λ n. vertices_of n (length (networks_among lsas))) router_count ∙ ap (vertices_of (length d.routers)) network_count in
      let first : edges_in_order lsas 0 (routers_among lsas) ≡ link_edges (length d.routers) d.links (map Fixed costs) =
      ap (edges_in_order lsas 0) rs
      ∙ routers_told 0 (length configs)
      ∙ in_groups told_edges 0 (length configs) said (said_order configs chosen d.links costs fit.base.in_order) (said_within configs d costs fit)
      ∙ all_edges d.links costs (λ k link at. (k, at)) one_each in
      let second : edges_in_order lsas (length (routers_among lsas)) (networks_among lsas) ≡ subnet_edges d.links (length d.routers) d.subnets =
      ap (λ (xs : List Lsa). edges_in_order lsas (length (routers_among lsas)) xs) ns
      ∙ ap (λ n. edges_in_order lsas n (of_subnets ends d.subnets)) (router_count ∙ omega arith)
      ∙ subnets_told 0 d.subnets (λ k ms at. ap (slice_get d.subnets) (zero-add k) ∙ at)
      ∙ ap (λ n. subnet_edges d.links n d.subnets) (omega arith) in
      let edges = ap (λ es. es ++ edges_in_order lsas (length (routers_among lsas)) (networks_among lsas)) first
      ∙ ap (λ es. link_edges (length d.routers) d.links (map Fixed costs) ++ es) second in
      λ i. record { vertices = vertices i; edges = edges i }
