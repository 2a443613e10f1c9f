-- An area at the costs at which it runs is one.
use Rattle.std.proofs.Common.{inl, inr, ◌≡◌, ◌≢◌, ℕ, zero, suc, ◌+◌, ◌<◌, ◌≤◌, refl, sym, ◌∙◌, ap, subst, List, [], ◌∷◌, length, map, arith, Bool, true, false, Option, Some, None}
use Rattle.std.specs.Prelude.{All, IfSome, filter, flat_map, is_some, slice_get, slice_index_or, ◌&&◌, ◌==◌}
use Rattle.std.specs.List.{AllByRecursion, list_any}
use Rattle.std.specs.Option.{option_map, option_or}
use Rattle.std.proofs.lemmas.List.{length-map}
use Rattle.std.proofs.lemmas.List.Elements.{All-map, All-weaker, All-head, All-tail}
use Rattle.std.proofs.lemmas.Option.{get_or_from_slice_get, slice_get-map}
use Rattle.std.proofs.lemmas.Bool.{cases_Bool, false≢true, or_parts}
use Rattle.cost_base.specs.Lists.{numbers_from}
use Rattle.cost_base.proofs.ListLemmas.{filter-numbers_from-agree, each_append, pairs_map}
use Rattle.interface_model.specs.Records.{Router}
use Rattle.lsdb_build.specs.declared.Far.{Far}
use Rattle.lsdb_build.specs.declared.Far.TheVariants.{Router as ToRouter, Subnet as ToSubnet}
use Rattle.lsdb_build.specs.declared.Linked.{Linked}
use Rattle.lsdb_build.specs.Graphs.{Database, IsAreaDatabase, IsDatabaseLink, IsFar, HasLinkBack, IsLinkBackOf, links_into_subnet, link_leads_to}
use Rattle.lsdb_build.proofs.Pairs.{at_map, map_at}
use Rattle.lsa_bytes.specs.declared.LsaLink.{LsaLink}
use Rattle.lsa_bytes.specs.declared.Body.{Body}
use Rattle.lsa_bytes.specs.declared.Body.TheVariants.{Links, Attached}
use Rattle.lsa_bytes.specs.declared.Lsa.{Lsa}
use Rattle.lsa_bytes.specs.Databases.{IsLsaDatabase, has_zero_metric, is_zero_link}
use Rattle.lsa_writer.specs.declared.ends.LinkEnd.{LinkEnd}
use Rattle.lsa_writer.specs.Ends.{end_of, router_id_in}
use Rattle.live_area.specs.declared.links.LiveLink.{LiveLink}
use Rattle.live_area.specs.LiveLinks.{is_area_link, live_links_among, live_links_in, live_links_of, is_link_named_so, metric_at, name_of_end}
use Rattle.live_area.specs.LiveCosts.{costed_by, costed_from, live_metric, metric_among, with_live_costs}

-- Metrics of links are above 0.

among_above : (router : ℕ) (links : List LsaLink) → list_any is_zero_link links ≡ false →
    AllByRecursion (λ (l : LiveLink). 0 < l.metric) (live_links_among router links)
among_above router [] none = tt
among_above router (link ∷ more) none =
    let parts = or_parts (is_zero_link link) (list_any is_zero_link more) none in
    let rest = among_above router more parts.1 in
    elim (cases_Bool (is_area_link link)) [
      | inl area ↦ rw area (above link.metric (and_false (is_area_link link) (link.metric == 0) area parts.0), rest)
      | inr other ↦ rw other rest
    ]
  where
    and_false : (a b : Bool) → a ≡ true → (a && b) ≡ false → b ≡ false
    and_false true b is none = none
    and_false false b is none = absurd (false≢true is)

    above : (m : ℕ) → (m == 0) ≡ false → 0 < m
    above zero none = absurd (false≢true (sym none))
    above (suc m) none = omega arith

of_lsa_above : (router : ℕ) (body : Body) → has_zero_metric body ≡ false → AllByRecursion (λ (l : LiveLink). 0 < l.metric) (live_links_in router body)
of_lsa_above router (Links links) none = among_above router links none
of_lsa_above router (Attached routers) none = tt

live_above : (lsas : List Lsa) → All (λ lsa. has_zero_metric lsa.body ≡ false) lsas →
    AllByRecursion (λ (l : LiveLink). 0 < l.metric) (flat_map live_links_of lsas)
live_above [] none = tt
live_above (lsa ∷ lsas) none =
    each_append (λ (l : LiveLink). 0 < l.metric) (live_links_of lsa) (flat_map live_links_of lsas)
    (of_lsa_above lsa.router lsa.body (All-head (λ (x : Lsa). has_zero_metric x.body ≡ false) lsa lsas none))
    (live_above lsas (All-tail (λ (x : Lsa). has_zero_metric x.body ≡ false) lsa lsas none))

metric_above : (end : LinkEnd) (live : List LiveLink) → AllByRecursion (λ (l : LiveLink). 0 < l.metric) live → IfSome (metric_at end live) (λ cost. 0 < cost)
metric_above end [] all = tt
metric_above end (link ∷ more) all =
    elim (cases_Bool (is_link_named_so (name_of_end end) link)) [
      | inl here ↦ rw here all.0
      | inr not_here ↦ rw not_here (metric_above end more all.1)
    ]

among_is_above : (configs : List Router) (live : List LiveLink) (link : Linked) → AllByRecursion (λ (l : LiveLink). 0 < l.metric) live →
    IfSome (metric_among configs live link) (λ cost. 0 < cost)
among_is_above configs live link all =
    elim (cases_Bool (is_some (router_id_in (slice_get configs link.router)))) [
      | inl has ↦ rw has (metric_above (end_of configs link) live all)
      | inr lacks ↦ rw lacks tt
    ]

-- Links one by one.

costed_are : (f : Linked → Option ℕ) (metrics : List (Option ℕ)) (l : ℕ) (links : List Linked) →
    ((k : ℕ) (link : Linked) → slice_get links k ≡ Some link → slice_index_or metrics (l + k) None ≡ f link) →
    costed_from metrics l links ≡ map (λ link. costed_by (f link) link) links
costed_are f metrics l [] each = refl
costed_are f metrics l (link ∷ links) each =
    let here : l ≡ l + 0 = omega arith in
    let head : slice_index_or metrics l None ≡ f link = ap (λ n. slice_index_or metrics n None) here ∙ each 0 link refl in
    let tail = costed_are f metrics (l + 1) links
    (λ k x at. let next : l + 1 + k ≡ l + suc k = omega arith in ap (λ n. slice_index_or metrics n None) next ∙ each (suc k) x at) in
    rw (head, tail) refl

metric_here : (f : Linked → Option ℕ) (links : List Linked) (k : ℕ) (link : Linked) → slice_get links k ≡ Some link →
    slice_index_or (map f links) k None ≡ f link
metric_here f links k link at = get_or_from_slice_get (map f links) k (f link) None (at_map f links k link at)

-- Areas with other costs above 0.

abbrev with_costs : (Linked → Option ℕ) → Database → Database
with_costs f d = record d { links = map (λ link. costed_by (f link) link) d.links }

cost_above : (metric cost : Option ℕ) → IfSome metric (λ c. 0 < c) → IfSome cost (λ c. 0 < c) → IfSome (option_or metric cost) (λ c. 0 < c)
cost_above None cost first second = second
cost_above (Some m) cost first second = first

far_stays : (f : Linked → Option ℕ) (d : Database) (far : Far) → IsFar d far → IsFar (with_costs f d) far
far_stays f d (ToRouter r) is = is
far_stays f d (ToSubnet s) is = is

link_stays : (f : Linked → Option ℕ) (d : Database) (link : Linked) → IfSome (f link) (λ c. 0 < c) → IsDatabaseLink d link →
    IsDatabaseLink (with_costs f d) (costed_by (f link) link)
link_stays f d link above is = record {
  router = is.router;
  name = is.name;
  cost = cost_above (f link) link.cost above is.cost;
  far = far_stays f d link.to is.far;
}

back_of : (f : Linked → Option ℕ) (l : ℕ) (link : Linked) (o : Option Linked) → IsLinkBackOf l link o →
    IsLinkBackOf l (costed_by (f link) link) (option_map (λ x. costed_by (f x) x) o)
back_of f l link None is = is
back_of f l link (Some other) is = is

back_stays : (f : Linked → Option ℕ) (d : Database) (l : ℕ) (link : Linked) (far : Far) (back : Option ℕ) → HasLinkBack d l link far back →
    HasLinkBack (with_costs f d) l (costed_by (f link) link) far back
back_stays f d l link (ToRouter r) (Some m) has = (
  has.0,
  subst (λ (o : Option Linked). IsLinkBackOf l (costed_by (f link) link) o) (sym (slice_get-map (λ x. costed_by (f x) x) d.links m))
      (back_of f l link (slice_get d.links m) has.1),
)
back_stays f d l link (ToRouter r) None has = has
back_stays f d l link (ToSubnet s) None has = has
back_stays f d l link (ToSubnet s) (Some m) has = has

leads_stay : (f : Linked → Option ℕ) (s : ℕ) (o : Option Linked) → link_leads_to s (option_map (λ x. costed_by (f x) x) o) ≡ link_leads_to s o
leads_stay f s None = refl
leads_stay f s (Some link) = refl

members_stay : (f : Linked → Option ℕ) (d : Database) (s : ℕ) → links_into_subnet (with_costs f d) s ≡ links_into_subnet d s
members_stay f d s =
    ap (λ n. filter (λ l. link_leads_to s (slice_get (map (λ x. costed_by (f x) x) d.links) l)) (numbers_from 0 n))
    (length-map d.links (λ x. costed_by (f x) x))
    ∙ filter-numbers_from-agree (λ l. link_leads_to s (slice_get (map (λ x. costed_by (f x) x) d.links) l)) (λ l. link_leads_to s (slice_get d.links l)) 0
    (length d.links)
    (λ l from below. ap (link_leads_to s) (slice_get-map (λ x. costed_by (f x) x) d.links l) ∙ leads_stay f s (slice_get d.links l))

area_stays : (f : Linked → Option ℕ) (d : Database) → ((link : Linked) → IfSome (f link) (λ c. 0 < c)) → IsAreaDatabase d → IsAreaDatabase (with_costs f d)
area_stays f d above base = record {
  routers = base.routers;
  links = subst (λ n. n ≤ 4000) (sym (length-map d.links (λ x. costed_by (f x) x))) base.links;
  subnets = base.subnets;
  each_link = All-map (IsDatabaseLink (with_costs f d)) (λ x. costed_by (f x) x) d.links
      (All-weaker (IsDatabaseLink d) (λ x. IsDatabaseLink (with_costs f d) (costed_by (f x) x)) (λ x is. link_stays f d x (above x) is) d.links base.each_link);
  links_back = λ l link at.
      let before = map_at (λ x. costed_by (f x) x) d.links l link at in
      subst (λ (x : Linked). HasLinkBack (with_costs f d) l x x.to x.link_back) (sym before.2)
      (back_stays f d l before.0 before.0.to before.0.link_back (base.links_back l before.0 before.1));
  in_order = pairs_map (λ a b. a.router ≤ b.router) (λ x. costed_by (f x) x) d.links base.in_order;
  names = pairs_map (λ a b. a.router ≡ b.router → a.interface ≢ b.interface) (λ x. costed_by (f x) x) d.links base.names;
  router_names = base.router_names;
  different = base.different;
  members = λ s below. base.members s below ∙ sym (members_stay f d s);
}

-- an area with the costs at which it runs is one
pub running_is_area : (configs : List Router) (lsas : List Lsa) (d : Database) → IsLsaDatabase lsas → IsAreaDatabase d →
    IsAreaDatabase (with_live_costs configs lsas d)
running_is_area configs lsas d kept base =
    area_stays (live_metric configs lsas) d (λ link. among_is_above configs (flat_map live_links_of lsas) link (live_above lsas kept.faultless.metrics)) base

-- what was made of an area's links is that area with the costs at which it runs
pub running_is : (configs : List Router) (lsas : List Lsa) (d : Database) (olds news : List Linked) (metrics : List (Option ℕ)) → olds ≡ d.links →
    metrics ≡ map (live_metric configs lsas) olds → news ≡ costed_from metrics 0 olds →
    ◌≡◌ {A = Database} (record { routers = d.routers; links = news; subnets = d.subnets }) (with_live_costs configs lsas d)
running_is configs lsas d olds news metrics are told made =
    let f = live_metric configs lsas in
    ap (λ (links : List Linked). record { routers = d.routers; links = links; subnets = d.subnets })
    (made ∙ costed_are f metrics 0 olds (λ k link at. let here : 0 + k ≡ k = omega arith in ap (λ n. slice_index_or metrics n None) here
    ∙ ap (λ (ms : List (Option ℕ)). slice_index_or ms k None) told ∙ metric_here f olds k link at)
    ∙ ap (map (λ link. costed_by (f link) link)) are)
