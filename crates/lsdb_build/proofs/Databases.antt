-- The database of faultless configurations is one: links have other ends, and a subnet's members are the links that
-- lead to it.
use Rattle.std.proofs.Common.{◌≡◌, ◌≢◌, ℕ, zero, suc, ◌+◌, ◌<◌, ◌≤◌, ◌==◌, ◌⊎◌, inl, inr, Bool, true, false, cond, not, eq-eqb, List, [], ◌∷◌, Some, None, length, map, count_by, refl, sym, ap, ◌∙◌, subst, arith, zero-add, slice_get, slice_index_or, All, AllPairs, unwrap_or}
use Rattle.std.specs.List.{filter}
use Rattle.std.proofs.lemmas.Bool.{false≢true, and_parts, and_from, and_right, cases_Bool, eqb-true, ne_eqb, false_from_ne_true, cases_order}
use Rattle.std.proofs.lemmas.Option.{none-some, same_Some, slice_get_within, slice_get-get_or}
use Rattle.std.proofs.lemmas.List.{length-map}
use Rattle.std.proofs.lemmas.List.Elements.{All-weaker, All-filter, All-map, filter_passes}
use Rattle.std.proofs.lemmas.List.Kept.{AllPairs-filter}
use Rattle.std.proofs.lemmas.List.Sums.{length-filter, count_by-le-length}
use Rattle.cost_base.specs.Lists.{numbers_from}
use Rattle.cost_base.specs.Words.{IsWord}
use Rattle.cost_base.proofs.ListLemmas.{pairs_map}
use Rattle.interface_model.specs.declared.Kind.{Kind}
use Rattle.interface_model.specs.declared.Kind.TheVariants.{PointToPoint, Broadcast}
use Rattle.interface_model.specs.Records.{Router, IsRouter}
use Rattle.lsdb_build.specs.declared.Far.TheVariants.{Router as ToRouter}
use Rattle.lsdb_build.specs.Neighbours.{Port, ports, shares_subnet, is_linked, is_linked_kind, linked, is_broadcast, is_broadcast_kind, transit_subnets, place_from, is_port, is_other}
use Rattle.lsdb_build.specs.Graphs.{IsAreaDatabase, IsDatabaseLink, IsFar, HasLinkBack, IsLinkBackOf, link_leads_to, leads_to, links_into_subnet}
use Rattle.lsdb_build.specs.Topology.{is_second_of_router, is_second_of_address, is_mismatch, is_crowding, is_overlap, lacks_designated, first_where, at_port, at_config, past, second_of_name, topology_fault, link_of, places_from, database_of}
use Rattle.lsdb_build.specs.Links.{router_at, far_among, link_back_among}
use Rattle.lsdb_build.proofs.Pairs.{all_at, all_from_at, pair_at, pairs_weaker, map_at, at_map, count_agree, count_filter, other_place}
use Rattle.lsdb_build.proofs.Subnets.{shares_itself, shares_back, shares_on, shares_alike, none_passes, differs_in_kind, kinds_at, place_only, firsts_all, firsts_length, firsts_are_first, FirstOf, first_found}
use Rattle.lsdb_build.specs.declared.fault.TopologyFault.TheVariants.{TooMany, NameTwice, SameRouterTwice, AddressTwice, TypeMismatch, CrowdedLink, NoDesignated, OverlapPrefix}
use Rattle.lsdb_build.proofs.PortFacts.{IsPortFrom, InOrder, ports_from_all, ports_from_pairs, no_first, no_port, no_config, within, none_past, names_differ}

-- what the interfaces of a topology without a fault keep
pub record IsSound (routers : ℕ) (all : List Port) : Type 0 where
  pub each : All (IsPortFrom 0 routers) all
  pub in_order : AllPairs InOrder all
  pub addresses : AllPairs (λ a b. (a.address == b.address) ≡ false) all
  pub kinds : AllPairs (λ a b. differs_in_kind a b ≡ false) all

pub sound_linked : (n : ℕ) (all : List Port) → IsSound n all → IsSound n (linked all)
sound_linked n all sound =
    record {
      each = All-filter (is_linked all) (IsPortFrom 0 n) all sound.each;
      in_order = AllPairs-filter InOrder (is_linked all) all sound.in_order;
      addresses = AllPairs-filter (λ a b. (a.address == b.address) ≡ false) (is_linked all) all sound.addresses;
      kinds = AllPairs-filter (λ a b. differs_in_kind a b ≡ false) (is_linked all) all sound.kinds;
    }

-- Other ends

-- two places of different addresses hold different interfaces
apart_ports : (xs : List Port) → AllPairs (λ a b. (a.address == b.address) ≡ false) xs → (i j : ℕ) (p q : Port) →
    i ≢ j → slice_get xs i ≡ Some p → slice_get xs j ≡ Some q → is_port p q ≡ false
apart_ports xs pairs i j p q apart at_i at_j = and_right (p.router == q.router) (p.address == q.address) (by_order (cases_order i j))
  where
    by_order : (i ≡ j) ⊎ ((i < j) ⊎ (j < i)) → (p.address == q.address) ≡ false
    by_order (inl same) = absurd (apart same)
    by_order (inr (inl below)) = pair_at (λ a b. (a.address == b.address) ≡ false) xs pairs i j p q below at_i at_j
    by_order (inr (inr above)) = ne_eqb p.address q.address
        (λ h. false≢true (sym (pair_at (λ a b. (a.address == b.address) ≡ false) xs pairs j i q p above at_j at_i)
        ∙ eq-eqb q.address p.address (sym h)))

is_port_itself : (p : Port) → is_port p p ≡ true
is_port_itself p = and_from _ _ (eq-eqb p.router p.router refl) (eq-eqb p.address p.address refl)

-- the place of the other interface, where two places share a subnet
other_is : (xs : List Port) → AllPairs (λ a b. (a.address == b.address) ≡ false) xs → (l m : ℕ) (p q : Port) → m ≢ l →
    slice_get xs l ≡ Some p → slice_get xs m ≡ Some q → shares_subnet p q ≡ true →
    ((k : ℕ) (z : Port) → slice_get xs k ≡ Some z → shares_subnet p z ≡ true → (k ≡ l) ⊎ (k ≡ m)) →
    place_from 0 (is_other p) xs ≡ Some m
other_is xs pairs l m p q apart at_l at_m shares only =
    place_only (is_other p) 0 xs m q at_m
    (and_from _ _ shares (ap not (apart_ports xs pairs l m p q (λ h. apart (sym h)) at_l at_m))) only_other
    ∙ ap Some (zero-add m)
  where
    only_other : (k : ℕ) (z : Port) → slice_get xs k ≡ Some z → is_other p z ≡ true → k ≡ m
    only_other k z at_k passes =
        let parts = and_parts (shares_subnet p z) (not (is_port p z)) passes in
        elim (only k z at_k parts.0) [
          | inl is_l ↦
              let same : p ≡ z = same_Some p z (sym at_l ∙ ap (slice_get xs) (sym is_l) ∙ at_k) in
              absurd (false≢true (sym (ap not (ap (is_port p) (sym same) ∙ is_port_itself p)) ∙ parts.1))
          | inr is_m ↦ is_m
        ]

-- the other end of a link over a point-to-point subnet
pub record LinkBackOf (xs : List Port) (l : ℕ) (p : Port) : Type 0 where
  pub place : ℕ
  pub port : Port
  pub apart : place ≢ l
  pub at : slice_get xs place ≡ Some port
  pub kind : port.interface.kind ≡ PointToPoint
  pub forth : place_from 0 (is_other p) xs ≡ Some place
  pub back : place_from 0 (is_other port) xs ≡ Some l

-- members of one subnet are linked alike
linked_alike : (n : ℕ) (all : List Port) → IsSound n all → (i : ℕ) (p : Port) → slice_get all i ≡ Some p →
    is_linked all p ≡ true → All (λ q. shares_subnet p q ≡ true → is_linked all q ≡ true) all
linked_alike n all sound i p at is =
    all_from_at (λ q. shares_subnet p q ≡ true → is_linked all q ≡ true) all (λ k q at_k shares.
    sym (ap (λ kind. is_linked_kind kind (count_by (shares_subnet p) all))
    (kinds_at all sound.kinds i k p q at at_k shares)
    ∙ ap (is_linked_kind q.interface.kind)
    (count_agree (shares_subnet p) (shares_subnet q) (shares_alike p q shares) all)) ∙ is)

kept_by : (f : Port → Bool) (b : Bool) (x : Port) (xs : List Port) (k : ℕ) (p : Port) →
    ((j : ℕ) → slice_get (filter f xs) j ≡ Some p → (i : ℕ) × (slice_get xs i ≡ Some p)) →
    slice_get (cond b (x ∷ filter f xs) (filter f xs)) k ≡ Some p → (i : ℕ) × (slice_get (x ∷ xs) i ≡ Some p)
kept_by f true x xs zero p later at = (0, at)
kept_by f true x xs (suc k) p later at = let rest = later k at in (suc rest.0, rest.1)
kept_by f false x xs k p later at = let rest = later k at in (suc rest.0, rest.1)

-- a kept element of a filter stands in the list
kept_at : (f : Port → Bool) (xs : List Port) (k : ℕ) (p : Port) → slice_get (filter f xs) k ≡ Some p → (i : ℕ) × (slice_get xs i ≡ Some p)
kept_at f [] k p at = absurd (none-some p at)
kept_at f (x ∷ xs) k p at = kept_by f (f x) x xs k p (λ j at_j. kept_at f xs j p at_j) at

pub link_back_found : (n : ℕ) (all : List Port) → IsSound n all → (l : ℕ) (p : Port) → slice_get (linked all) l ≡ Some p →
    p.interface.kind ≡ PointToPoint → LinkBackOf (linked all) l p
link_back_found n all sound l p at kind =
    let kept = sound_linked n all sound in
    let is : is_linked all p ≡ true = all_at (λ v. is_linked all v ≡ true) (linked all) (filter_passes (is_linked all) all) l p at in
    let source = kept_at (is_linked all) all l p at in
    let two : count_by (shares_subnet p) all ≡ 2 =
    eqb-true (count_by (shares_subnet p) all) 2
    (ap (λ k. is_linked_kind k (count_by (shares_subnet p) all)) (sym kind) ∙ is) in
    let count : count_by (shares_subnet p) (linked all) ≡ 2 =
    count_filter (shares_subnet p) (is_linked all) all (linked_alike n all sound source.0 p source.1 is) ∙ two in
    let other = other_place (shares_subnet p) (linked all) count l p at (shares_itself p) in
    let q = other.item in
    record {
      place = other.place;
      port = q;
      apart = other.apart;
      at = other.at;
      kind = sym (kinds_at (linked all) kept.kinds l other.place p q at other.at other.passes) ∙ kind;
      forth = other_is (linked all) kept.addresses l other.place p q other.apart at other.at other.passes other.only;
      back = other_is (linked all) kept.addresses other.place l q p (λ h. other.apart (sym h)) other.at at
          (shares_back p q other.passes)
          (λ k z at_k shares. (elim (other.only k z at_k (shares_on p q z other.passes shares))
          [ inl one ↦ inr one | inr two ↦ inl two ]));
    }

router_at_is : (xs : List Port) (m : ℕ) (q : Port) → slice_get xs m ≡ Some q → router_at xs (Some m) ≡ q.router
router_at_is [] m q at = absurd (none-some q at)
router_at_is (x ∷ xs) zero q at = ap (λ (v : Port). v.router) (same_Some x q at)
router_at_is (x ∷ xs) (suc m) q at = router_at_is xs m q at

-- Members

-- the subnet of a linked broadcast interface among the transit subnets
pub subnet_found : (n : ℕ) (all : List Port) → IsSound n all → (l : ℕ) (p : Port) → slice_get (linked all) l ≡ Some p →
    p.interface.kind ≡ Broadcast → FirstOf p (transit_subnets all)
subnet_found n all sound l p at kind =
    let kept = sound_linked n all sound in
    elim (first_found [] (linked all) l p at (all_from_at (λ q. shares_subnet p q ≡ true → is_broadcast q ≡ true) (linked all) (λ k q at_k shares.
    ap is_broadcast_kind (sym (kinds_at (linked all) kept.kinds l k p q at at_k shares) ∙ kind)))) [
      | inl found ↦ found
      | inr none ↦ absurd (false≢true none)
    ]

-- an interface's subnet has one place among the transit subnets
pub subnet_place : (all : List Port) (p : Port) (s : ℕ) (f : Port) → slice_get (transit_subnets all) s ≡ Some f →
    shares_subnet p f ≡ true → place_from 0 (shares_subnet p) (transit_subnets all) ≡ Some s
subnet_place all p s f at shares =
    place_only (shares_subnet p) 0 (transit_subnets all) s f at shares only ∙ ap Some (zero-add s)
  where
    only : (k : ℕ) (z : Port) → slice_get (transit_subnets all) k ≡ Some z → shares_subnet p z ≡ true → k ≡ s
    only k z at_k does = by_order (cases_order k s)
      where
        apart : AllPairs (λ a b. shares_subnet a b ≡ false) (transit_subnets all)
        apart = (firsts_are_first [] (linked all)).apart

        by_order : (k ≡ s) ⊎ ((k < s) ⊎ (s < k)) → k ≡ s
        by_order (inl same) = same
        by_order (inr (inl below)) = absurd
            (false≢true (sym (pair_at (λ a b. shares_subnet a b ≡ false) (transit_subnets all) apart k s z f below at_k
            at) ∙ shares_on z p f (shares_back p z does) shares))
        by_order (inr (inr above)) = absurd
            (false≢true (sym (pair_at (λ a b. shares_subnet a b ≡ false) (transit_subnets all) apart s k f z above at
            at_k) ∙ shares_on f p z (shares_back p f shares) does))

-- a link leads to a transit subnet exactly where its interface shares the subnet
pub leads_where_shares : (n : ℕ) (all : List Port) → IsSound n all → (s : ℕ) (f : Port) →
    slice_get (transit_subnets all) s ≡ Some f → (l : ℕ) (p : Port) → slice_get (linked all) l ≡ Some p →
    shares_subnet f p ≡ leads_to s (far_among (linked all) (transit_subnets all) p p.interface.kind)
leads_where_shares n all sound s f at_s l p at_l = by_kind p.interface.kind refl
  where
    kept : IsSound n (linked all)
    kept = sound_linked n all sound

    -- a first member's subnet holds broadcast interfaces alone
    broadcast : All (λ v. (k : ℕ) (q : Port) → slice_get (linked all) k ≡ Some q → shares_subnet v q ≡ true → v.interface.kind ≡ q.interface.kind) (linked all)
    broadcast = all_from_at (λ v. (k : ℕ) (q : Port) → slice_get (linked all) k ≡ Some q → shares_subnet v q ≡ true →
        v.interface.kind ≡ q.interface.kind) (linked all)
        (λ i v at_i k q at_k shares. kinds_at (linked all) kept.kinds i k v q at_i at_k shares)

    by_kind : (kind : Kind) → p.interface.kind ≡ kind → shares_subnet f p ≡ leads_to s (far_among (linked all) (transit_subnets all) p kind)
    by_kind PointToPoint is = false_from_ne_true (shares_subnet f p) (λ shares.
        (let same = all_at (λ v. (k : ℕ) (q : Port) → slice_get (linked all) k ≡ Some q → shares_subnet v q ≡ true →
        v.interface.kind ≡ q.interface.kind) (transit_subnets all)
        (firsts_all (λ v. (k : ℕ) (q : Port) → slice_get (linked all) k ≡ Some q → shares_subnet v q ≡ true →
        v.interface.kind ≡ q.interface.kind) [] (linked all) broadcast) s f at_s l p at_l shares in
        false≢true (sym (ap is_broadcast_kind (same ∙ is))
        ∙ all_at (λ v. is_broadcast v ≡ true) (transit_subnets all) (firsts_are_first [] (linked all)).broadcast
        s f at_s)))
    by_kind Broadcast is =
        let found = subnet_found n all sound l p at_l is in
        let place = subnet_place all p found.place found.item found.at found.shares in
        elim (cases_Bool (shares_subnet f p)) [
          | inl shares ↦ shares ∙ sym (ap (λ o. unwrap_or o 0 == s) (subnet_place all p s f at_s (shares_back f p shares)) ∙ eq-eqb s s refl)
          | inr apart ↦ apart ∙ sym (ap (λ o. unwrap_or o 0 == s) place
              ∙ ne_eqb found.place s (λ same.
              false≢true (sym apart ∙ shares_back p f
              (subst (λ v. shares_subnet p v ≡ true)
              (same_Some found.item f (sym found.at ∙ ap (slice_get (transit_subnets all)) same ∙ at_s))
              found.shares))))
        ]

-- the places that pass are the numbers that pass
places_are : (h : ℕ → Bool) (test : Port → Bool) (n : ℕ) (xs : List Port) →
    ((k : ℕ) (x : Port) → slice_get xs k ≡ Some x → h (n + k) ≡ test x) →
    places_from n test xs ≡ filter h (numbers_from n (length xs))
places_are h test n [] same = refl
places_are h test n (x ∷ xs) same =
    let here : h n ≡ test x = ap h (omega arith) ∙ same 0 x refl in
    let rest = places_are h test (n + 1) xs (λ k y at. ap h (omega arith) ∙ same (suc k) y at) in
    ap (λ b. cond b (n ∷ places_from (n + 1) test xs) (places_from (n + 1) test xs)) (sym here) ∙ ap (λ ns. cond (h n) (n ∷ ns) ns) rest

-- where the link of a point-to-point subnet leads
far_is : (all : List Port) (l : ℕ) (p : Port) → p.interface.kind ≡ PointToPoint → (m : ℕ) (q : Port) →
    place_from 0 (is_other p) (linked all) ≡ Some m → slice_get (linked all) m ≡ Some q →
    far_among (linked all) (transit_subnets all) p p.interface.kind ≡ ToRouter q.router
far_is all l p kind m q place at =
    ap (far_among (linked all) (transit_subnets all) p) kind ∙ ap (λ o. ToRouter (router_at (linked all) o)) place ∙
    ap ToRouter (router_at_is (linked all) m q at)

-- each link has its other end, or leads to a subnet and has none
link_has_link_back : (area : ℕ) (routers : List Router) → IsSound (0 + length routers) (ports area routers) →
    (l : ℕ) (p : Port) → slice_get (linked (ports area routers)) l ≡ Some p →
    HasLinkBack (database_of area routers) l (link_of (ports area routers) p)
    (far_among (linked (ports area routers)) (transit_subnets (ports area routers)) p p.interface.kind)
    (link_back_among (linked (ports area routers)) p p.interface.kind)
link_has_link_back area routers sound l p at = by_kind p.interface.kind refl
  where
    by_kind : (kind : Kind) → p.interface.kind ≡ kind →
        HasLinkBack (database_of area routers) l (link_of (ports area routers) p)
        (far_among (linked (ports area routers)) (transit_subnets (ports area routers)) p kind)
        (link_back_among (linked (ports area routers)) p kind)
    by_kind PointToPoint is =
        let all = ports area routers in
        let m = link_back_found (0 + length routers) all sound l p at is in
        let other : IsLinkBackOf l (link_of all p) (Some (link_of all m.port)) = (
          ap (link_back_among (linked all) m.port) m.kind ∙ m.back,
          far_is all l p is m.place m.port m.forth m.at,
          far_is all m.place m.port m.kind l p m.back at,
        ) in
        subst (λ o. HasLinkBack (database_of area routers) l (link_of all p) (ToRouter (router_at (linked all) o)) o) (sym m.forth)
        (m.apart, subst (IsLinkBackOf l (link_of all p)) (sym (at_map (link_of all) (linked all) m.place m.port m.at)) other)
    by_kind Broadcast is = tt

link_is_far : (area : ℕ) (routers : List Router) → IsSound (0 + length routers) (ports area routers) →
    (l : ℕ) (p : Port) → slice_get (linked (ports area routers)) l ≡ Some p →
    IsFar (database_of area routers) (far_among (linked (ports area routers)) (transit_subnets (ports area routers)) p p.interface.kind)
link_is_far area routers sound l p at = by_kind p.interface.kind refl
  where
    by_kind : (kind : Kind) → p.interface.kind ≡ kind →
        IsFar (database_of area routers) (far_among (linked (ports area routers)) (transit_subnets (ports area routers)) p kind)
    by_kind PointToPoint is =
        let all = ports area routers in
        let m = link_back_found (0 + length routers) all sound l p at is in
        let known = all_at (IsPortFrom 0 (0 + length routers)) (linked all) (sound_linked (0 + length routers) all sound).each m.place m.port m.at in
        subst (λ r. r < length (map (λ (v : Router). v.name) routers))
        (sym (ap (router_at (linked all)) m.forth ∙ router_at_is (linked all) m.place m.port m.at))
        (omega (arith, known.below, length-map routers (λ (v : Router). v.name)))
    by_kind Broadcast is =
        let all = ports area routers in
        let found = subnet_found (0 + length routers) all sound l p at is in
        let place = subnet_place all p found.place found.item found.at found.shares in
        subst (λ o. unwrap_or o 0 < length (map (λ first. places_from 0 (shares_subnet first) (linked all)) (transit_subnets all))) (sym place)
        (omega (
          arith,
          slice_get_within (transit_subnets all) found.place found.item found.at,
          length-map (transit_subnets all) (λ first. places_from 0 (shares_subnet first) (linked all)),
        ))

-- what a topology without a fault tells, as far as its database needs it
pub record IsFaultless (area : ℕ) (routers : List Router) : Type 0 where
  pub few : past 1000 (length routers) ≡ None
  pub few_ports : slice_get (ports area routers) 4000 ≡ None
  pub names : second_of_name [] 0 routers ≡ None
  pub addresses : first_where is_second_of_address [] (ports area routers) ≡ None
  pub kinds : first_where is_mismatch [] (ports area routers) ≡ None

pub faultless : (area : ℕ) (routers : List Router) → topology_fault area routers ≡ None → IsFaultless area routers
faultless area routers h =
    let all = ports area routers in
    let overlap = at_port OverlapPrefix (first_where is_overlap [] all) ∷ [] in
    let designated = at_port NoDesignated (first_where (λ before p. lacks_designated all p) [] (transit_subnets all)) ∷ overlap in
    let crowded = at_port CrowdedLink (first_where is_crowding [] all) ∷ designated in
    let kinds = at_port TypeMismatch (first_where is_mismatch [] all) ∷ crowded in
    let addresses = at_port AddressTwice (first_where is_second_of_address [] all) ∷ kinds in
    let twice = at_port SameRouterTwice (first_where is_second_of_router [] all) ∷ addresses in
    let names = at_config NameTwice (second_of_name [] 0 routers) ∷ twice in
    let ports = at_port TooMany (slice_get all 4000) ∷ names in
    let one = no_first (at_config TooMany (past 1000 (length routers))) ports h in
    let two = no_first (at_port TooMany (slice_get all 4000)) names one.1 in
    let three = no_first (at_config NameTwice (second_of_name [] 0 routers)) twice two.1 in
    let four = no_first (at_port SameRouterTwice (first_where is_second_of_router [] all)) addresses three.1 in
    let five = no_first (at_port AddressTwice (first_where is_second_of_address [] all)) kinds four.1 in
    let six = no_first (at_port TypeMismatch (first_where is_mismatch [] all)) crowded five.1 in
    record {
      few = no_config TooMany (past 1000 (length routers)) one.0;
      few_ports = no_port TooMany (slice_get all 4000) two.0;
      names = no_config NameTwice (second_of_name [] 0 routers) three.0;
      addresses = no_port AddressTwice (first_where is_second_of_address [] all) five.0;
      kinds = no_port TypeMismatch (first_where is_mismatch [] all) six.0;
    }

-- the interfaces of faultless configurations
pub ports_sound : (area : ℕ) (routers : List Router) → topology_fault area routers ≡ None → All IsRouter routers →
    IsSound (0 + length routers) (ports area routers)
ports_sound area routers h valid =
    let all = ports area routers in
    let known = faultless area routers h in
    record {
      each = ports_from_all area 0 routers valid;
      in_order = ports_from_pairs area 0 routers valid;
      addresses = (none_passes (λ q p. q.address == p.address) [] all known.addresses).pairs;
      kinds = (none_passes differs_in_kind [] all known.kinds).pairs;
    }

-- at most so many linked interfaces and transit subnets as interfaces
pub linked_length : (all : List Port) → length (linked all) ≤ length all
linked_length all = omega (arith, length-filter (is_linked all) all, count_by-le-length (is_linked all) all)

pub transit_length : (all : List Port) → length (transit_subnets all) ≤ length all
transit_length all = omega (arith, firsts_length [] (linked all), linked_length all)

-- the members of a subnet are the links that lead to it, in order
members_are : (area : ℕ) (routers : List Router) → IsSound (0 + length routers) (ports area routers) → (s : ℕ) →
    s < length (database_of area routers).subnets → slice_index_or (database_of area routers).subnets s []
    ≡ links_into_subnet (database_of area routers) s
members_are area routers sound s within =
    let all = ports area routers in
    let d = database_of area routers in
    let first = map_at (λ f. places_from 0 (shares_subnet f) (linked all)) (transit_subnets all) s
    (slice_index_or d.subnets s []) (slice_get-get_or d.subnets s [] within) in
    first.2
    ∙ places_are (λ l. link_leads_to s (slice_get d.links l)) (shares_subnet first.0) 0 (linked all) (λ k p at.
    ap (λ i. link_leads_to s (slice_get d.links i)) (zero-add k)
    ∙ ap (link_leads_to s) (at_map (link_of all) (linked all) k p at)
    ∙ sym (leads_where_shares (0 + length routers) all sound s first.0 first.1 k p at))
    ∙ ap (λ n. filter (λ l. link_leads_to s (slice_get d.links l)) (numbers_from 0 n)) (sym (length-map (linked all) (link_of all)))

-- the database of faultless configurations is one
pub database_is : (area : ℕ) (routers : List Router) → topology_fault area routers ≡ None → All IsRouter routers → IsAreaDatabase (database_of area routers)
database_is area routers h valid =
    let all = ports area routers in
    let d = database_of area routers in
    let sound = ports_sound area routers h valid in
    let kept = sound_linked (0 + length routers) all sound in
    let known = faultless area routers h in
    let few = within 1000 (length routers) known.few in
    let few_ports = none_past all 4000 known.few_ports in
    record {
      routers = omega (arith, few, length-map routers (λ (r : Router). r.name));
      links = omega (arith, few_ports, linked_length all, length-map (linked all) (link_of all));
      subnets = omega (arith, few_ports, transit_length all, length-map (transit_subnets all) (λ first. places_from 0 (shares_subnet first) (linked all)));
      each_link = All-map (IsDatabaseLink d) (link_of all) (linked all) (all_from_at (λ p. IsDatabaseLink d (link_of all p)) (linked all) (λ l p at.
          (let port = all_at (IsPortFrom 0 (0 + length routers)) (linked all) kept.each l p at in
          record {
            router = omega (arith, port.below, length-map routers (λ (r : Router). r.name));
            name = port.interface.name;
            cost = port.interface.cost;
            far = link_is_far area routers sound l p at;
          })));
      links_back = λ l link at. (let found = map_at (link_of all) (linked all) l link at in
          subst (λ v. HasLinkBack d l v v.to v.link_back) (sym found.2) (link_has_link_back area routers sound l found.0 found.1));
      in_order = pairs_map (λ a b. a.router ≤ b.router) (link_of all) (linked all)
          (pairs_weaker InOrder (λ a b. a.router ≤ b.router) (λ a b k. k.routers) (linked all) kept.in_order);
      names = pairs_map (λ a b. a.router ≡ b.router → a.interface ≢ b.interface) (link_of all) (linked all)
          (pairs_weaker InOrder (λ a b. a.router ≡ b.router → a.interface.name ≢ b.interface.name) (λ a b k. k.names)
          (linked all) kept.in_order);
      router_names = All-map IsWord (λ (r : Router). r.name) routers (All-weaker IsRouter (λ r. IsWord r.name) (λ r k. k.name) routers valid);
      different = (names_differ [] 0 routers known.names).pairs;
      members = members_are area routers sound;
    }
