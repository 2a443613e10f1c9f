-- The topology of an area doesn't depend on the interfaces' costs: with other costs the database has other costs, and
-- nothing else changes; and the first fault is the same.
use Rattle.std.proofs.Common.{◌≡◌, ℕ, zero, suc, ◌+◌, refl, sym, ◌∙◌, ap, List, [], ◌∷◌, ◌++◌, length, map, Bool, true, false, cond, Option, Some, None}
use Rattle.std.specs.Prelude.{filter, unwrap_or, not, slice_get, ◌&&◌, ◌||◌, ◌==◌, nat_le}
use Rattle.std.specs.List.{list_any}
use Rattle.std.specs.Option.{option_map}
use Rattle.std.proofs.lemmas.List.{map-append}
use Rattle.std.proofs.lemmas.Simd.{map-map}
use Rattle.std.proofs.lemmas.List.Elements.{filter_agree}
use Rattle.std.proofs.lemmas.List.Folds.{fold-map, list_all-map}
use Rattle.std.proofs.lemmas.Option.{slice_get-map}
use Rattle.cost_base.specs.Lists.{same_bytes}
use Rattle.cost_base.proofs.ListLemmas.{list_any-map}
use Rattle.area_graph.specs.declared.Price.{Price}
use Rattle.area_graph.specs.declared.Price.TheVariants.{Zero}
use Rattle.area_graph.specs.declared.Edge.{Edge}
use Rattle.interface_model.specs.declared.Interface.{Interface}
use Rattle.interface_model.specs.declared.Kind.{Kind}
use Rattle.interface_model.specs.declared.Kind.TheVariants.{PointToPoint, Broadcast}
use Rattle.interface_model.specs.Records.{Router}
use Rattle.lsdb_build.specs.declared.Far.{Far}
use Rattle.lsdb_build.specs.declared.Far.TheVariants.{Router as ToRouter, Subnet as ToSubnet}
use Rattle.lsdb_build.specs.declared.Linked.{Linked}
use Rattle.interface_model.specs.Addresses.{is_active}
use Rattle.lsdb_build.specs.Neighbours.{Port, port_of, ports_of, ports_from, ports, shares_subnet, is_linked_kind, is_linked, linked, is_broadcast, first_members, transit_subnets, place_from, is_other}
use Rattle.lsdb_build.specs.Graphs.{Database, graph_at, far_vertex, link_edges, subnet_edges, router_of}
use Rattle.lsdb_build.specs.declared.fault.TopologyFault.{TopologyFault}
use Rattle.lsdb_build.specs.declared.fault.TopologyFault.TheVariants.{TooMany, NameTwice, SameRouterTwice, AddressTwice, TypeMismatch, CrowdedLink, NoDesignated, OverlapPrefix}
use Rattle.lsdb_build.specs.Topology.{FaultyPlace, link_of, places_from, database_of, first_where, first_some, at_port, at_config, past, second_of_name, is_second_of_router, is_second_of_address, same_kind, is_mismatch, is_crowding, lacks_designated, holds, is_overlap, topology_fault}
use Rattle.lsdb_build.specs.Links.{router_at, far_among, link_back_among}

-- New costs: by the router's number, the interface's name and the cost of before.

abbrev pub recosted_interface : (List ℕ → Option ℕ → Option ℕ) → Interface → Interface
recosted_interface c i = record i { cost = c i.name i.cost }

abbrev pub recosted_router : (List ℕ → Option ℕ → Option ℕ) → Router → Router
recosted_router c r = record r { interfaces = map (recosted_interface c) r.interfaces }

-- the routers from number n on
abbrev pub recosted_from : (ℕ → List ℕ → Option ℕ → Option ℕ) → ℕ → List Router → List Router
recosted_from c n [] = []
recosted_from c n (r ∷ routers) = recosted_router (c n) r ∷ recosted_from c (n + 1) routers

abbrev pub recosted_port : (ℕ → List ℕ → Option ℕ → Option ℕ) → Port → Port
recosted_port c p = record p { interface = recosted_interface (c p.router) p.interface }

abbrev pub recosted_link : (ℕ → List ℕ → Option ℕ → Option ℕ) → Linked → Linked
recosted_link c link = record link { cost = c link.router link.interface link.cost }

abbrev pub recosted : (ℕ → List ℕ → Option ℕ → Option ℕ) → Database → Database
recosted c d = record d { links = map (recosted_link c) d.links }

-- Lists in general.

map_cond : {X Y : Type 0} (f : X → Y) (b : Bool) (xs ys : List X) → cond b (map f xs) (map f ys) ≡ map f (cond b xs ys)
map_cond f true xs ys = refl
map_cond f false xs ys = refl

filter_map_is : {X Y : Type 0} (test : Y → Bool) (f : X → Y) (xs : List X) → filter test (map f xs) ≡ map f (filter (λ x. test (f x)) xs)
filter_map_is test f [] = refl
filter_map_is test f (x ∷ xs) =
    ap (λ ys. cond (test (f x)) (f x ∷ ys) ys) (filter_map_is test f xs)
    ∙ map_cond f (test (f x)) (x ∷ filter (λ x. test (f x)) xs) (filter (λ x. test (f x)) xs)

-- Each step of the topology.

port_is : (c : ℕ → List ℕ → Option ℕ → Option ℕ) (area n : ℕ) (i : Interface) (address : Option ℕ) →
    port_of area n (recosted_interface (c n) i) address ≡ map (recosted_port c) (port_of area n i address)
port_is c area n i None = refl
port_is c area n i (Some address) = by_test (is_active i area && nat_le i.length 31)
  where
    by_test : (b : Bool) → cond b (record { router = n; interface = recosted_interface (c n) i; address = address }
        ∷ []) [] ≡ map (recosted_port c) (cond b (record { router = n; interface = i; address = address } ∷ []) [])
    by_test true = refl
    by_test false = refl

ports_of_is : (c : ℕ → List ℕ → Option ℕ → Option ℕ) (area n : ℕ) (interfaces : List Interface) →
    ports_of area n (map (recosted_interface (c n)) interfaces) ≡ map (recosted_port c) (ports_of area n interfaces)
ports_of_is c area n [] = refl
ports_of_is c area n (i ∷ more) =
    rw (port_is c area n i i.address, ports_of_is c area n more) (sym (map-append (recosted_port c) (port_of area n i i.address) (ports_of area n more)))

ports_from_is : (c : ℕ → List ℕ → Option ℕ → Option ℕ) (area n : ℕ) (routers : List Router) →
    ports_from area n (recosted_from c n routers) ≡ map (recosted_port c) (ports_from area n routers)
ports_from_is c area n [] = refl
ports_from_is c area n (r ∷ routers) =
    rw (ports_of_is c area n r.interfaces, ports_from_is c area (n + 1) routers)
    (sym (map-append (recosted_port c) (ports_of area n r.interfaces) (ports_from area (n + 1) routers)))

linked_is : (c : ℕ → List ℕ → Option ℕ → Option ℕ) (all : List Port) → linked (map (recosted_port c) all) ≡ map (recosted_port c) (linked all)
linked_is c all =
    filter_map_is (is_linked (map (recosted_port c) all)) (recosted_port c) all
    ∙ ap (map (recosted_port c)) (filter_agree (λ (p : Port). is_linked (map (recosted_port c) all) (recosted_port c p)) (is_linked all) same all)
  where
    same : (p : Port) → is_linked (map (recosted_port c) all) (recosted_port c p) ≡ is_linked all p
    same p = ap (is_linked_kind p.interface.kind) (fold-map (λ (n : ℕ) (q : Port). n + cond (shares_subnet (recosted_port c p) q) 1 0) (recosted_port c) 0 all)

first_members_is : (c : ℕ → List ℕ → Option ℕ → Option ℕ) (before all : List Port) →
    first_members (map (recosted_port c) before) (map (recosted_port c) all)
    ≡ map (recosted_port c) (first_members before all)
first_members_is c before [] = refl
first_members_is c before (p ∷ more) =
    rw (list_any-map (shares_subnet (recosted_port c p)) (recosted_port c) before, first_members_is c (p ∷ before) more)
    (map_cond (recosted_port c) (is_broadcast p && not (list_any (shares_subnet p) before))
    (p ∷ first_members (p ∷ before) more) (first_members (p ∷ before) more))

transit_is : (c : ℕ → List ℕ → Option ℕ → Option ℕ) (all : List Port) →
    transit_subnets (map (recosted_port c) all) ≡ map (recosted_port c) (transit_subnets all)
transit_is c all = rw (linked_is c all) (first_members_is c [] (linked all))

place_is : (f : Port → Port) (test : Port → Bool) (n : ℕ) (ps : List Port) → place_from n test (map f ps) ≡ place_from n (λ p. test (f p)) ps
place_is f test n [] = refl
place_is f test n (p ∷ ps) = ap (λ later. cond (test (f p)) (Some n) later) (place_is f test (n + 1) ps)

places_is : (f : Port → Port) (test : Port → Bool) (n : ℕ) (ps : List Port) → places_from n test (map f ps) ≡ places_from n (λ p. test (f p)) ps
places_is f test n [] = refl
places_is f test n (p ∷ ps) = ap (λ later. cond (test (f p)) (n ∷ later) later) (places_is f test (n + 1) ps)

router_some : (c : ℕ → List ℕ → Option ℕ → Option ℕ) (links : List Port) (l : ℕ) → router_at (map (recosted_port c) links) (Some l) ≡ router_at links (Some l)
router_some c [] l = refl
router_some c (p ∷ ps) zero = refl
router_some c (p ∷ ps) (suc l) = router_some c ps l

router_is : (c : ℕ → List ℕ → Option ℕ → Option ℕ) (links : List Port) (o : Option ℕ) → router_at (map (recosted_port c) links) o ≡ router_at links o
router_is c links None = refl
router_is c links (Some l) = router_some c links l

far_is : (c : ℕ → List ℕ → Option ℕ → Option ℕ) (all : List Port) (p : Port) (kind : Kind) →
    far_among (linked (map (recosted_port c) all)) (transit_subnets (map (recosted_port c) all)) (recosted_port c p) kind
    ≡ far_among (linked all) (transit_subnets all) p kind
far_is c all p PointToPoint =
    rw (linked_is c all, place_is (recosted_port c) (is_other (recosted_port c p)) 0 (linked all))
    (ap ToRouter (router_is c (linked all) (place_from 0 (is_other p) (linked all))))
far_is c all p Broadcast =
    rw (transit_is c all) (ap (λ o. ToSubnet (unwrap_or o 0)) (place_is (recosted_port c) (shares_subnet (recosted_port c p)) 0 (transit_subnets all)))

link_back_is : (c : ℕ → List ℕ → Option ℕ → Option ℕ) (all : List Port) (p : Port) (kind : Kind) →
    link_back_among (linked (map (recosted_port c) all)) (recosted_port c p) kind ≡ link_back_among (linked all) p kind
link_back_is c all p PointToPoint = rw (linked_is c all) (place_is (recosted_port c) (is_other (recosted_port c p)) 0 (linked all))
link_back_is c all p Broadcast = refl

link_parts : (router line : ℕ) (name : List ℕ) (cost : Option ℕ) (to far : Far) (link_back other : Option ℕ) → to ≡ far → link_back ≡ other →
    ◌≡◌ {A = Linked} (record { router = router; interface = name; line = line; cost = cost; to = to; link_back = link_back })
    (record { router = router; interface = name; line = line; cost = cost; to = far; link_back = other })
link_parts router line name cost to far link_back other same_to same_link_back = cc

link_is : (c : ℕ → List ℕ → Option ℕ → Option ℕ) (all : List Port) (p : Port) →
    link_of (map (recosted_port c) all) (recosted_port c p) ≡ recosted_link c (link_of all p)
link_is c all p =
    link_parts p.router p.interface.line p.interface.name (c p.router p.interface.name p.interface.cost)
    (far_among (linked (map (recosted_port c) all)) (transit_subnets (map (recosted_port c) all)) (recosted_port c p) p.interface.kind)
    (far_among (linked all) (transit_subnets all) p p.interface.kind)
    (link_back_among (linked (map (recosted_port c) all)) (recosted_port c p) p.interface.kind) (link_back_among (linked all) p p.interface.kind)
    (far_is c all p p.interface.kind) (link_back_is c all p p.interface.kind)

names_are : (c : ℕ → List ℕ → Option ℕ → Option ℕ) (n : ℕ) (routers : List Router) → map (λ r. r.name) (recosted_from c n routers) ≡ map (λ r. r.name) routers
names_are c n [] = refl
names_are c n (r ∷ routers) = ap (λ names. r.name ∷ names) (names_are c (n + 1) routers)

links_are : (c : ℕ → List ℕ → Option ℕ → Option ℕ) (all : List Port) →
    map (link_of (map (recosted_port c) all)) (linked (map (recosted_port c) all))
    ≡ map (recosted_link c) (map (link_of all) (linked all))
links_are c all =
    rw (linked_is c all)
    (map-map (link_of (map (recosted_port c) all)) (recosted_port c) (linked all)
    ∙ ap (λ (f : Port → Linked). map f (linked all)) (λ i p. link_is c all p i)
    ∙ sym (map-map (recosted_link c) (link_of all) (linked all)))

subnets_are : (c : ℕ → List ℕ → Option ℕ → Option ℕ) (all : List Port) →
    map (λ first. places_from 0 (shares_subnet first) (linked (map (recosted_port c) all)))
    (transit_subnets (map (recosted_port c) all)) ≡ map (λ first. places_from 0 (shares_subnet first) (linked all))
    (transit_subnets all)
subnets_are c all =
    rw (transit_is c all, linked_is c all)
    (map-map (λ (first : Port). places_from 0 (shares_subnet first) (map (recosted_port c) (linked all))) (recosted_port c) (transit_subnets all)
    ∙ ap (λ (f : Port → List ℕ). map f (transit_subnets all))
    (λ i first. places_is (recosted_port c) (shares_subnet (recosted_port c first)) 0 (linked all) i))

database_parts : (routers names : List (List ℕ)) (links others : List Linked) (subnets members : List (List ℕ)) →
    routers ≡ names → links ≡ others → subnets ≡ members →
    ◌≡◌ {A = Database} (record { routers = routers; links = links; subnets = subnets }) (record { routers = names; links = others; subnets = members })
database_parts routers names links others subnets members same_routers same_links same_subnets = cc

-- the database of the routers with other costs is the database with those costs
pub recosted_database : (c : ℕ → List ℕ → Option ℕ → Option ℕ) (area : ℕ) (routers : List Router) →
    database_of area (recosted_from c 0 routers) ≡ recosted c (database_of area routers)
recosted_database c area routers =
    let all : List Port = ports area routers in
    let same : ports area (recosted_from c 0 routers) ≡ map (recosted_port c) all = ports_from_is c area 0 routers in
    database_parts (map (λ r. r.name) (recosted_from c 0 routers)) (map (λ r. r.name) routers)
    (map (link_of (ports area (recosted_from c 0 routers))) (linked (ports area (recosted_from c 0 routers))))
    (map (recosted_link c) (map (link_of all) (linked all)))
    (map (λ first. places_from 0 (shares_subnet first) (linked (ports area (recosted_from c 0 routers))))
    (transit_subnets (ports area (recosted_from c 0 routers))))
    (map (λ first. places_from 0 (shares_subnet first) (linked all)) (transit_subnets all))
    (names_are c 0 routers)
    (ap (λ (ps : List Port). map (link_of ps) (linked ps)) same ∙ links_are c all)
    (ap (λ (ps : List Port). map (λ first. places_from 0 (shares_subnet first) (linked ps)) (transit_subnets ps)) same ∙ subnets_are c all)

-- The graph at given prices doesn't see the costs.

link_edges_are : (c : ℕ → List ℕ → Option ℕ → Option ℕ) (n : ℕ) (links : List Linked) (prices : List Price) →
    link_edges n (map (recosted_link c) links) prices ≡ link_edges n links prices
link_edges_are c n [] prices = refl
link_edges_are c n (link ∷ links) [] = refl
link_edges_are c n (link ∷ links) (price ∷ prices) =
    ap (λ (es : List Edge). record { from = link.router; to = far_vertex n link.to; price = price } ∷ es) (link_edges_are c n links prices)

subnet_edges_are : (c : ℕ → List ℕ → Option ℕ → Option ℕ) (links : List Linked) (vertex : ℕ) (subnets : List (List ℕ)) →
    subnet_edges (map (recosted_link c) links) vertex subnets ≡ subnet_edges links vertex subnets
subnet_edges_are c links vertex [] = refl
subnet_edges_are c links vertex (members ∷ subnets) =
    rw (map-map (λ (link : Linked). link.router) (recosted_link c) links)
    (ap (λ (es : List Edge). map (λ l. record { from = vertex; to = router_of links l; price = Zero }) members ++ es)
    (subnet_edges_are c links (vertex + 1) subnets))

-- the graph at given prices is that of the database with other costs
pub recosted_graph : (c : ℕ → List ℕ → Option ℕ → Option ℕ) (d : Database) (prices : List Price) → graph_at (recosted c d) prices ≡ graph_at d prices
recosted_graph c d prices = rw (link_edges_are c (length d.routers) d.links prices, subnet_edges_are c d.links (length d.routers) d.subnets) refl

-- The checks don't see the costs.

count_is : (c : ℕ → List ℕ → Option ℕ → Option ℕ) (n : ℕ) (routers : List Router) → length (recosted_from c n routers) ≡ length routers
count_is c n [] = refl
count_is c n (r ∷ routers) = ap suc (count_is c (n + 1) routers)

second_is : (c : ℕ → List ℕ → Option ℕ → Option ℕ) (n : ℕ) (before : List (List ℕ)) (place : ℕ) (routers : List Router) →
    second_of_name before place (recosted_from c n routers) ≡ second_of_name before place routers
second_is c n before place [] = refl
second_is c n before place (r ∷ routers) =
    ap (λ later. cond (list_any (same_bytes r.name) before) (Some place) later) (second_is c (n + 1) (r.name ∷ before) (place + 1) routers)

port_fault : (c : ℕ → List ℕ → Option ℕ → Option ℕ) (fault : TopologyFault) (o : Option Port) → at_port fault (option_map (recosted_port c) o) ≡ at_port fault o
port_fault c fault None = refl
port_fault c fault (Some p) = refl

map_some : (f : Port → Port) (b : Bool) (p : Port) (o : Option Port) → cond b (Some (f p)) (option_map f o) ≡ option_map f (cond b (Some p) o)
map_some f true p o = refl
map_some f false p o = refl

-- the first interface that passes a check that doesn't see the costs
where_is : (f : Port → Port) (check other : List Port → Port → Bool) →
    ((before : List Port) (p : Port) → check (map f before) (f p) ≡ other before p) → (before all : List Port) →
    first_where check (map f before) (map f all) ≡ option_map f (first_where other before all)
where_is f check other same before [] = refl
where_is f check other same before (p ∷ more) =
    rw (same before p, where_is f check other same (p ∷ before) more)
    (map_some f (other before p) p (first_where other (p ∷ before) more))

-- what the checks of a topology find, by its interfaces
abbrev faults_among : ℕ → Option ℕ → List Port → List (Option FaultyPlace)
faults_among routers second all =
    at_config TooMany (past 1000 routers)
    ∷ at_port TooMany (slice_get all 4000)
    ∷ at_config NameTwice second
    ∷ at_port SameRouterTwice (first_where is_second_of_router [] all)
    ∷ at_port AddressTwice (first_where is_second_of_address [] all)
    ∷ at_port TypeMismatch (first_where is_mismatch [] all)
    ∷ at_port CrowdedLink (first_where is_crowding [] all)
    ∷ at_port NoDesignated (first_where (λ before p. lacks_designated all p) [] (transit_subnets all))
    ∷ at_port OverlapPrefix (first_where is_overlap [] all)
    ∷ []

faults_are : (c : ℕ → List ℕ → Option ℕ → Option ℕ) (routers : ℕ) (second : Option ℕ) (all : List Port) →
    faults_among routers second (map (recosted_port c) all) ≡ faults_among routers second all
faults_are c routers second all =
    let many : at_port TooMany (slice_get (map (recosted_port c) all) 4000) ≡ at_port TooMany (slice_get all 4000)
    = ap (at_port TooMany) (slice_get-map (recosted_port c) all 4000) ∙ port_fault c TooMany (slice_get all 4000) in
    let same_router = check_is SameRouterTwice is_second_of_router is_second_of_router all
    (λ before p. list_any-map (λ (q : Port). q.router == p.router && shares_subnet q p) (recosted_port c) before) in
    let same_address = check_is AddressTwice is_second_of_address is_second_of_address all
    (λ before p. list_any-map (λ (q : Port). q.address == p.address) (recosted_port c) before) in
    let kinds = check_is TypeMismatch is_mismatch is_mismatch all
    (λ before p. list_any-map (λ (q : Port). shares_subnet q p && not (same_kind q.interface.kind p.interface.kind)) (recosted_port c) before) in
    let crowded = check_is CrowdedLink is_crowding is_crowding all
    (λ before p. ap (λ (n : ℕ). not (is_broadcast p) && nat_le 2 n)
    (fold-map (λ (n : ℕ) (q : Port). n + cond (shares_subnet q p) 1 0) (recosted_port c) 0 before)) in
    let designated : at_port NoDesignated (first_where (λ before p. lacks_designated (map (recosted_port c) all) p) []
    (transit_subnets (map (recosted_port c) all)))
    ≡ at_port NoDesignated (first_where (λ before p. lacks_designated all p) [] (transit_subnets all))
    = ap (λ (ps : List Port). at_port NoDesignated (first_where (λ before p. lacks_designated (map (recosted_port c) all) p) [] ps)) (transit_is c all)
    ∙ check_is NoDesignated (λ before p. lacks_designated (map (recosted_port c) all) p) (λ before p. lacks_designated all p) (transit_subnets all)
    (λ before p. list_all-map (λ (q : Port). not (shares_subnet p q) || q.interface.priority == 0) (recosted_port c) all) in
    let overlaps = check_is OverlapPrefix is_overlap is_overlap all
    (λ before p. list_any-map (λ (q : Port). not (q.router == p.router) && not (shares_subnet q p) && (holds q p || holds p q)) (recosted_port c) before) in
    cc
  where
    check_is : (fault : TopologyFault) (check other : List Port → Port → Bool) (ps : List Port) →
        ((before : List Port) (p : Port) → check (map (recosted_port c) before) (recosted_port c p) ≡ other before p) →
        at_port fault (first_where check [] (map (recosted_port c) ps)) ≡ at_port fault (first_where other [] ps)
    check_is fault check other ps same = ap (at_port fault) (where_is (recosted_port c) check other same [] ps) ∙ port_fault c fault (first_where other [] ps)

-- the first fault of the routers with other costs is that of the routers
pub recosted_fault : (c : ℕ → List ℕ → Option ℕ → Option ℕ) (area : ℕ) (routers : List Router) →
    topology_fault area (recosted_from c 0 routers) ≡ topology_fault area routers
recosted_fault c area routers =
    let found : ℕ → Option ℕ → List Port → Option FaultyPlace = λ n second all. first_some (faults_among n second all) in
    ap (λ (n : ℕ). found n (second_of_name [] 0 (recosted_from c 0 routers)) (ports area (recosted_from c 0 routers))) (count_is c 0 routers)
    ∙ ap (λ (o : Option ℕ). found (length routers) o (ports area (recosted_from c 0 routers))) (second_is c 0 [] 0 routers)
    ∙ ap (found (length routers) (second_of_name [] 0 routers)) (ports_from_is c area 0 routers)
    ∙ ap first_some (faults_are c (length routers) (second_of_name [] 0 routers) (ports area routers))
