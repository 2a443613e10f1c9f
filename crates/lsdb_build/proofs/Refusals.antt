-- The first fault of a topology, from what its checks answer in turn.
use Rattle.std.proofs.Common.{◌≡◌, ℕ, ◌≤◌, ◌++◌, List, [], ◌∷◌, Option, Some, None, length, map, refl, sym, ap, ◌∙◌, subst, slice_get, All, arith}
use Rattle.std.proofs.lemmas.Option.{none-some}
use Rattle.cost_base.specs.declared.refusal.Refusal.{Refusal}
use Rattle.cost_base.specs.declared.refusal.Refusal.TheVariants.{Refused, OutOfMemory}
use Rattle.interface_model.specs.Records.{Router, IsRouter}
use Rattle.lsdb_build.specs.declared.fault.ConfigLine.{ConfigLine}
use Rattle.lsdb_build.specs.declared.fault.TopologyFault.{TopologyFault}
use Rattle.lsdb_build.specs.Neighbours.{Port, ports, linked, transit_subnets, shares_subnet}
use Rattle.lsdb_build.specs.Graphs.{IsAreaDatabase}
use Rattle.lsdb_build.specs.Topology.{FaultyPlace, is_second_of_router, is_second_of_address, is_mismatch, is_crowding, is_overlap, lacks_designated, first_where, at_port, at_config, past, second_of_name, first_some, topology_fault, places_from, Tells}
use Rattle.lsdb_build.specs.Links.{link_among}
use Rattle.lsdb_build.specs.declared.fault.TopologyFault.TheVariants.{TooMany, NameTwice, SameRouterTwice, AddressTwice, TypeMismatch, CrowdedLink, NoDesignated, OverlapPrefix}
use Rattle.lsdb_build.proofs.Databases.{database_is, linked_length, transit_length}

-- the checks that need no linked interface
abbrev pub early : List Router → List Port → List (Option FaultyPlace)
early routers all =
    at_port TooMany (slice_get all 4000)
    ∷ at_config NameTwice (second_of_name [] 0 routers)
    ∷ at_port SameRouterTwice (first_where is_second_of_router [] all)
    ∷ at_port AddressTwice (first_where is_second_of_address [] all)
    ∷ at_port TypeMismatch (first_where is_mismatch [] all)
    ∷ at_port CrowdedLink (first_where is_crowding [] all)
    ∷ []

abbrev pub designated : List Port → List Port → Option FaultyPlace
designated all transit = at_port NoDesignated (first_where (λ before p. lacks_designated all p) [] transit)

abbrev pub overlap : List Port → Option FaultyPlace
overlap all = at_port OverlapPrefix (first_where is_overlap [] all)

-- after checks without a fault the later ones decide
first_some-append : (xs ys : List (Option FaultyPlace)) → first_some xs ≡ None → first_some (xs ++ ys) ≡ first_some ys
first_some-append [] ys h = refl
first_some-append (None ∷ xs) ys h = first_some-append xs ys h
first_some-append (Some fault ∷ xs) ys h = absurd (none-some fault (sym h))

first_some-none : (f : Option FaultyPlace) (more : List (Option FaultyPlace)) → f ≡ None → first_some (f ∷ more) ≡ first_some more
first_some-none None more h = refl
first_some-none (Some fault) more h = absurd (none-some fault (sym h))

first_some-some : (f : Option FaultyPlace) (more : List (Option FaultyPlace)) (fault : FaultyPlace) → f ≡ Some fault → first_some (f ∷ more) ≡ Some fault
first_some-some None more fault h = absurd (none-some fault h)
first_some-some (Some other) more fault h = h

tells_first : (f : Option FaultyPlace) (more : List (Option FaultyPlace)) (stop : Refusal TopologyFault ConfigLine) → Tells f stop →
    Tells (first_some (f ∷ more)) stop
tells_first f more (Refused fault place) h = first_some-some f more (record { fault = fault; config = place.config; line = place.line }) h
tells_first f more OutOfMemory h = tt

-- a topology whose early checks find no fault has the later ones'
pub later_faults : (area : ℕ) (routers : List Router) → at_config TooMany (past 1000 (length routers)) ≡ None →
    first_some (early routers (ports area routers)) ≡ None →
    topology_fault area routers
    ≡ first_some (designated (ports area routers) (transit_subnets (ports area routers))
    ∷ overlap (ports area routers) ∷ [])
later_faults area routers few none =
    let all = ports area routers in
    let later = designated all (transit_subnets all) ∷ overlap all ∷ [] in
    first_some-none (at_config TooMany (past 1000 (length routers))) (early routers all ++ later) few ∙ first_some-append (early routers all) later none

-- the refusal at a transit subnet, at the interfaces and first members that the calls gave
pub tells_designated : (area : ℕ) (routers : List Router) (early_ports all transit : List Port) (stop : Refusal TopologyFault ConfigLine) →
    at_config TooMany (past 1000 (length routers)) ≡ None → early_ports ≡ ports area routers →
    first_some (early routers early_ports) ≡ None → all ≡ ports area routers →
    transit ≡ transit_subnets (ports area routers) → Tells (designated all transit) stop →
    Tells (topology_fault area routers) stop
tells_designated area routers early_ports all transit stop few early_is none all_is transit_is h =
    let found = ports area routers in
    subst (λ f. Tells f stop) (sym (later_faults area routers few (ap (λ ps. first_some (early routers ps)) (sym early_is) ∙ none)))
    (tells_first (designated found (transit_subnets found)) (overlap found ∷ []) stop
    (subst (λ f. Tells f stop) (ap (λ ps. designated ps transit) all_is ∙ ap (designated found) transit_is) h))

-- the refusal of an overlap
pub tells_overlap : (area : ℕ) (routers : List Router) (early_ports all transit others : List Port)
    (stop : Refusal TopologyFault ConfigLine) → at_config TooMany (past 1000 (length routers)) ≡ None → early_ports ≡ ports area routers →
    first_some (early routers early_ports) ≡ None → all ≡ ports area routers →
    transit ≡ transit_subnets (ports area routers) → designated all transit ≡ None → others ≡ ports area routers →
    Tells (overlap others) stop → Tells (topology_fault area routers) stop
tells_overlap area routers early_ports all transit others stop few early_is none all_is transit_is fine others_is h =
    let found = ports area routers in
    subst (λ f. Tells f stop) (sym
    (later_faults area routers few (ap (λ ps. first_some (early routers ps)) (sym early_is) ∙ none)
    ∙ first_some-none (designated found (transit_subnets found)) (overlap found ∷ [])
    (sym (ap (λ ps. designated ps transit) all_is ∙ ap (designated found) transit_is) ∙ fine)))
    (tells_first (overlap found) [] stop (subst (λ f. Tells f stop) (ap overlap others_is) h))

-- no check finds a fault
pub none_found : (area : ℕ) (routers : List Router) (early_ports all transit others : List Port) →
    at_config TooMany (past 1000 (length routers)) ≡ None → early_ports ≡ ports area routers →
    first_some (early routers early_ports) ≡ None → all ≡ ports area routers →
    transit ≡ transit_subnets (ports area routers) → designated all transit ≡ None → others ≡ ports area routers →
    overlap others ≡ None → topology_fault area routers ≡ None
none_found area routers early_ports all transit others few early_is none all_is transit_is fine others_is apart =
    let found = ports area routers in
    later_faults area routers few (ap (λ ps. first_some (early routers ps)) (sym early_is) ∙ none)
    ∙ first_some-none (designated found (transit_subnets found)) (overlap found ∷ [])
    (sym (ap (λ ps. designated ps transit) all_is ∙ ap (designated found) transit_is) ∙ fine)
    ∙ first_some-none (overlap found) [] (sym (ap overlap others_is) ∙ apart)

-- the links and subnets that the calls made are those of a database
pub made_is : (area : ℕ) (routers : List Router) (links transit : List Port) → topology_fault area routers ≡ None →
    All IsRouter routers → links ≡ linked (ports area routers) → transit ≡ transit_subnets (ports area routers) →
    IsAreaDatabase (record {
      routers = map (λ r. r.name) routers;
      links = map (link_among links transit) links;
      subnets = map (λ first. places_from 0 (shares_subnet first) links) transit;
    })
made_is area routers links transit fine valid links_is transit_is =
    subst (λ (ls : List Port). IsAreaDatabase
    (record {
      routers = map (λ (r : Router). r.name) routers;
      links = map (link_among ls transit) ls;
      subnets = map (λ (first : Port). places_from 0 (shares_subnet first) ls) transit;
    })) (sym links_is)
    (subst (λ (ts : List Port). IsAreaDatabase
    (record {
      routers = map (λ (r : Router). r.name) routers;
      links = map (link_among (linked (ports area routers)) ts) (linked (ports area routers));
      subnets =
          map (λ (first : Port). places_from 0 (shares_subnet first) (linked (ports area routers))) ts;
    }))
    (sym transit_is)
    (database_is area routers fine valid))

-- at most 4,000 interfaces have at most so many linked ones and transit subnets
pub few_links : (first all : List Port) → first ≡ all → length first ≤ 4000 → length (linked all) ≤ 4000
few_links first all is few = omega (arith, linked_length all, ap length is)

pub few_subnets : (first all : List Port) → first ≡ all → length first ≤ 4000 → length (transit_subnets all) ≤ 4000
few_subnets first all is few = omega (arith, transit_length all, ap length is)
