-- The checks of a topology, and the database of an area.
use Rattle.std.specs.Prelude.{◌≡◌, ℕ, ◌+◌, List, [], ◌∷◌, map, ◌==◌, ◌&&◌, ◌||◌, nat_le, nat_lt, not, if◌then◌else◌, Bool, true, false, Option, Some, None, length, count_by, slice_get}
use Rattle.std.specs.List.{list_any, list_all}
use Rattle.cost_base.specs.Lists.{same_bytes}
use Rattle.cost_base.specs.declared.refusal.Refusal.{Refusal}
use Rattle.cost_base.specs.declared.refusal.Refusal.TheVariants.{Refused, OutOfMemory}
use Rattle.interface_model.specs.declared.Kind.{Kind}
use Rattle.interface_model.specs.declared.Kind.TheVariants.{PointToPoint, Broadcast}
use Rattle.interface_model.specs.Addresses.{contains}
use Rattle.interface_model.specs.Records.{Router}
use Rattle.lsdb_build.specs.declared.Linked.{Linked}
use Rattle.lsdb_build.specs.Neighbours.{Port, ports, shares_subnet, linked, transit_subnets, is_broadcast}
use Rattle.lsdb_build.specs.declared.fault.TopologyFault.TheVariants.{TooMany, NameTwice, SameRouterTwice, AddressTwice, TypeMismatch, CrowdedLink, NoDesignated, OverlapPrefix}
use Rattle.lsdb_build.specs.declared.fault.TopologyFault.{TopologyFault}
use Rattle.lsdb_build.specs.declared.fault.ConfigLine.{ConfigLine}
use Rattle.lsdb_build.specs.Graphs.{Database}
use Rattle.lsdb_build.specs.Links.{link_among}

-- a fault of a topology, with the configuration and the line of its place
pub record FaultyPlace : Type 0 where
  pub fault : TopologyFault
  pub config : ℕ
  pub line : ℕ

-- the two network kinds are the same
abbrev pub same_kind : Kind → Kind → Bool
same_kind PointToPoint PointToPoint = true
same_kind PointToPoint Broadcast = false
same_kind Broadcast PointToPoint = false
same_kind Broadcast Broadcast = true

-- Each check asks of an interface, with the interfaces before it in the order of their routers.

-- an interface before this one is of the same router and on the same subnet
abbrev pub is_second_of_router : List Port → Port → Bool
is_second_of_router before p = list_any (λ q. q.router == p.router && shares_subnet q p) before

-- an interface before this one has the same address
abbrev pub is_second_of_address : List Port → Port → Bool
is_second_of_address before p = list_any (λ q. q.address == p.address) before

-- an interface before this one on the same subnet has another network kind
abbrev pub is_mismatch : List Port → Port → Bool
is_mismatch before p = list_any (λ q. shares_subnet q p && not (same_kind q.interface.kind p.interface.kind)) before

-- two interfaces before this one are on the same point-to-point subnet
abbrev pub is_crowding : List Port → Port → Bool
is_crowding before p = not (is_broadcast p) && nat_le 2 (count_by (λ q. shares_subnet q p) before)

-- the first interface's subnet contains that of the second, whose prefix is at least as long
abbrev pub holds : Port → Port → Bool
holds p q = nat_le p.interface.length q.interface.length && contains p.address p.interface.length q.address

-- an interface before this one is of another router and on another subnet, and one of the two subnets contains the
-- other
abbrev pub is_overlap : List Port → Port → Bool
is_overlap before p =
    list_any (λ q. not (q.router == p.router) && not (shares_subnet q p) && (holds q p || holds p q)) before

-- a transit subnet's first member, where no member may become its designated router (RFC 2328, 9.4 and C.3)
abbrev pub lacks_designated : List Port → Port → Bool
lacks_designated all p = list_all (λ q. not (shares_subnet p q) || q.interface.priority == 0) all

-- the first interface that passes a check
abbrev pub first_where : (List Port → Port → Bool) → List Port → List Port → Option Port
first_where check before [] = None
first_where check before (p ∷ more) = if check before p then Some p else first_where check (p ∷ before) more

-- the fault at the line of an interface, where one was found
abbrev pub at_port : TopologyFault → Option Port → Option FaultyPlace
at_port fault None = None
at_port fault (Some p) = Some (record { fault = fault; config = p.router; line = p.interface.line })

-- the fault of a whole configuration, where one was found
abbrev pub at_config : TopologyFault → Option ℕ → Option FaultyPlace
at_config fault None = None
at_config fault (Some config) = Some (record { fault = fault; config = config; line = 0 })

-- the first place past the limit, where there are more things than that
abbrev pub past : ℕ → ℕ → Option ℕ
past limit count = if nat_lt limit count then Some limit else None

-- the first configuration of which an earlier one has the name
abbrev pub second_of_name : List (List ℕ) → ℕ → List Router → Option ℕ
second_of_name before n [] = None
second_of_name before n (r ∷ routers) =
    if list_any (same_bytes r.name) before then Some n else second_of_name (r.name ∷ before) (n + 1) routers

-- the first fault of several checks
abbrev pub first_some : List (Option FaultyPlace) → Option FaultyPlace
first_some [] = None
first_some (None ∷ more) = first_some more
first_some (Some fault ∷ more) = Some fault

-- the first fault of a topology, in the order of the checks
abbrev pub topology_fault : ℕ → List Router → Option FaultyPlace
topology_fault area routers =
    let all = ports area routers in
    first_some (
    at_config TooMany (past 1000 (length routers))
    ∷ at_port TooMany (slice_get all 4000)
    ∷ at_config NameTwice (second_of_name [] 0 routers)
    ∷ at_port SameRouterTwice (first_where is_second_of_router [] all)
    ∷ at_port AddressTwice (first_where is_second_of_address [] all)
    ∷ at_port TypeMismatch (first_where is_mismatch [] all)
    ∷ at_port CrowdedLink (first_where is_crowding [] all)
    ∷ at_port NoDesignated (first_where (λ before p. lacks_designated all p) [] (transit_subnets all))
    ∷ at_port OverlapPrefix (first_where is_overlap [] all)
    ∷ [])

-- the refusal tells the fault; want of memory says nothing
abbrev pub Tells : Option FaultyPlace → Refusal TopologyFault ConfigLine → Type 0
Tells found (Refused fault place) = found ≡ Some (record { fault = fault; config = place.config; line = place.line })
Tells found OutOfMemory = Unit {0}

-- the link of an interface among all linked interfaces and the first members of all transit subnets
abbrev pub link_of : List Port → Port → Linked
link_of all p = link_among (linked all) (transit_subnets all) p

-- the places of the interfaces that pass
abbrev pub places_from : ℕ → (Port → Bool) → List Port → List ℕ
places_from n test [] = []
places_from n test (p ∷ ps) = if test p then n ∷ places_from (n + 1) test ps else places_from (n + 1) test ps

-- the routers, the linked interfaces and the transit subnets of an area
abbrev pub database_of : ℕ → List Router → Database
database_of area routers =
    let all = ports area routers in
    record {
      routers = map (λ r. r.name) routers;
      links = map (link_of all) (linked all);
      subnets = map (λ first. places_from 0 (shares_subnet first) (linked all)) (transit_subnets all);
    }
