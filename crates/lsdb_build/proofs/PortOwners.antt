-- Each active interface of an area is one of its router's configuration.
use Rattle.std.proofs.Common.{◌≡◌, ℕ, suc, ◌+◌, refl, sym, ◌∙◌, ap, List, [], ◌∷◌, arith, Bool, true, false, cond, Option, Some, None, slice_get}
use Rattle.std.specs.Prelude.{All, ◌&&◌, nat_le}
use Rattle.std.proofs.lemmas.List.Elements.{All-nil, All-cons, All-append, All-weaker, All-filter}
use Rattle.interface_model.specs.declared.Interface.{Interface}
use Rattle.interface_model.specs.Records.{Router}
use Rattle.interface_model.specs.Addresses.{is_active}
use Rattle.lsdb_build.specs.Neighbours.{Port, port_of, ports_of, ports_from, ports, is_linked, linked}

-- one of these interfaces, as an active one
pub record IsPortAmong (n : ℕ) (interfaces : List Interface) (p : Port) : Type 0 where
  pub router_is : p.router ≡ n
  pub place : ℕ
  pub there : slice_get interfaces place ≡ Some p.interface
  pub address : p.interface.address ≡ Some p.address

port_among : (area n : ℕ) (i : Interface) (address : Option ℕ) (more : List Interface) → i.address ≡ address →
    All (IsPortAmong n (i ∷ more)) (port_of area n i address)
port_among area n i None more is = All-nil (IsPortAmong n (i ∷ more))
port_among area n i (Some address) more is = by_test (is_active i area && nat_le i.length 31)
  where
    by_test : (b : Bool) → All (IsPortAmong n (i ∷ more)) (cond b (record { router = n; interface = i; address = address } ∷ []) [])
    by_test true =
        All-cons (IsPortAmong n (i ∷ more)) (record { router = n; interface = i; address = address }) []
        (record { router_is = refl; place = 0; there = refl; address = is }) (All-nil (IsPortAmong n (i ∷ more)))
    by_test false = All-nil (IsPortAmong n (i ∷ more))

later : (n : ℕ) (i : Interface) (more : List Interface) (p : Port) → IsPortAmong n more p → IsPortAmong n (i ∷ more) p
later n i more p among = record { router_is = among.router_is; place = suc among.place; there = among.there; address = among.address }

ports_among : (area n : ℕ) (interfaces : List Interface) → All (IsPortAmong n interfaces) (ports_of area n interfaces)
ports_among area n [] = All-nil (IsPortAmong n [])
ports_among area n (i ∷ more) =
    All-append (IsPortAmong n (i ∷ more)) (port_of area n i i.address) (ports_of area n more) (port_among area n i i.address more refl)
    (All-weaker (IsPortAmong n more) (IsPortAmong n (i ∷ more)) (later n i more) (ports_of area n more) (ports_among area n more))

-- an active interface of the routers from number n on
pub record IsPortOf (n : ℕ) (routers : List Router) (p : Port) : Type 0 where
  pub place : ℕ
  pub number_is : p.router ≡ n + place
  pub router : Router
  pub there : slice_get routers place ≡ Some router
  pub among : IsPortAmong p.router router.interfaces p

first_router : (n : ℕ) (r : Router) (routers : List Router) (p : Port) → IsPortAmong n r.interfaces p → IsPortOf n (r ∷ routers) p
first_router n r routers p among =
    let same = among.router_is in
    record {
      place = 0;
      number_is = omega arith;
      router = r;
      there = refl;
      among = record { router_is = refl; place = among.place; there = among.there; address = among.address };
    }

later_router : (n : ℕ) (r : Router) (routers : List Router) (p : Port) → IsPortOf (n + 1) routers p → IsPortOf n (r ∷ routers) p
later_router n r routers p of =
    let same = of.number_is in
    record { place = suc of.place; number_is = omega arith; router = of.router; there = of.there; among = of.among }

ports_of_routers : (area n : ℕ) (routers : List Router) → All (IsPortOf n routers) (ports_from area n routers)
ports_of_routers area n [] = All-nil (IsPortOf n [])
ports_of_routers area n (r ∷ routers) =
    All-append (IsPortOf n (r ∷ routers)) (ports_of area n r.interfaces) (ports_from area (n + 1) routers)
    (All-weaker (IsPortAmong n r.interfaces) (IsPortOf n (r ∷ routers)) (first_router n r routers)
    (ports_of area n r.interfaces) (ports_among area n r.interfaces))
    (All-weaker (IsPortOf (n + 1) routers) (IsPortOf n (r ∷ routers)) (later_router n r routers)
    (ports_from area (n + 1) routers) (ports_of_routers area (n + 1) routers))

-- each linked interface is one of the routers
pub linked_owned : (area : ℕ) (routers : List Router) → All (IsPortOf 0 routers) (linked (ports area routers))
linked_owned area routers = All-filter (is_linked (ports area routers)) (IsPortOf 0 routers) (ports area routers) (ports_of_routers area 0 routers)

-- the interface's router stands at its number
pub owner_there : (routers : List Router) (p : Port) (of : IsPortOf 0 routers p) → slice_get routers p.router ≡ Some of.router
owner_there routers p of =
    let same = of.number_is in
    let place : of.place ≡ p.router = omega arith in
    ap (slice_get routers) (sym place) ∙ of.there
