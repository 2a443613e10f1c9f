-- Each link of an area's database is an interface of its router's configuration.
use Rattle.std.proofs.Common.{◌≡◌, ℕ, List, map, Some}
use Rattle.std.specs.Prelude.{All, Contains, slice_get}
use Rattle.std.proofs.lemmas.Option.{slice_get_within, get_or_from_slice_get}
use Rattle.std.proofs.lemmas.List.Elements.{All-weaker, All-map}
use Rattle.interface_model.specs.declared.Interface.{Interface}
use Rattle.interface_model.specs.Records.{Router}
use Rattle.lsdb_build.specs.declared.Linked.{Linked}
use Rattle.lsdb_build.specs.Neighbours.{Port, ports, linked}
use Rattle.lsdb_build.specs.Topology.{link_of, database_of}
use Rattle.lsdb_build.proofs.Pairs.{at_map}
use Rattle.lsdb_build.proofs.PortOwners.{IsPortOf, linked_owned, owner_there}

abbrev pub interface_names : Router → List (List ℕ)
interface_names r = map (λ i. i.name) r.interfaces

-- the link is an interface of its router
pub record IsLinkOf (routers : List Router) (link : Linked) : Type 0 where
  pub router : Router
  pub there : slice_get routers link.router ≡ Some router
  pub held : Contains (interface_names router) link.interface

link_of_port : (all : List Port) (routers : List Router) (p : Port) → IsPortOf 0 routers p → IsLinkOf routers (link_of all p)
link_of_port all routers p of =
    let names = interface_names of.router in
    let place = of.among.place in
    let name = p.interface.name in
    let named = at_map (λ (i : Interface). i.name) of.router.interfaces place p.interface of.among.there in
    record {
      router = of.router;
      there = owner_there routers p of;
      held = (place, slice_get_within names place name named, get_or_from_slice_get names place name name named);
    }

-- each link of the database is
pub links_of_routers : (area : ℕ) (routers : List Router) → All (IsLinkOf routers) (database_of area routers).links
links_of_routers area routers =
    let all : List Port = ports area routers in
    All-map (IsLinkOf routers) (link_of all) (linked all)
    (All-weaker (IsPortOf 0 routers) (λ (p : Port). IsLinkOf routers (link_of all p)) (link_of_port all routers) (linked all) (linked_owned area routers))
