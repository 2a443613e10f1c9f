-- The ends of the links of an area's database are its active interfaces.
use Rattle.std.proofs.Common.{◌≡◌, ℕ, zero, suc, ◌+◌, inl, inr, sym, ◌∙◌, ap, List, [], ◌∷◌, length, true, false, cond, Option, Some, None, slice_get}
use Rattle.std.specs.Prelude.{All, AllPairs, ◌==◌, unwrap_or}
use Rattle.std.proofs.lemmas.Bool.{cases_Bool, cases_order, false≢true, eq-eqb}
use Rattle.std.proofs.lemmas.Option.{none-some, same_Some}
use Rattle.cost_base.specs.Lists.{same_bytes}
use Rattle.cost_base.proofs.ByteLemmas.{same_bytes-true, same_bytes-refl}
use Rattle.cost_base.proofs.ListLemmas.{pairs_head, pairs_tail}
use Rattle.interface_model.specs.declared.Interface.{Interface}
use Rattle.interface_model.specs.Records.{Router, IsRouter}
use Rattle.lsdb_build.specs.declared.Linked.{Linked}
use Rattle.lsdb_build.specs.Neighbours.{Port, ports, linked}
use Rattle.lsdb_build.specs.Topology.{topology_fault, link_of, database_of}
use Rattle.lsdb_build.proofs.Pairs.{all_at, pair_at, map_at}
use Rattle.lsdb_build.proofs.PortFacts.{differ}
use Rattle.lsdb_build.proofs.PortOwners.{IsPortOf, linked_owned, owner_there}
use Rattle.lsdb_build.proofs.Databases.{ports_sound, sound_linked}
use Rattle.lsa_writer.specs.Ends.{interface_named, interface_of_link, interfaces_in, end_of, end_with, id_of}

-- of different names each is found by its own
pub named_there : (interfaces : List Interface) (k : ℕ) (i : Interface) → AllPairs differ interfaces →
    slice_get interfaces k ≡ Some i → interface_named i.name interfaces ≡ Some i
named_there [] k i pairs at = absurd (none-some i at)
named_there (j ∷ more) zero i pairs at =
    let same = same_Some j i at in
    ap (λ (x : Interface). cond (same_bytes i.name x.name) (Some x) (interface_named i.name more)) same
    ∙ ap (λ b. cond b (Some i) (interface_named i.name more)) (same_bytes-refl i.name)
named_there (j ∷ more) (suc k) i pairs at =
    elim (cases_Bool (same_bytes i.name j.name)) [
      | inl same ↦ absurd (all_at (differ j) more (pairs_head differ j more pairs) k i at (sym (same_bytes-true i.name j.name same)))
      | inr other ↦ ap (λ b. cond b (Some j) (interface_named i.name more)) other ∙ named_there more k i (pairs_tail differ j more pairs) at
    ]

-- a link with its interface
pub record HasPort (area : ℕ) (configs : List Router) (l : ℕ) (link : Linked) : Type 0 where
  pub port : Port
  pub at : slice_get (linked (ports area configs)) l ≡ Some port
  pub link_is : link ≡ link_of (ports area configs) port
  pub interface : interface_of_link configs link ≡ Some port.interface
  pub address : (end_of configs link).address ≡ port.address

pub port_of_link : (area : ℕ) (configs : List Router) → All IsRouter configs → (l : ℕ) (link : Linked) →
    slice_get (database_of area configs).links l ≡ Some link → HasPort area configs l link
port_of_link area configs valid l link at =
    let all : List Port = ports area configs in
    let found = map_at (link_of all) (linked all) l link at in
    let port : Port = found.0 in
    let of = all_at (IsPortOf 0 configs) (linked all) (linked_owned area configs) l port found.1 in
    let there = owner_there configs port of in
    let named : interface_named port.interface.name of.router.interfaces ≡ Some port.interface =
    named_there of.router.interfaces of.among.place port.interface (all_at IsRouter configs valid of.place of.router of.there).different of.among.there in
    let interface : interface_of_link configs (link_of all port) ≡ Some port.interface =
    ap (λ (o : Option Router). interface_named port.interface.name (interfaces_in o)) there ∙ named in
    record {
      port = port;
      at = found.1;
      link_is = found.2;
      interface = ap (interface_of_link configs) found.2 ∙ interface;
      address = ap (λ (x : Linked). (end_of configs x).address) found.2
          ∙ ap (λ (o : Option Interface). (end_with (id_of configs port.router) o).address) interface ∙ ap (λ o. unwrap_or o 0) of.among.address;
    }

-- no two links have ends of one address
pub one_link : (area : ℕ) (configs : List Router) → topology_fault area configs ≡ None → All IsRouter configs → (l m : ℕ) (a b : Linked) →
    slice_get (database_of area configs).links l ≡ Some a → slice_get (database_of area configs).links m ≡ Some b →
    (end_of configs a).address ≡ (end_of configs b).address → l ≡ m
one_link area configs fine valid l m a b at_l at_m same =
    let all : List Port = ports area configs in
    let first = port_of_link area configs valid l a at_l in
    let second = port_of_link area configs valid m b at_m in
    let apart = (sound_linked (0 + length configs) all (ports_sound area configs fine valid)).addresses in
    let equal : first.port.address ≡ second.port.address = sym first.address ∙ same ∙ second.address in
    elim (cases_order l m) [
      | inl is ↦ is
      | inr unequal ↦ elim unequal [
        | inl below ↦ absurd (false≢true
            (sym (pair_at (λ p q. (p.address == q.address) ≡ false) (linked all) apart l m first.port second.port
            below first.at second.at) ∙ eq-eqb first.port.address second.port.address equal))
        | inr above ↦ absurd (false≢true
            (sym (pair_at (λ p q. (p.address == q.address) ≡ false) (linked all) apart m l second.port first.port
            above second.at first.at) ∙ eq-eqb second.port.address first.port.address (sym equal)))
      ]
    ]
