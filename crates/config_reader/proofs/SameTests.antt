-- Files of which the tests of second addresses and of second areas say the same.
use Rattle.std.proofs.Common.{◌≡◌, ℕ, List, [], Bool, cond, true, ◌&&◌, refl, sym, ap, ◌∙◌, subst, Some, None, is_some}
use Rattle.std.specs.Prelude.{◌||◌}
use Rattle.std.specs.List.{filter_map, list_any}
use Rattle.cost_base.specs.Lists.{first_of, last_of}
use Rattle.text_lines.specs.Numbers.{Prefix}
use Rattle.config_reader.specs.declared.fault.ConfigFault.TheVariants.{SecondAddress, AreaTwice}
use Rattle.config_reader.specs.Statements.{Statement, AddressIs, NetworkIs, Network, Block, OfInterface, OfRouter}
use Rattle.config_reader.specs.Settings.{Said, said, about, about_router, setting, networks_said, network_said, address_said, area_set, interface_address, matches}
use Rattle.config_reader.specs.Configs.{first_heads}
use Rattle.config_reader.specs.RouterNames.{router_name_said, is_router_name}
use Rattle.config_reader.specs.FaultList.{is_given_area, differs, second_address, area_twice, is_other_area, address_by_networks}
use Rattle.text_lines.proofs.Images.{any-map}
use Rattle.config_reader.proofs.BlockFacts.{head_names}
use Rattle.config_reader.proofs.FineLines.{AllFine}
use Rattle.config_reader.proofs.FaultlessFiles.{Faultless}

-- the addresses and areas of interfaces, what router blocks say and the names of heads are the same
pub record SameTests (old new : List (List ℕ)) : Type 0 where
  pub addresses : (name : List ℕ) → filter_map address_said (about (said new) name) ≡ filter_map address_said (about (said old) name)
  pub areas : (name : List ℕ) → filter_map area_set (about (said new) name) ≡ filter_map area_set (about (said old) name)
  pub router : about_router (said new) ≡ about_router (said old)
  pub heads : head_names (first_heads new) ≡ head_names (first_heads old)

module _ (old new : List (List ℕ)) (same : SameTests old new) where
  nets_same : networks_said (said new) ≡ networks_said (said old)
  nets_same = ap (filter_map network_said) same.router

  address_same : (name : List ℕ) → interface_address (said new) name ≡ interface_address (said old) name
  address_same name = ap first_of (same.addresses name)

  takes_same : (name : List ℕ) → is_given_area (said new) name ≡ is_given_area (said old) name
  takes_same name =
      ap (λ areas. takes areas (filter_map address_said (about (said new) name)) (networks_said (said new))) (same.areas name)
      ∙ ap (λ addresses. takes (filter_map area_set (about (said old) name)) addresses (networks_said (said new))) (same.addresses name)
      ∙ ap (takes (filter_map area_set (about (said old) name)) (filter_map address_said (about (said old) name))) nets_same
    where
      takes : List ℕ → List Prefix → List Network → Bool
      takes areas addresses nets = is_some (last_of areas) || list_any (λ p. list_any (matches p) nets) addresses

  second_same : (block : Block) (s : Statement) → second_address (said old) block s ≡ second_address (said new) block s
  second_same (OfInterface name) (AddressIs p) =
      ap (λ a. cond (is_given_area (said old) name && differs p a) (Some SecondAddress) None) (sym (address_same name))
      ∙ ap (λ t. cond (t && differs p (interface_address (said new) name)) (Some SecondAddress) None) (sym (takes_same name))
  second_same _ _ = refl

  twice_same : (earlier : List Network) (block : Block) (s : Statement) →
      area_twice (said old) (first_heads old) earlier block s ≡ area_twice (said new) (first_heads new) earlier block s
  twice_same earlier OfRouter (NetworkIs n) =
      ap (λ b. cond b (Some AreaTwice) None)
      (any-map (other (said old)) (λ (head : List ℕ × ℕ). head.0) (first_heads old)
      ∙ ap (list_any (other (said old))) (sym same.heads)
      ∙ ap (λ (f : List ℕ → Bool). list_any f (head_names (first_heads new))) (λ i name. sym (other_same name) i)
      ∙ sym (any-map (other (said new)) (λ (head : List ℕ × ℕ). head.0) (first_heads new)))
    where
      other : List Said → List ℕ → Bool
      other all name = is_other_area earlier n (address_by_networks (setting area_set (about all name)) (interface_address all name))

      other_same : (name : List ℕ) → other (said new) name ≡ other (said old) name
      other_same name =
          ap (λ areas. is_other_area earlier n (address_by_networks (last_of areas) (interface_address (said new) name))) (same.areas name)
          ∙ ap (λ a. is_other_area earlier n (address_by_networks (setting area_set (about (said old) name)) a)) (address_same name)
  twice_same earlier _ _ = refl

-- where the lines of the new file are fine by the tests of the old one, it has no fault
pub faultless_so : (file_name : List ℕ) (old new : List (List ℕ)) → SameTests old new →
    AllFine (second_address (said old)) (area_twice (said old) (first_heads old)) [] new →
    is_router_name (router_name_said file_name new).0 ≡ true → Faultless file_name new
faultless_so file_name old new same fine name = record {
  fine =
      subst (λ f. AllFine f (area_twice (said new) (first_heads new)) [] new) (λ i block s. second_same old new same block s i)
      (subst (λ f. AllFine (second_address (said old)) f [] new) (λ i earlier block s. twice_same old new same earlier block s i) fine);
  name = name;
}
