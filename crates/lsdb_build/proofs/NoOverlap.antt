-- Where no look-up finds an earlier subnet, none overlaps.
use Rattle.std.proofs.Common.{◌≡◌, ℕ, ◌<◌, ◌⊎◌, inl, inr, true, false, ◌||◌, ◌&&◌, ◌==◌, not, nat_le, List, get_or, sym, ap, ◌∙◌, arith, All}
use Rattle.std.proofs.lemmas.Bool.{false≢true, and_parts, cases_Bool, eqb-true, leb-true, false_from_ne_true, not-true, cases_order}
use Rattle.std.proofs.lemmas.List.Folds.{list_any_none}
use Rattle.indexmap.specs.IndexMap.{IndexMap, get}
use Rattle.interface_model.specs.Addresses.{subnet, contains}
use Rattle.lsdb_build.specs.declared.port.Subnet.{Subnet}
use Rattle.lsdb_build.specs.Neighbours.{Port, shares_subnet}
use Rattle.lsdb_build.specs.Topology.{holds, is_overlap}
use Rattle.lsdb_build.specs.declared.owners.Owner.{Owner}
use Rattle.lsdb_build.specs.Tallies.{same_subnet, subnet_of, subnet_of_length}
use Rattle.lsdb_build.specs.Owners.{has_other, HasSubnet, HasPrefixes}
use Rattle.lsdb_build.proofs.Subnets.{shares_from, shares_swap}
use Rattle.lsdb_build.proofs.NotedRouters.{other_noted}

-- a subnet that contains a different one is shorter
pub record Shorter (p q : Port) : Type 0 where
  pub length : p.interface.length < q.interface.length
  pub within : subnet p.address p.interface.length ≡ subnet q.address p.interface.length

shorter : (p q : Port) → shares_subnet p q ≡ false → holds p q ≡ true → Shorter p q
shorter p q apart does = record { length = by_order (cases_order p.interface.length q.interface.length); within = same }
  where
    same : subnet p.address p.interface.length ≡ subnet q.address p.interface.length
    same = eqb-true _ _ (and_parts (nat_le p.interface.length q.interface.length) (contains p.address p.interface.length q.address) does).1

    by_order : (p.interface.length ≡ q.interface.length)
        ⊎ ((p.interface.length < q.interface.length) ⊎ (q.interface.length < p.interface.length)) →
        p.interface.length < q.interface.length
    by_order (inl one) = absurd (false≢true (sym apart ∙ shares_from p q (record { length = one; subnet = same ∙ ap (subnet q.address) one })))
    by_order (inr (inl below)) = below
    by_order (inr (inr above)) =
        let most = leb-true _ _ (and_parts (nat_le p.interface.length q.interface.length) (contains p.address p.interface.length q.address) does).0 in
        absurd (omega arith)

module _ {S R : Type 0} (seen : IndexMap Subnet Owner S) (enclosing : IndexMap Subnet Owner R) (before : List Port) (p : Port) where
  -- an earlier interface's subnet that contains the interface's is found among the subnets seen
  not_round : ((l : ℕ) → l < p.interface.length → has_other (get same_subnet seen (subnet_of_length p l)) p.router ≡ false) →
      (q : Port) → HasSubnet seen q → (q.router == p.router) ≡ false → Shorter q p → ⊥
  not_round none q noted apart round =
      false≢true (sym (none q.interface.length round.length)
      ∙ ap (λ a. has_other (get same_subnet seen (record { length = q.interface.length; address = a })) p.router) (sym round.within)
      ∙ other_noted (get same_subnet seen (subnet_of q)) q.router p.router noted apart)

  -- the interface's subnet is found among the prefixes that enclose an earlier one in it
  not_inside : has_other (get same_subnet enclosing (subnet_of p)) p.router ≡ false → (q : Port) →
      HasPrefixes enclosing q → (q.router == p.router) ≡ false → Shorter p q → ⊥
  not_inside alone q noted apart inside =
      false≢true (sym alone
      ∙ ap (λ a. has_other (get same_subnet enclosing (record { length = p.interface.length; address = a })) p.router) inside.within
      ∙ other_noted (get same_subnet enclosing (subnet_of_length q p.interface.length)) q.router p.router (noted p.interface.length inside.length) apart)

  no_overlap : All (HasSubnet seen) before → All (HasPrefixes enclosing) before →
      ((l : ℕ) → l < p.interface.length → has_other (get same_subnet seen (subnet_of_length p l)) p.router ≡ false) →
      has_other (get same_subnet enclosing (subnet_of p)) p.router ≡ false → is_overlap before p ≡ false
  no_overlap found noted none alone = list_any_none _ before (λ k d within. one (get_or before k d) (found k d within) (noted k d within))
    where
      one : (q : Port) → HasSubnet seen q → HasPrefixes enclosing q →
          (not (q.router == p.router) && not (shares_subnet q p) && (holds q p || holds p q)) ≡ false
      one q there has = false_from_ne_true _ (λ does.
          (let parts = and_parts (not (q.router == p.router) && not (shares_subnet q p)) (holds q p || holds p q) does in
          let differ = and_parts (not (q.router == p.router)) (not (shares_subnet q p)) parts.0 in
          let other = not-true _ differ.0 in
          let apart = not-true _ differ.1 in
          elim (cases_Bool (holds q p)) [
            | inl round ↦ not_round none q there other (shorter q p apart round)
            | inr fails ↦ not_inside alone q has other (shorter p q (shares_swap p q ∙ apart) (sym (ap (λ b. b || holds p q) fails) ∙ parts.1))
          ]))

  pub overlap_found : All (HasSubnet seen) before → All (HasPrefixes enclosing) before →
      ((l : ℕ) → l < p.interface.length → has_other (get same_subnet seen (subnet_of_length p l)) p.router ≡ false) →
      is_overlap before p ≡ true → has_other (get same_subnet enclosing (subnet_of p)) p.router ≡ true
  overlap_found found noted none does =
      elim (cases_Bool (has_other (get same_subnet enclosing (subnet_of p)) p.router)) [
        | inl there ↦ there
        | inr alone ↦ absurd (false≢true (sym (no_overlap found noted none alone) ∙ does))
      ]
