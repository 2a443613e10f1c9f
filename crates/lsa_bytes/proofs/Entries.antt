-- One LSA more in a database.
use Rattle.std.proofs.Common.{◌≡◌, ◌+◌, ◌≤◌, ◌&&◌, Bool, true, false, cond, List, [], ◌∷◌, ◌++◌, arith}
use Rattle.std.specs.Prelude.{nat_le, count_by}
use Rattle.std.specs.List.{list_any}
use Rattle.std.proofs.lemmas.Bool.{leb-false}
use Rattle.std.proofs.lemmas.List.Elements.{All-push}
use Rattle.std.proofs.lemmas.List.Quantifiers.{all_pairs_push}
use Rattle.std.proofs.lemmas.List.Sums.{sum_by-append}
use Rattle.cost_base.proofs.ListLemmas.{none_passes}
use Rattle.lsa_bytes.specs.declared.Lsa.{Lsa}
use Rattle.lsa_bytes.specs.Databases.{HaveNoFault, is_router_lsa, is_same, has_link_types, has_zero_metric}

-- a list without faults and one LSA without a fault behind them
pub faultless_push : (lsas : List Lsa) (lsa : Lsa) → HaveNoFault lsas → has_link_types lsa.body ≡ true →
    (is_router_lsa lsa && nat_le 1000 (count_by is_router_lsa lsas)) ≡ false
    → list_any (is_same lsa) lsas ≡ false → has_zero_metric lsa.body ≡ false → HaveNoFault (lsas ++ lsa ∷ [])
faultless_push lsas lsa before types few new metric = record {
  types = All-push (λ (l : Lsa). has_link_types l.body ≡ true) lsas lsa before.types types;
  different = all_pairs_push (λ earlier l. is_same l earlier ≡ false) lsas lsa before.different (none_passes (is_same lsa) lsas new);
  metrics = All-push (λ (l : Lsa). has_zero_metric l.body ≡ false) lsas lsa before.metrics metric;
  routers = by_kind (is_router_lsa lsa) few (sum_by-append (λ l. cond (is_router_lsa l) 1 0) lsas (lsa ∷ []));
}
  where
    by_kind : (b : Bool) → (b && nat_le 1000 (count_by is_router_lsa lsas)) ≡ false →
        count_by is_router_lsa (lsas ++ lsa ∷ []) ≡ count_by is_router_lsa lsas + (0 + cond b 1 0) →
        count_by is_router_lsa (lsas ++ lsa ∷ []) ≤ 1000
    by_kind true room count = omega (arith, count, leb-false 1000 (count_by is_router_lsa lsas) room)
    by_kind false room count = omega (arith, count, before.routers)
