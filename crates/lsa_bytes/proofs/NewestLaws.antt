-- The newest of instances, with one instance more behind them.
use Rattle.std.proofs.Common.{◌≡◌, ◌&&◌, Bool, true, false, cond, nat_eq, List, [], ◌∷◌, ◌++◌, map, filter, Option, None, Some, refl, sym, ap, ◌∙◌}
use Rattle.std.proofs.lemmas.Bool.{and_parts, eqb-true}
use Rattle.std.proofs.lemmas.List.{append-nil}
use Rattle.indexmap.specs.IndexMap.{IndexMap, get}
use Rattle.lsa_bytes.specs.declared.instances.LsaName.{LsaName}
use Rattle.lsa_bytes.specs.declared.instances.Stamp.{Stamp}
use Rattle.lsa_bytes.specs.declared.instances.Instance.{Instance}
use Rattle.lsa_bytes.specs.Instances.{is_named, lsa_name_of, newer_of, newest, newest_behind, same_name, stamps_of}
use Rattle.lsa_bytes.specs.Newest.{HasNewest}

newest_push : (found : Option Stamp) (stamps : List Stamp) (stamp : Stamp) →
    newest_behind found (stamps ++ stamp ∷ []) ≡ Some (newer_of (newest_behind found stamps) stamp)
newest_push found [] stamp = refl
newest_push found (first ∷ stamps) stamp = newest_push (Some (newer_of found first)) stamps stamp

stamps_push : (name : LsaName) (all : List Instance) (instance : Instance) →
    stamps_of name (all ++ instance ∷ []) ≡ stamps_of name all ++ cond (is_named name instance) (instance.stamp ∷ []) []
stamps_push name [] instance = by_test (is_named name instance)
  where
    by_test : (b : Bool) → map (λ (i : Instance). i.stamp) (cond b (instance ∷ []) []) ≡ cond b (instance.stamp ∷ []) []
    by_test true = refl
    by_test false = refl
stamps_push name (first ∷ all) instance = by_test (is_named name first) (stamps_push name all instance)
  where
    by_test : (b : Bool) → stamps_of name (all ++ instance ∷ []) ≡ stamps_of name all ++ cond (is_named name instance) (instance.stamp ∷ []) [] →
        map (λ (i : Instance). i.stamp) (cond b (first ∷ filter (is_named name) (all ++ instance ∷ [])) (filter (is_named name) (all ++ instance ∷ [])))
        ≡ map (λ (i : Instance). i.stamp) (cond b (first ∷ filter (is_named name) all) (filter (is_named name) all))
        ++ cond (is_named name instance) (instance.stamp ∷ []) []
    by_test true rest = ap (λ (stamps : List Stamp). first.stamp ∷ stamps) rest
    by_test false rest = rest

pub same_is : (name other : LsaName) → same_name name other ≡ true → name ≡ other
same_is name other same =
    let parts = and_parts (nat_eq name.kind other.kind) (nat_eq name.id other.id && nat_eq name.router other.router) same in
    let ids = and_parts (nat_eq name.id other.id) (nat_eq name.router other.router) parts.1 in
    let kind = eqb-true name.kind other.kind parts.0 in
    let id = eqb-true name.id other.id ids.0 in
    let router = eqb-true name.router other.router ids.1 in
    λ i. record { kind = kind i; id = id i; router = router i }

-- the look-up with what stands of one LSA written anew
pub newest_added : {S : Type 0} (old new : IndexMap LsaName Stamp S) (all : List Instance) (instance : Instance) (stamp : Stamp) →
    HasNewest old all → stamp ≡ newer_of (get same_name old (lsa_name_of instance.lsa)) instance.stamp →
    ((name : LsaName) → get same_name new name ≡ cond (is_named name instance) (Some stamp) (get same_name old name)) → HasNewest new (all ++ instance ∷ [])
newest_added old new all instance stamp has is updates name =
    updates name ∙ by_test (is_named name instance) refl ∙ sym (ap newest (stamps_push name all instance))
  where
    by_test : (b : Bool) → is_named name instance ≡ b → cond b (Some stamp) (get same_name old name)
        ≡ newest (stamps_of name all ++ cond b (instance.stamp ∷ []) [])
    by_test true same = ap Some (is
        ∙ ap (λ (found : Option Stamp). newer_of found instance.stamp) (has (lsa_name_of instance.lsa)
        ∙ ap (λ (n : LsaName). newest (stamps_of n all)) (same_is (lsa_name_of instance.lsa) name same)))
        ∙ sym (newest_push None (stamps_of name all) instance.stamp)
    by_test false other = has name ∙ ap newest (sym (append-nil (stamps_of name all)))
