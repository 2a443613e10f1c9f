-- Configurations without a fault, with router IDs of their own, fit their LSAs.
use Rattle.std.proofs.Common.{◌≡◌, ℕ, zero, suc, ◌+◌, ◌<◌, ◌^◌, refl, sym, ◌∙◌, ap, subst, inl, inr, List, [], ◌∷◌, ◌++◌, length, arith, Bool, true, false, cond, Option, Some, None, slice_get}
use Rattle.std.specs.Prelude.{All, AllPairs, ◌||◌, unwrap_or}
use Rattle.std.specs.List.{list_any}
use Rattle.std.specs.Option.{option_map, option_or}
use Rattle.std.proofs.lemmas.Bool.{cases_order, false≢true, eq-eqb, or_parts}
use Rattle.std.proofs.lemmas.Option.{none-some, same_Some, slice_get-get_or}
use Rattle.std.proofs.lemmas.List.{length-map}
use Rattle.std.proofs.lemmas.List.Elements.{All-nil, All-cons, All-weaker}
use Rattle.std.proofs.lemmas.List.Kept.{AllPairs-cons}
use Rattle.cost_base.proofs.ListLemmas.{pairs_nil}
use Rattle.interface_model.specs.Records.{Router, IsRouter}
use Rattle.lsdb_build.specs.Graphs.{Database}
use Rattle.lsdb_build.specs.Neighbours.{Port, ports, shares_subnet, linked, transit_subnets}
use Rattle.lsdb_build.specs.Topology.{topology_fault, database_of, places_from}
use Rattle.lsdb_build.proofs.Pairs.{all_at, all_from_at, pair_at, map_at}
use Rattle.lsdb_build.proofs.Subnets.{shares_itself, firsts_all}
use Rattle.lsdb_build.proofs.Databases.{database_is}
use Rattle.lsa_bytes.specs.declared.fault.LsaFault.{LsaFault}
use Rattle.lsa_bytes.specs.declared.fault.LsaFault.TheVariants.{NoRouterId, RouterIdTwice}
use Rattle.lsa_bytes.specs.declared.ids.IdFault.{IdFault}
use Rattle.lsa_bytes.specs.Ids.{is_id, id_fault, first_id_fault}
use Rattle.lsa_writer.specs.Ends.{router_id_in, id_of}
use Rattle.lsa_writer.specs.OneGraph.{IsDatabaseOf, IsRangedId}
use Rattle.lsa_writer.proofs.LinkPorts.{one_link}
use Rattle.lsa_writer.proofs.ToldLinks.{AreFit}

-- a router ID that none of some configurations has
pub record IsOwn (before : List Router) (config : Router) : Type 0 where
  pub id : ℕ
  pub is : config.router_id ≡ Some id
  pub new : list_any (λ other. is_id id other.router_id) before ≡ false

-- two configurations don't have one router ID
abbrev pub HaveTwo : Router → Router → Type 0
HaveTwo earlier config = (id : ℕ) → config.router_id ≡ Some id → is_id id earlier.router_id ≡ false

pub record AreIdentified (before configs : List Router) : Type 0 where
  pub own : All (IsOwn before) configs
  pub pairs : AllPairs HaveTwo configs

own_id : (before : List Router) (config : Router) (o : Option ℕ) → config.router_id ≡ o → id_fault before o ≡ None → IsOwn before config
own_id before config None is fine = absurd (none-some NoRouterId (sym fine))
own_id before config (Some id) is fine = record { id = id; is = is; new = by_test (list_any (λ other. is_id id other.router_id) before) fine }
  where
    by_test : (b : Bool) → cond b (Some RouterIdTwice) None ≡ None → b ≡ false
    by_test true h = absurd (none-some RouterIdTwice (sym h))
    by_test false h = refl

no_first : (n : ℕ) (fault : Option LsaFault) (later : Option IdFault) →
    option_or (option_map (λ f. record { fault = f; config = n }) fault) later ≡ None → (fault ≡ None) × (later ≡ None)
no_first n None later h = (refl, h)
no_first n (Some f) later h = absurd (none-some _ (sym h))

any_append : (test : Router → Bool) (before : List Router) (config : Router) →
    list_any test (before ++ config ∷ []) ≡ false → (list_any test before ≡ false) × (test config ≡ false)
any_append test [] config h = (refl, (or_parts (test config) false h).0)
any_append test (x ∷ before) config h =
    let parts = or_parts (test x) (list_any test (before ++ config ∷ [])) h in
    let rest = any_append test before config parts.1 in
    (ap (λ b. b || list_any test before) parts.0 ∙ rest.0, rest.1)

pub identified : (before : List Router) (n : ℕ) (configs : List Router) → first_id_fault before n configs ≡ None → AreIdentified before configs
identified before n [] fine = record { own = All-nil (IsOwn before); pairs = pairs_nil HaveTwo }
identified before n (config ∷ more) fine =
    let parts = no_first n (id_fault before config.router_id) (first_id_fault (before ++ config ∷ []) (n + 1) more) fine in
    let rest = identified (before ++ config ∷ []) (n + 1) more parts.1 in
    record {
      own = All-cons (IsOwn before) config more (own_id before config config.router_id refl parts.0)
          (All-weaker (IsOwn (before ++ config ∷ [])) (IsOwn before)
          (λ x h. record {
            id = h.id;
            is = h.is;
            new = (any_append (λ other. is_id h.id other.router_id) before config h.new).0;
          }) more rest.own);
      pairs = AllPairs-cons HaveTwo config more (All-weaker (IsOwn (before ++ config ∷ [])) (HaveTwo config) (λ x h id is.
          subst (λ i. is_id i config.router_id ≡ false) (same_Some h.id id (sym h.is ∙ is))
          (any_append (λ other. is_id h.id other.router_id) before config h.new).1) more rest.own) rest.pairs;
    }

id_there : (configs : List Router) (r id : ℕ) (config : Router) → slice_get configs r ≡ Some config → config.router_id ≡ Some id → id_of configs r ≡ id
id_there configs r id config at is = ap (λ (o : Option Router). unwrap_or (router_id_in o) 0) at ∙ ap (λ (o : Option ℕ). unwrap_or o 0) is

pub ids_differ : (configs : List Router) → first_id_fault [] 0 configs ≡ None → (q r : ℕ) → q < length configs →
    r < length configs → id_of configs q ≡ id_of configs r → q ≡ r
ids_differ [] fine q r first second same = absurd (omega arith)
ids_differ (c ∷ cs) fine q r first second same =
    elim (cases_order q r) [
      | inl is ↦ is
      | inr unequal ↦ elim unequal [
        | inl below ↦ absurd (two q r below first second same)
        | inr above ↦ absurd (two r q above second first (sym same))
      ]
    ]
  where
    two : (q r : ℕ) → q < r → q < length (c ∷ cs) → r < length (c ∷ cs) → id_of (c ∷ cs) q ≡ id_of (c ∷ cs) r → ⊥
    two q r below first second same =
        let known = identified [] 0 (c ∷ cs) fine in
        let at_q = slice_get-get_or (c ∷ cs) q c first in
        let at_r = slice_get-get_or (c ∷ cs) r c second in
        let one = all_at (IsOwn []) (c ∷ cs) known.own q _ at_q in
        let other = all_at (IsOwn []) (c ∷ cs) known.own r _ at_r in
        let equal : one.id ≡ other.id = sym (id_there (c ∷ cs) q one.id _ at_q one.is) ∙ same ∙ id_there (c ∷ cs) r other.id _ at_r other.is in
        false≢true (sym (pair_at HaveTwo (c ∷ cs) known.pairs q r _ _ below at_q at_r other.id other.is)
        ∙ ap (is_id other.id) one.is ∙ eq-eqb one.id other.id equal)

-- the numbers that are kept are within their range
pub ids_below : (configs : List Router) → All (λ config. IsRangedId config.router_id) configs → (r : ℕ) → r < length configs → id_of configs r < 2 ^ 32
ids_below [] all r within = absurd (omega arith)
ids_below (c ∷ cs) all r within =
    let at = slice_get-get_or (c ∷ cs) r c within in
    by_id _ (all_at (λ config. IsRangedId config.router_id) (c ∷ cs) all r _ at) (ap (λ (o : Option Router). unwrap_or (router_id_in o) 0) at)
  where
    by_id : (o : Option ℕ) → IsRangedId o → id_of (c ∷ cs) r ≡ unwrap_or o 0 → id_of (c ∷ cs) r < 2 ^ 32
    by_id None h is = omega (arith, is)
    by_id (Some id) h is = omega (arith, is, h)

-- a place that passes is among the places
places_some : (n : ℕ) (test : Port → Bool) (xs : List Port) (k : ℕ) (p : Port) → slice_get xs k ≡ Some p → test p ≡ true → 0 < length (places_from n test xs)
places_some n test [] k p at passes = absurd (none-some p at)
places_some n test (x ∷ xs) zero p at passes =
    subst (λ b. 0 < length (cond b (n ∷ places_from (n + 1) test xs) (places_from (n + 1) test xs))) (sym (ap test (same_Some x p at) ∙ passes)) (omega arith)
places_some n test (x ∷ xs) (suc k) p at passes = by_test (test x) (places_some (n + 1) test xs k p at passes)
  where
    by_test : (b : Bool) → 0 < length (places_from (n + 1) test xs) → 0 < length (cond b (n ∷ places_from (n + 1) test xs) (places_from (n + 1) test xs))
    by_test true later = omega arith
    by_test false later = later

abbrev IsThere : List Port → Port → Type 0
IsThere xs p = (k : ℕ) × (slice_get xs k ≡ Some p)

subnets_some : (area : ℕ) (configs : List Router) (s : ℕ) (members : List ℕ) →
    slice_get (database_of area configs).subnets s ≡ Some members → 0 < length members
subnets_some area configs s members at =
    let all : List Port = ports area configs in
    let from = map_at (λ first. places_from 0 (shares_subnet first) (linked all)) (transit_subnets all) s members at in
    let there = all_at (IsThere (linked all)) (transit_subnets all)
    (firsts_all (IsThere (linked all)) [] (linked all)
    (all_from_at (IsThere (linked all)) (linked all) (λ k p at_k. (k, at_k)))) s from.0 from.1 in
    subst (λ (ms : List ℕ). 0 < length ms) (sym from.2) (places_some 0 (shares_subnet from.0) (linked all) there.0 from.0 there.1 (shares_itself from.0))

pub database_fits : (area : ℕ) (configs : List Router) → topology_fault area configs ≡ None → All IsRouter configs →
    first_id_fault [] 0 configs ≡ None → AreFit configs (database_of area configs)
database_fits area configs fine valid known = record {
  count = sym (length-map configs (λ (r : Router). r.name));
  base = database_is area configs fine valid;
  ids = ids_differ configs known;
  addresses = one_link area configs fine valid;
  members = subnets_some area configs;
}

pub built_fits : (configs : List Router) (d : Database) → IsDatabaseOf configs d → All IsRouter configs → first_id_fault [] 0 configs ≡ None → AreFit configs d
built_fits configs d built valid known = subst (AreFit configs) (sym built.database) (database_fits built.area configs built.faultless valid known)
