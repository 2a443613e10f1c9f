-- Instances of different LSAs, none of MaxAge: each of them counts.
use Rattle.std.proofs.Common.{◌≡◌, suc, ◌+◌, ◌<◌, ◌&&◌, not, Bool, true, false, cond, nat_eq, List, [], ◌∷◌, ◌++◌, length, get_or, map, filter, AllPairs, Option, None, Some, refl, sym, ap, subst, ◌∙◌, append_assoc, arith}
use Rattle.std.specs.Prelude.{nat_le, count_by}
use Rattle.std.specs.List.{list_any, AllByRecursion}
use Rattle.std.specs.Option.{option_or}
use Rattle.std.specs.Cmp.Derive.{both_true}
use Rattle.std.proofs.lemmas.Bool.{false≢true, false_from_ne_true, leb-true, or_parts, eq-eqb}
use Rattle.std.proofs.lemmas.List.{length-append, length-map, get_or-map, get_or_append_left}
use Rattle.std.proofs.lemmas.List.Folds.{list_any_none, list_any-append}
use Rattle.std.proofs.lemmas.List.Sums.{sum_by-append, sum_by-cons}
use Rattle.std.proofs.Math.Seq.{get_or-append_seam}
use Rattle.lsa_bytes.specs.declared.fault.LsaFault.{LsaFault}
use Rattle.lsa_bytes.specs.declared.fault.LsaFault.TheVariants.{LsaTwice, ZeroMetric, TooManyRouters}
use Rattle.lsa_bytes.specs.declared.Body.{Body}
use Rattle.lsa_bytes.specs.declared.Body.TheVariants.{Links, Attached}
use Rattle.lsa_bytes.specs.declared.Lsa.{Lsa}
use Rattle.lsa_bytes.specs.declared.instances.LsaName.{LsaName}
use Rattle.lsa_bytes.specs.declared.instances.Stamp.{Stamp}
use Rattle.lsa_bytes.specs.declared.instances.Instance.{Instance}
use Rattle.lsa_bytes.specs.Databases.{HaveNoFault, has_links, is_router_lsa, is_same, has_zero_metric}
use Rattle.lsa_bytes.specs.Written.{type_of_body}
use Rattle.lsa_bytes.specs.Instances.{counts_among, is_max_age, is_named, lsas_of, lsa_name_of, newest, same_name, stamps_of, stands_at, those_that_count}
use Rattle.lsa_bytes.specs.Faults.{fault_among, lsa_fault_behind, first_fault, placed}
use Rattle.lsa_bytes.proofs.NewestLaws.{same_is}

-- LSAs of one name are the same
names_same : (a b : Lsa) → lsa_name_of a ≡ lsa_name_of b → is_same b a ≡ true
names_same a b same = by_bodies a.body b.body (ap (λ (n : LsaName). n.kind) same)
  where
    by_bodies : (x y : Body) → type_of_body x ≡ type_of_body y →
        cond (has_links y) (has_links x && nat_eq a.router b.router) (not (has_links x) && nat_eq a.id b.id) ≡ true
    by_bodies (Links links) (Links others) kinds = eq-eqb a.router b.router (ap (λ (n : LsaName). n.router) same)
    by_bodies (Attached routers) (Attached others) kinds = eq-eqb a.id b.id (ap (λ (n : LsaName). n.id) same)
    by_bodies (Links links) (Attached others) kinds = absurd (omega (arith, kinds))
    by_bodies (Attached routers) (Links others) kinds = absurd (omega (arith, kinds))

-- each of them is of another LSA than those behind it
abbrev AreApart : List Instance → Type 0
AreApart [] = Unit {0}
AreApart (instance ∷ more) = (list_any (is_named (lsa_name_of instance.lsa)) more ≡ false) × AreApart more

apart : (all : List Instance) → AllPairs (λ earlier lsa. is_same lsa earlier ≡ false) (lsas_of all) → AreApart all
apart [] different = tt
apart (instance ∷ more) different = (
  list_any_none (is_named (lsa_name_of instance.lsa)) more (λ k d below.
      false_from_ne_true (is_named (lsa_name_of instance.lsa) (get_or more k d)) (λ same.
      (let long : length (lsas_of more) ≡ length more = length-map more (λ (i : Instance). i.lsa) in
      let at : get_or (lsas_of more) k d.lsa ≡ (get_or more k d).lsa = get_or-map (λ (i : Instance). i.lsa) more k d d.lsa below in
      let one : is_same (get_or more k d).lsa instance.lsa ≡ true =
      names_same instance.lsa (get_or more k d).lsa (sym (same_is (lsa_name_of (get_or more k d).lsa) (lsa_name_of instance.lsa) same)) in
      let other : is_same (get_or more k d).lsa instance.lsa ≡ false =
      ap (λ (lsa : Lsa). is_same lsa instance.lsa) (sym at)
      ∙ different 0 (suc k) d.lsa (omega arith) (omega (arith, below, long)) in
      false≢true (sym other ∙ one)))),
  apart more (λ i j d lt within. different (suc i) (suc j) d (omega (arith, lt)) (omega (arith, within))),
)

unnamed : (name : LsaName) (all : List Instance) → list_any (is_named name) all ≡ false → stamps_of name all ≡ []
unnamed name [] none = refl
unnamed name (instance ∷ more) none =
    let parts = or_parts (is_named name instance) (list_any (is_named name) more) none in
    ap (λ (b : Bool). map (λ (i : Instance). i.stamp) (cond b (instance ∷ filter (is_named name) more) (filter (is_named name) more))) parts.0
    ∙ unnamed name more parts.1

named_back : (a b : Instance) → is_named (lsa_name_of a.lsa) b ≡ false → is_named (lsa_name_of b.lsa) a ≡ false
named_back a b none = false_from_ne_true (is_named (lsa_name_of b.lsa) a) (λ same.
    (let names : lsa_name_of a.lsa ≡ lsa_name_of b.lsa = same_is (lsa_name_of a.lsa) (lsa_name_of b.lsa) same in
    false≢true (sym none ∙ ap (λ (n : LsaName). same_name (lsa_name_of b.lsa) n) names ∙ itself (lsa_name_of b.lsa))))
  where
    itself : (name : LsaName) → same_name name name ≡ true
    itself name = both_true (eq-eqb name.kind name.kind refl) (both_true (eq-eqb name.id name.id refl) (eq-eqb name.router name.router refl))

named_itself : (instance : Instance) → is_named (lsa_name_of instance.lsa) instance ≡ true
named_itself instance =
    let name = lsa_name_of instance.lsa in
    both_true (eq-eqb name.kind name.kind refl) (both_true (eq-eqb name.id name.id refl) (eq-eqb name.router name.router refl))

-- an instance among others of other LSAs is the only one of its own
only_one : (before more : List Instance) (instance : Instance) → AreApart (before ++ instance ∷ more) →
    stamps_of (lsa_name_of instance.lsa) (before ++ instance ∷ more) ≡ instance.stamp ∷ []
only_one [] more instance are =
    ap (λ (b : Bool). map (λ (i : Instance). i.stamp) (cond b (instance ∷ filter (is_named (lsa_name_of instance.lsa)) more)
    (filter (is_named (lsa_name_of instance.lsa)) more))) (named_itself instance)
    ∙ ap (λ (stamps : List Stamp). instance.stamp ∷ stamps) (unnamed (lsa_name_of instance.lsa) more are.0)
only_one (first ∷ before) more instance are =
    let name = lsa_name_of instance.lsa in
    let all = before ++ instance ∷ more in
    let later = or_parts (list_any (is_named (lsa_name_of first.lsa)) before) (list_any (is_named (lsa_name_of first.lsa)) (instance ∷ more))
    (sym (list_any-append (is_named (lsa_name_of first.lsa)) before (instance ∷ more)) ∙ are.0) in
    let other = named_back first instance (or_parts (is_named (lsa_name_of first.lsa) instance) (list_any (is_named (lsa_name_of first.lsa)) more) later.1).0 in
    ap (λ (b : Bool). map (λ (i : Instance). i.stamp) (cond b (first ∷ filter (is_named name) all) (filter (is_named name) all))) other
    ∙ only_one before more instance are.1

rest_count : (before rest : List Instance) → AreApart (before ++ rest) → AllByRecursion (λ i. is_max_age i.stamp ≡ false) rest →
    filter (counts_among (before ++ rest)) rest ≡ rest
rest_count before [] are young = refl
rest_count before (instance ∷ more) are young =
    let all = before ++ instance ∷ more in
    let counts : counts_among all instance ≡ true = both_true (ap not young.0)
    (ap (λ (stamps : List Stamp). stands_at instance.stamp.place (newest stamps)) (only_one before more instance are)
    ∙ eq-eqb instance.stamp.place instance.stamp.place refl) in
    let further : (before ++ instance ∷ []) ++ more ≡ all = append_assoc before (instance ∷ []) more in
    ap (λ (b : Bool). cond b (instance ∷ filter (counts_among all) more) (filter (counts_among all) more)) counts
    ∙ ap (λ (rest : List Instance). instance ∷ rest)
    (subst (λ (whole : List Instance). filter (counts_among whole) more ≡ more) further
    (rest_count (before ++ instance ∷ []) more (subst AreApart (sym further) are) young.1))

-- an LSA among others without a fault has none behind those before it
no_fault_behind : (before : List Lsa) (lsa : Lsa) (more : List Lsa) → HaveNoFault (before ++ lsa ∷ more) → lsa_fault_behind before lsa ≡ None
no_fault_behind before lsa more none =
    let whole = before ++ lsa ∷ more in
    let within : length before < length whole = omega (arith, length-append before (lsa ∷ more)) in
    let room : (is_router_lsa lsa && nat_le 1000 (count_by is_router_lsa before)) ≡ false =
    by_kind (is_router_lsa lsa) (sum_by-append (λ l. cond (is_router_lsa l) 1 0) before (lsa ∷ more)) (sum_by-cons (λ l. cond (is_router_lsa l) 1 0) lsa more)
    in
    let new : list_any (is_same lsa) before ≡ false = list_any_none (is_same lsa) before (λ k d below.
    sym (ap (is_same lsa) (get_or_append_left before (lsa ∷ more) d k below))
    ∙ ap (λ (l : Lsa). is_same l (get_or whole k d)) (sym (get_or-append_seam before lsa more d))
    ∙ none.different k (length before) d below within) in
    let metric : has_zero_metric lsa.body ≡ false =
    ap (λ (l : Lsa). has_zero_metric l.body) (sym (get_or-append_seam before lsa more lsa))
    ∙ none.metrics (length before) lsa within in
    ap (λ (b : Bool). cond b (Some TooManyRouters)
    (cond (list_any (is_same lsa) before) (Some LsaTwice)
    (cond (has_zero_metric lsa.body) (Some ZeroMetric) None))) room
    ∙ ap (λ (b : Bool). cond b (Some LsaTwice) (cond (has_zero_metric lsa.body) (Some ZeroMetric) None)) new
    ∙ ap (λ (b : Bool). cond b (Some ZeroMetric) None) metric
  where
    by_kind : (b : Bool) → count_by is_router_lsa (before ++ lsa ∷ more) ≡ count_by is_router_lsa before + count_by is_router_lsa (lsa ∷ more)
        → count_by is_router_lsa (lsa ∷ more) ≡ cond b 1 0 + count_by is_router_lsa more → (b && nat_le 1000 (count_by is_router_lsa before)) ≡ false
    by_kind true all one = false_from_ne_true (nat_le 1000 (count_by is_router_lsa before))
        (λ full. omega (arith, all, one, none.routers, leb-true 1000 (count_by is_router_lsa before) full))
    by_kind false all one = refl

rest_faultless : (before : List Lsa) (rest : List Instance) → HaveNoFault (before ++ lsas_of rest) → first_fault before rest ≡ None
rest_faultless before [] none = refl
rest_faultless before (instance ∷ more) none =
    ap (λ (found : Option LsaFault). option_or (placed instance.stamp.place found) (first_fault (before ++ instance.lsa ∷ []) more))
    (no_fault_behind before instance.lsa (lsas_of more) none)
    ∙ rest_faultless (before ++ instance.lsa ∷ []) more
    (subst HaveNoFault (sym (append_assoc before (instance.lsa ∷ []) (lsas_of more))) none)

-- all of them count, and there is no fault
pub all_count : (all : List Instance) → AllByRecursion (λ i. is_max_age i.stamp ≡ false) all → HaveNoFault (lsas_of all) →
    (fault_among all ≡ None) × (those_that_count all ≡ all)
all_count all young none =
    let count = rest_count [] all (apart all none.different) young in
    (ap (first_fault []) count ∙ rest_faultless [] all none, count)
