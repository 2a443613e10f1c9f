-- Instances that count, taken into a database one after the other.
use Rattle.std.proofs.Common.{◌≡◌, ℕ, ◌+◌, ◌^◌, ◌-◌, ◌≤◌, Bool, true, false, cond, List, [], ◌∷◌, ◌++◌, All, length, filter, Option, None, refl, sym, ap, subst, ◌∙◌, append_assoc, arith}
use Rattle.std.specs.Prelude.{sum_by}
use Rattle.std.specs.Option.{option_or}
use Rattle.std.proofs.lemmas.List.{append-nil}
use Rattle.std.proofs.lemmas.List.Elements.{All-head, All-tail}
use Rattle.std.proofs.lemmas.List.Sums.{sum_by-cons}
use Rattle.cost_base.specs.declared.refusal.Refusal.{Refusal}
use Rattle.cost_base.specs.declared.refusal.Refusal.TheVariants.{Refused, OutOfMemory}
use Rattle.lsa_bytes.specs.declared.fault.LsaFault.{LsaFault}
use Rattle.lsa_bytes.specs.declared.Lsa.{Lsa}
use Rattle.lsa_bytes.specs.declared.instances.Instance.{Instance}
use Rattle.lsa_bytes.specs.Databases.{HaveNoFault, IsLsaDatabase, has_link_types, size_of_lsa}
use Rattle.lsa_bytes.specs.Instances.{counts_among, lsas_of, those_that_count}
use Rattle.lsa_bytes.specs.Faults.{TellsLsaFault, fault_among, lsa_fault_behind, first_fault, placed}
use Rattle.lsa_bytes.specs.Reading.{AreSmall}

-- some of all instances are left, and those before them that count are these, without a fault
pub record IsMidway (all rest : List Instance) (before : List Lsa) : Type 0 where
  pub lsas : before ++ lsas_of (filter (counts_among all) rest) ≡ lsas_of (those_that_count all)
  pub fault : first_fault before (filter (counts_among all) rest) ≡ fault_among all
  pub types : All (λ lsa. has_link_types lsa.body ≡ true) (lsas_of rest)

pub midway_begin : (all rest : List Instance) (before : List Lsa) (most : ℕ) → AreSmall all most → rest ≡ all → before ≡ [] → IsMidway all rest before
midway_begin all rest before most small is none =
    subst (λ (r : List Instance). IsMidway all r before) (sym is)
    (subst (λ (b : List Lsa). IsMidway all all b) (sym none) (record { lsas = refl; fault = refl; types = small.types }))

-- the first of those that are left counts, or doesn't
pub type_of_first : (all rest : List Instance) (instance : Instance) (before : List Lsa) →
    IsMidway all (instance ∷ rest) before → has_link_types instance.lsa.body ≡ true
type_of_first all rest instance before is = All-head (λ lsa. has_link_types lsa.body ≡ true) instance.lsa (lsas_of rest) is.types

seen : (all rest : List Instance) (instance : Instance) (b : Bool) → counts_among all instance ≡ b →
    filter (counts_among all) (instance ∷ rest) ≡ cond b (instance ∷ filter (counts_among all) rest) (filter (counts_among all) rest)
seen all rest instance b is = ap (λ (c : Bool). cond c (instance ∷ filter (counts_among all) rest) (filter (counts_among all) rest)) is

pub midway_counts : (all rest : List Instance) (instance : Instance) (before after : List Lsa) →
    IsMidway all (instance ∷ rest) before → counts_among all instance ≡ true →
    lsa_fault_behind before instance.lsa ≡ None → after ≡ before ++ instance.lsa ∷ [] → IsMidway all rest after
midway_counts all rest instance before after is counts none after_is =
    let first = seen all rest instance true counts in
    let later = filter (counts_among all) rest in
    subst (IsMidway all rest) (sym after_is) (record {
      lsas = append_assoc before (instance.lsa ∷ []) (lsas_of later)
          ∙ sym (ap (λ (i : List Instance). before ++ lsas_of i) first) ∙ is.lsas;
      fault = sym (ap (first_fault before) first
          ∙ ap (λ (found : Option LsaFault). option_or (placed instance.stamp.place found) (first_fault (before ++ instance.lsa ∷ []) later)) none)
          ∙ is.fault;
      types = All-tail (λ lsa. has_link_types lsa.body ≡ true) instance.lsa (lsas_of rest) is.types;
    })

pub midway_passes : (all rest : List Instance) (instance : Instance) (before : List Lsa) →
    IsMidway all (instance ∷ rest) before → counts_among all instance ≡ false → IsMidway all rest before
midway_passes all rest instance before is counts =
    let first = seen all rest instance false counts in
    record {
      lsas = sym (ap (λ (i : List Instance). before ++ lsas_of i) first) ∙ is.lsas;
      fault = sym (ap (first_fault before) first) ∙ is.fault;
      types = All-tail (λ lsa. has_link_types lsa.body ≡ true) instance.lsa (lsas_of rest) is.types;
    }

-- the first of those that are left has a fault
pub midway_told : (all rest : List Instance) (instance : Instance) (before : List Lsa) (stop : Refusal LsaFault ℕ) →
    IsMidway all (instance ∷ rest) before → counts_among all instance ≡ true →
    TellsLsaFault (placed instance.stamp.place (lsa_fault_behind before instance.lsa)) stop → TellsLsaFault (fault_among all) stop
midway_told all rest instance before OutOfMemory is counts told = tt
midway_told all rest instance before (Refused fault offset) is counts told =
    sym is.fault ∙ ap (first_fault before) (seen all rest instance true counts)
    ∙ ap (λ (found : Option (LsaFault × ℕ)). option_or found (first_fault (before ++ instance.lsa ∷ []) (filter (counts_among all) rest))) told

-- none is left
pub midway_end : (all rest : List Instance) (before : List Lsa) → IsMidway all rest before → length rest ≡ 0 →
    (fault_among all ≡ None) × (before ≡ lsas_of (those_that_count all))
midway_end all [] before is none = (sym is.fault, sym (append-nil before) ∙ is.lsas)
midway_end all (instance ∷ rest) before is none = absurd (omega (arith, none))

-- those that pass a test are no greater than all
filter_small : (p : Instance → Bool) (all : List Instance) → sum_by size_of_lsa (lsas_of (filter p all)) ≤ sum_by size_of_lsa (lsas_of all)
filter_small p [] = omega arith
filter_small p (instance ∷ more) = by_test (p instance) (filter_small p more)
  where
    by_test : (b : Bool) → sum_by size_of_lsa (lsas_of (filter p more)) ≤ sum_by size_of_lsa (lsas_of more) →
        sum_by size_of_lsa (lsas_of (cond b (instance ∷ filter p more) (filter p more))) ≤ sum_by size_of_lsa (lsas_of (instance ∷ more))
    by_test true least = omega (
      arith,
      least,
      sum_by-cons size_of_lsa instance.lsa (lsas_of (filter p more)),
      sum_by-cons size_of_lsa instance.lsa (lsas_of more),
    )
    by_test false least = omega (arith, least, sum_by-cons size_of_lsa instance.lsa (lsas_of more))

pub counted_database : (all : List Instance) (before lsas : List Lsa) → AreSmall all (2 ^ 32 - 2) → before ≡ lsas_of (those_that_count all) →
    lsas ≡ before → HaveNoFault before → IsLsaDatabase lsas
counted_database all before lsas small are same none =
    subst IsLsaDatabase (sym same) (record {
      faultless = none;
      small = omega (arith, ap (sum_by size_of_lsa) are, filter_small (counts_among all) all, small.sizes);
    })
