-- What was read of a file of LSAs.
use Rattle.std.specs.Prelude.{◌≡◌, ℕ, ◌*◌, ◌-◌, ◌^◌, ◌≤◌, All, List, length, sum_by, true, Option, Some}
use Rattle.std.specs.List.{concat}
use Rattle.std.specs.Option.{option_or}
use Rattle.cost_base.specs.declared.refusal.Refusal.{Refusal}
use Rattle.cost_base.specs.declared.refusal.Refusal.TheVariants.{Refused, OutOfMemory}
use Rattle.lsa_bytes.specs.declared.fault.LsaFault.{LsaFault}
use Rattle.lsa_bytes.specs.declared.instances.Instance.{Instance}
use Rattle.lsa_bytes.specs.Databases.{has_link_types, size_of_lsa}
use Rattle.lsa_bytes.specs.Instances.{lsas_of}
use Rattle.lsa_bytes.specs.Faults.{TellsLsaFault, fault_among, rest_fault}
use Rattle.lsa_bytes.specs.Files.{FallInto, instances_in}

-- the LSAs of these instances suit a database: their links are of types 1 to 4, and four times their sizes are at most
-- so much
pub record AreSmall (instances : List Instance) (most : ℕ) : Type 0 where
  pub types : All (λ lsa. has_link_types lsa.body ≡ true) (lsas_of instances)
  pub sizes : 4 * sum_by size_of_lsa (lsas_of instances) ≤ most

-- where a refusal comes behind instances, a database may be made of them
abbrev pub AreSmallAt : List Instance → Refusal LsaFault ℕ → Type 0
AreSmallAt instances (Refused fault offset) = AreSmall instances (2 ^ 32 - 2)
AreSmallAt instances OutOfMemory = Unit {0}

-- the bytes say these instances, behind which there is this fault or none
pub record AreReadFrom (bytes : List ℕ) (instances : List Instance) (behind : Option (LsaFault × ℕ)) : Type 0 where
  pub pieces : List (List ℕ)
  pub rest : List ℕ
  pub cut : FallInto bytes pieces rest
  pub said : instances ≡ instances_in 0 pieces
  pub behind_is : behind ≡ rest_fault (length (concat pieces)) rest
  pub small : AreSmall instances (length bytes)

-- the bytes say these instances, and then comes the fault that the refusal tells; want of memory says nothing
abbrev pub EndAt : List ℕ → List Instance → Refusal LsaFault ℕ → Type 0
EndAt bytes instances (Refused fault offset) = AreReadFrom bytes instances (Some (fault, offset))
EndAt bytes instances OutOfMemory = Unit {0}

-- behind instances comes one refusal: another tells the first fault among them, or else that one
abbrev pub TellsFirst : List Instance → Refusal LsaFault ℕ → Refusal LsaFault ℕ → Type 0
TellsFirst instances (Refused fault offset) stop = TellsLsaFault (option_or (fault_among instances) (Some (fault, offset))) stop
TellsFirst instances OutOfMemory stop = stop ≡ OutOfMemory
