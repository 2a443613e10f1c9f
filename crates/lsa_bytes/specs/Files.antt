-- Files of LSAs, one after the other.
use Rattle.std.specs.Prelude.{◌≡◌, ℕ, ◌+◌, List, [], ◌∷◌, ◌++◌, length, is_some, true, Option, Some, None, Result, Ok, Err}
use Rattle.std.specs.List.{concat, AllByRecursion}
use Rattle.std.specs.Option.{option_or}
use Rattle.cost_base.specs.declared.refusal.Refusal.{Refusal}
use Rattle.cost_base.specs.declared.refusal.Refusal.TheVariants.{Refused, OutOfMemory}
use Rattle.lsa_bytes.specs.declared.fault.LsaFault.{LsaFault}
use Rattle.lsa_bytes.specs.declared.Lsa.{Lsa}
use Rattle.lsa_bytes.specs.declared.instances.Instance.{Instance}
use Rattle.lsa_bytes.specs.Grammar.{length_of, said_at}
use Rattle.lsa_bytes.specs.Instances.{those_that_count, lsas_of}
use Rattle.lsa_bytes.specs.Faults.{form_fault, fault_among, rest_fault}

-- the bytes are one LSA, as long as it says and as the grammar says
abbrev pub IsLsa : List ℕ → Type 0
IsLsa lsa = (length_of lsa ≡ length lsa) × (form_fault lsa ≡ None)

-- the bytes are over, or what they begin with is off the grammar
abbrev pub BreaksOff : List ℕ → Type 0
BreaksOff [] = Unit {0}
BreaksOff (byte ∷ bytes) = is_some (form_fault (byte ∷ bytes)) ≡ true

-- bytes fall into LSAs, and a rest that begins with none
pub record FallInto (bytes : List ℕ) (pieces : List (List ℕ)) (rest : List ℕ) : Type 0 where
  pub whole : bytes ≡ concat pieces ++ rest
  pub lsas : AllByRecursion IsLsa pieces
  pub over : BreaksOff rest

-- the instances that LSAs one after the other say, the first of which stands at this place
abbrev pub instances_in : ℕ → List (List ℕ) → List Instance
instances_in place [] = []
instances_in place (lsa ∷ more) = said_at place lsa ++ instances_in (place + length lsa) more

-- LSAs, unless there is a fault
abbrev pub fault_or : Option (LsaFault × ℕ) → List Lsa → Result (List Lsa) (LsaFault × ℕ)
fault_or None lsas = Ok lsas
fault_or (Some fault) lsas = Err fault

-- what instances come to, behind which there is this fault or none: those that count, or the first fault
abbrev pub decided : List Instance → Option (LsaFault × ℕ) → Result (List Lsa) (LsaFault × ℕ)
decided all behind = fault_or (option_or (fault_among all) behind) (lsas_of (those_that_count all))

-- what the bytes come to: LSAs, or the first fault
pub record ComesTo (bytes : List ℕ) (outcome : Result (List Lsa) (LsaFault × ℕ)) : Type 0 where
  pub pieces : List (List ℕ)
  pub rest : List ℕ
  pub cut : FallInto bytes pieces rest
  pub is : outcome ≡ decided (instances_in 0 pieces) (rest_fault (length (concat pieces)) rest)

-- the bytes are LSAs without a fault, and these are those that count
abbrev pub Say : List ℕ → List Lsa → Type 0
Say bytes lsas = ComesTo bytes (Ok lsas)

-- the refusal tells the first fault; want of memory says nothing
abbrev pub Refuses : List ℕ → Refusal LsaFault ℕ → Type 0
Refuses bytes (Refused fault offset) = ComesTo bytes (Err (fault, offset))
Refuses bytes OutOfMemory = Unit {0}
