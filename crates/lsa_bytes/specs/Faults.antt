-- The faults of LSA bytes, in their order.
use Rattle.std.specs.Prelude.{◌≡◌, ℕ, ◌&&◌, ◌||◌, not, nat_le, nat_lt, List, [], ◌∷◌, ◌++◌, length, take, count_by, is_some, Option, Some, None, if◌then◌else◌}
use Rattle.std.specs.List.{list_any}
use Rattle.std.specs.Option.{option_map, option_or}
use Rattle.cost_base.specs.declared.refusal.Refusal.{Refusal}
use Rattle.cost_base.specs.declared.refusal.Refusal.TheVariants.{Refused, OutOfMemory}
use Rattle.lsa_bytes.specs.declared.fault.LsaFault.{LsaFault}
use Rattle.lsa_bytes.specs.declared.fault.LsaFault.TheVariants.{ShortLsa, BadLength, BadBody, LsaTwice, ZeroMetric, TooManyRouters}
use Rattle.lsa_bytes.specs.declared.Lsa.{Lsa}
use Rattle.lsa_bytes.specs.declared.instances.Instance.{Instance}
use Rattle.lsa_bytes.specs.Grammar.{type_of, length_of, is_read, body_of}
use Rattle.lsa_bytes.specs.Databases.{is_router_lsa, is_same, has_zero_metric}
use Rattle.lsa_bytes.specs.Instances.{those_that_count}

-- fewer bytes are left than a header or than the length says, or the length is below a header's
abbrev pub length_fault : List ℕ → Option LsaFault
length_fault rest =
    if nat_lt (length rest) 20 || nat_lt (length rest) (length_of rest) then Some ShortLsa
    else if nat_lt (length_of rest) 20 then Some BadLength
    else None

-- the body of a type that is read isn't as the grammar says
abbrev pub body_fault : List ℕ → Option LsaFault
body_fault lsa = if is_read (type_of lsa) && not (is_some (body_of lsa)) then Some BadBody else None

-- the bytes that are left don't begin with an LSA as the grammar says
abbrev pub form_fault : List ℕ → Option LsaFault
form_fault rest = option_or (length_fault rest) (body_fault (take (length_of rest) rest))

-- a fault, with the place where it is
abbrev pub placed : ℕ → Option LsaFault → Option (LsaFault × ℕ)
placed place found = option_map (λ fault. (fault, place)) found

-- the fault where bytes that are left begin, and there are some
abbrev pub rest_fault : ℕ → List ℕ → Option (LsaFault × ℕ)
rest_fault place [] = None
rest_fault place (byte ∷ bytes) = placed place (form_fault (byte ∷ bytes))

-- the fault of an LSA that counts, behind those before it that count
abbrev pub lsa_fault_behind : List Lsa → Lsa → Option LsaFault
lsa_fault_behind before lsa =
    if is_router_lsa lsa && nat_le 1000 (count_by is_router_lsa before) then Some TooManyRouters
    else if list_any (is_same lsa) before then Some LsaTwice
    else if has_zero_metric lsa.body then Some ZeroMetric
    else None

-- the first fault of instances that count, behind the LSAs before them
abbrev pub first_fault : List Lsa → List Instance → Option (LsaFault × ℕ)
first_fault before [] = None
first_fault before (instance ∷ more) =
    option_or (placed instance.stamp.place (lsa_fault_behind before instance.lsa)) (first_fault (before ++ instance.lsa ∷ []) more)

-- the first fault among instances, of which those that count may have one
abbrev pub fault_among : List Instance → Option (LsaFault × ℕ)
fault_among all = first_fault [] (those_that_count all)

-- a refusal of LSA bytes tells the fault that was found and the byte at which it stands; want of memory says nothing
abbrev pub TellsLsaFault : Option (LsaFault × ℕ) → Refusal LsaFault ℕ → Type 0
TellsLsaFault found (Refused fault offset) = found ≡ Some (fault, offset)
TellsLsaFault found OutOfMemory = Unit {0}
