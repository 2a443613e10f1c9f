-- Instances of one LSA, and the newest of them (RFC 2328, 12.1 and 13.1).
use Rattle.std.specs.Prelude.{ℕ, ◌-◌, ◌==◌, ◌&&◌, not, nat_le, nat_lt, int_lt, List, [], ◌∷◌, filter, map, Bool, true, false, Option, Some, None, if◌then◌else◌}
use Rattle.std.specs.Int.{w32, cast_signed}
use Rattle.lsa_bytes.specs.declared.Lsa.{Lsa}
use Rattle.lsa_bytes.specs.declared.instances.LsaName.{LsaName}
use Rattle.lsa_bytes.specs.declared.instances.Stamp.{Stamp}
use Rattle.lsa_bytes.specs.declared.instances.Instance.{Instance}
use Rattle.lsa_bytes.specs.Written.{type_of_body}

-- type, link state ID and advertising router name an LSA
abbrev pub lsa_name_of : Lsa → LsaName
lsa_name_of lsa = record { kind = type_of_body lsa.body; id = lsa.id; router = lsa.router }

-- the names are those of one LSA
abbrev pub same_name : LsaName → LsaName → Bool
same_name name other = name.kind == other.kind && (name.id == other.id && name.router == other.router)

-- the age is MaxAge, 3600, or more: the LSA is flushed (RFC 2328, 14)
abbrev pub is_max_age : Stamp → Bool
is_max_age stamp = nat_le 3600 stamp.age

-- RFC 2328, 13.1: the greater sequence number, as a signed number, is newer; of equals the greater checksum; of equals
-- the one of MaxAge; of equals the one that is younger by more than MaxAgeDiff; else they are the same instance
abbrev pub is_newer : Stamp → Stamp → Bool
is_newer stamp other =
    if not (stamp.sequence == other.sequence) then int_lt (cast_signed w32 other.sequence) (cast_signed w32 stamp.sequence)
    else if not (stamp.checksum == other.checksum) then nat_lt other.checksum stamp.checksum
    else if is_max_age stamp && not (is_max_age other) then true
    else if is_max_age other && not (is_max_age stamp) then false
    else nat_lt 900 (other.age - stamp.age)

-- what stands of an LSA where an instance comes behind others: this one if there was none or it is newer
abbrev pub newer_of : Option Stamp → Stamp → Stamp
newer_of None stamp = stamp
newer_of (Some other) stamp = if is_newer stamp other then stamp else other

-- what stands of an LSA where instances come one after the other
abbrev pub newest_behind : Option Stamp → List Stamp → Option Stamp
newest_behind found [] = found
newest_behind found (stamp ∷ more) = newest_behind (Some (newer_of found stamp)) more

-- The newest of instances: each is compared with the one that stands so far, in their order. Of three whose ages lie
-- less and more than MaxAgeDiff apart each may be as new as the next and the last newer than the first, so the order
-- decides.
abbrev pub newest : List Stamp → Option Stamp
newest stamps = newest_behind None stamps

-- the instance is one of the LSA of this name
abbrev pub is_named : LsaName → Instance → Bool
is_named name instance = same_name (lsa_name_of instance.lsa) name

-- the instances of an LSA, in order
abbrev pub stamps_of : LsaName → List Instance → List Stamp
stamps_of name all = map (λ instance. instance.stamp) (filter (is_named name) all)

-- an instance that stands here is found
abbrev pub stands_at : ℕ → Option Stamp → Bool
stands_at place None = false
stands_at place (Some stamp) = stamp.place == place

-- an instance counts where it is the newest of its LSA's and isn't of MaxAge
abbrev pub counts_among : List Instance → Instance → Bool
counts_among all instance =
    not (is_max_age instance.stamp) && stands_at instance.stamp.place (newest (stamps_of (lsa_name_of instance.lsa) all))

-- the instances that count, in order
abbrev pub those_that_count : List Instance → List Instance
those_that_count all = filter (counts_among all) all

-- the LSAs of instances
abbrev pub lsas_of : List Instance → List Lsa
lsas_of instances = map (λ instance. instance.lsa) instances
