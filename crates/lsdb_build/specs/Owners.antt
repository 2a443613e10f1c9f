-- The routers that are noted at prefixes: of each prefix one router, or that there are several.
use Rattle.std.specs.Prelude.{◌≡◌, ℕ, ◌<◌, ◌==◌, Bool, true, false, not, if◌then◌else◌, Option, Some, None}
use Rattle.indexmap.specs.IndexMap.{IndexMap, get}
use Rattle.lsdb_build.specs.declared.port.Subnet.{Subnet}
use Rattle.lsdb_build.specs.declared.owners.Owner.{Owner}
use Rattle.lsdb_build.specs.declared.owners.Owner.TheVariants.{One, Several}
use Rattle.lsdb_build.specs.Neighbours.{Port}
use Rattle.lsdb_build.specs.Tallies.{same_subnet, subnet_of, subnet_of_length}

-- what is noted at a prefix with one router more: the router, or that there are several
abbrev pub joined_owner : Option Owner → ℕ → Owner
joined_owner None router = One router
joined_owner (Some (One first)) router = if first == router then One first else Several
joined_owner (Some Several) router = Several

-- whether what is noted at a prefix has the router, as its one router or as one of several
abbrev pub has_router : Option Owner → ℕ → Bool
has_router None router = false
has_router (Some (One first)) router = first == router
has_router (Some Several) router = true

-- whether what is noted at a prefix may have a router other than this one
abbrev pub has_other : Option Owner → ℕ → Bool
has_other None router = false
has_other (Some (One first)) router = not (first == router)
has_other (Some Several) router = true

-- the router is noted at a prefix
abbrev pub IsOwnerNoted : {S : Type 0} → IndexMap Subnet Owner S → ℕ → Subnet → Type 0
IsOwnerNoted owners router prefix = has_router (get same_subnet owners prefix) router ≡ true

-- an interface's router is noted at its subnet
abbrev pub HasSubnet : {S : Type 0} → IndexMap Subnet Owner S → Port → Type 0
HasSubnet owners p = IsOwnerNoted owners p.router (subnet_of p)

-- an interface's router is noted at the shorter prefixes in which its subnet lies
abbrev pub HasPrefixes : {S : Type 0} → IndexMap Subnet Owner S → Port → Type 0
HasPrefixes owners p = (length : ℕ) → length < p.interface.length → IsOwnerNoted owners p.router (subnet_of_length p length)
