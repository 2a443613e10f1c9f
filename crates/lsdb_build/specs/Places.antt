-- The places of interfaces, found by their subnets.
use Rattle.std.specs.Prelude.{◌≡◌, ℕ, Bool, false, List, [], Option, Some, None, Vec}
use Rattle.indexmap.specs.IndexMap.{IndexMap, get}
use Rattle.lsdb_build.specs.declared.port.Subnet.{Subnet}
use Rattle.lsdb_build.specs.Neighbours.{Port, shares_subnet}
use Rattle.lsdb_build.specs.Tallies.{same_subnet, subnet_of}
use Rattle.lsdb_build.specs.Topology.{places_from}

-- the places of a list, none where there is no list
abbrev pub places_or_none : {A : Type 0} → Option (Vec ℕ A) → List ℕ
places_or_none None = []
places_or_none (Some places) = places.items

-- the places that are kept for a subnet
abbrev pub places_at : {A S : Type 0} → IndexMap Subnet (Vec ℕ A) S → Subnet → List ℕ
places_at places key = places_or_none (get same_subnet places key)

-- for each interface's subnet the places of the interfaces on it are kept, in order
abbrev pub ArePlaces : {A S : Type 0} → IndexMap Subnet (Vec ℕ A) S → List Port → Type 0
ArePlaces places ports = (p : Port) → places_at places (subnet_of p) ≡ places_from 0 (shares_subnet p) ports

-- whether there is an interface that passes
abbrev pub passes : (Port → Bool) → Option Port → Bool
passes test None = false
passes test (Some p) = test p
