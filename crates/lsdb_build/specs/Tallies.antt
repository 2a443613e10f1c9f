-- How often keys came, and the keys of interfaces.
use Rattle.std.specs.Prelude.{◌≡◌, ℕ, Bool, ◌==◌, ◌&&◌, nat_lt, List, unwrap_or, count_by}
use Rattle.std.specs.Bool.{beq}
use Rattle.indexmap.specs.IndexMap.{IndexMap, get}
use Rattle.interface_model.specs.Addresses.{subnet}
use Rattle.lsdb_build.specs.declared.port.Subnet.{Subnet}
use Rattle.lsdb_build.specs.Neighbours.{Port, is_broadcast}

module _ {K S : Type 0} (eq : K → K → Bool) where
  -- how often a key came
  abbrev pub count_of : IndexMap K ℕ S → K → ℕ
  count_of counts key = unwrap_or (get eq counts key) 0

  -- the map counts the keys of a list
  abbrev pub IsTally : IndexMap K ℕ S → List K → Type 0
  IsTally counts keys = (key : K) → count_of counts key ≡ count_by (λ k. eq k key) keys

-- the address under a prefix length
abbrev pub subnet_of_length : Port → ℕ → Subnet
subnet_of_length p length = record { length = length; address = subnet p.address length }

-- the subnet of an interface
abbrev pub subnet_of : Port → Subnet
subnet_of p = subnet_of_length p p.interface.length

-- two subnets have one prefix and one length
abbrev pub same_subnet : Subnet → Subnet → Bool
same_subnet s t = s.length == t.length && s.address == t.address

-- the router and the subnet of an interface
abbrev pub member_of : Port → ℕ × Subnet
member_of p = (p.router, subnet_of p)

-- the two keys, each of a router and a subnet, have the same router and the same subnet
abbrev pub same_member : ℕ × Subnet → ℕ × Subnet → Bool
same_member a b = a.0 == b.0 && same_subnet a.1 b.1

-- the two keys, each of a yes or no and a subnet, are the same
abbrev pub same_trait : Bool × Subnet → Bool × Subnet → Bool
same_trait a b = beq a.0 b.0 && same_subnet a.1 b.1

-- an interface's subnet, with whether the interface is broadcast
abbrev pub kind_on : Port → Bool × Subnet
kind_on p = (is_broadcast p, subnet_of p)

-- an interface's subnet, with whether the interface may become its designated router
abbrev pub rank_on : Port → Bool × Subnet
rank_on p = (nat_lt 0 p.interface.priority, subnet_of p)

-- the address of an interface
abbrev pub port_address : Port → ℕ
port_address p = p.address
