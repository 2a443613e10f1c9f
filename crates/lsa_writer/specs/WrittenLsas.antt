-- The LSAs of configurations, of the database of an area and of costs of its links (RFC 2328, 12.4.1 and 12.4.2).
use Rattle.std.specs.Prelude.{ℕ, ◌-◌, ◌^◌, ◌==◌, List, [], ◌∷◌, ◌++◌, map, filter, length}
use Rattle.cost_base.specs.Lists.{numbers_from}
use Rattle.interface_model.specs.Records.{Router as Config}
use Rattle.lsdb_build.specs.declared.Far.{Far}
use Rattle.lsdb_build.specs.declared.Far.TheVariants.{Router, Subnet}
use Rattle.lsdb_build.specs.declared.Linked.{Linked}
use Rattle.lsdb_build.specs.Graphs.{Database}
use Rattle.lsa_bytes.specs.declared.LsaLink.{LsaLink}
use Rattle.lsa_bytes.specs.declared.Body.TheVariants.{Links, Attached}
use Rattle.lsa_bytes.specs.Written.{Masked}
use Rattle.lsa_writer.specs.declared.ends.LinkEnd.{LinkEnd}
use Rattle.lsa_writer.specs.declared.said.OwnedLink.{OwnedLink}
use Rattle.lsa_writer.specs.Ends.{id_of, end_of, link_ends, end_at, member_ends, designated, designated_ends}

-- a link over a point-to-point subnet tells the neighbour's router ID, one into a transit subnet the designated
-- router's address; both tell their own address
abbrev pub lsa_link : List Config → List LinkEnd → LinkEnd → Far → ℕ → LsaLink
lsa_link configs designated own (Router r) cost = record { id = id_of configs r; address = own.address; kind = 1; metric = cost }
lsa_link configs designated own (Subnet s) cost = record { id = (end_at designated s).address; address = own.address; kind = 2; metric = cost }

-- what a link's router says of it in its LSA
abbrev pub said_link : List Config → List LinkEnd → Linked → ℕ → OwnedLink
said_link configs designated link cost = record { router = link.router; link = lsa_link configs designated (end_of configs link) link.to cost }

-- what the links say, each at its cost
abbrev pub said_links : List Config → List LinkEnd → List Linked → List ℕ → List OwnedLink
said_links configs designated [] costs = []
said_links configs designated (link ∷ links) [] = []
said_links configs designated (link ∷ links) (cost ∷ costs) = said_link configs designated link cost ∷ said_links configs designated links costs

-- the links without the routers that say them
abbrev pub links_alone : List OwnedLink → List LsaLink
links_alone said = map (λ s. s.link) said

-- what the links of a router say, in order
abbrev pub own_links : ℕ → List OwnedLink → List OwnedLink
own_links router said = filter (λ s. s.router == router) said

-- a router-LSA, which has no mask; its link state ID is its router ID
abbrev pub router_lsa : ℕ → List LsaLink → Masked
router_lsa id links = record { lsa = record { id = id; router = id; body = Links links }; mask = 0 }

-- the router-LSA of the configuration of a number
abbrev pub own_lsa : List Config → List OwnedLink → ℕ → Masked
own_lsa configs said router = router_lsa (id_of configs router) (links_alone (own_links router said))

-- the router-LSAs, in the order of the configurations
abbrev pub router_lsas : List Config → List OwnedLink → List Masked
router_lsas configs said = map (own_lsa configs said) (numbers_from 0 (length configs))

-- the mask of a prefix length
abbrev pub mask_of : ℕ → ℕ
mask_of long = 2 ^ 32 - 2 ^ (32 - long)

-- the router IDs of ends
abbrev pub routers_in : List LinkEnd → List ℕ
routers_in members = map (λ member. member.router) members

-- a network-LSA comes from the designated router, and lists the members' routers
abbrev pub network_lsa : LinkEnd → List LinkEnd → Masked
network_lsa from members = record {
  lsa = record { id = from.address; router = from.router; body = Attached (routers_in members) };
  mask = mask_of from.length;
}

-- the network-LSA of a transit subnet
abbrev pub subnet_lsa : List LinkEnd → List ℕ → Masked
subnet_lsa ends members = network_lsa (designated (member_ends ends members)) (member_ends ends members)

-- the network-LSAs, in the order of the transit subnets
abbrev pub network_lsas : List LinkEnd → List (List ℕ) → List Masked
network_lsas ends subnets = map (subnet_lsa ends) subnets

-- what all links say
abbrev pub all_links_said : List Config → Database → List ℕ → List OwnedLink
all_links_said configs d costs = said_links configs (designated_ends (link_ends configs d.links) d.subnets) d.links costs

-- the router-LSAs in the order of the configurations, then the network-LSAs in the order of the subnets
abbrev pub written_lsas : List Config → Database → List ℕ → List Masked
written_lsas configs d costs = router_lsas configs (all_links_said configs d costs) ++ network_lsas (link_ends configs d.links) d.subnets
