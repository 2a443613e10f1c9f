-- LSAs side by side: which are of one name, and what the LSAs of a database keep.
use Rattle.std.specs.Prelude.{◌≡◌, ℕ, ◌+◌, ◌^◌, ◌<◌, ◌≤◌, ◌==◌, ◌&&◌, ◌||◌, not, List, length, sum_by, count_by, Bool, true, false, All, AllPairs, if◌then◌else◌}
use Rattle.std.specs.List.{list_any, list_all}
use Rattle.lsa_bytes.specs.declared.LsaLink.{LsaLink}
use Rattle.lsa_bytes.specs.declared.Body.{Body}
use Rattle.lsa_bytes.specs.declared.Body.TheVariants.{Links, Attached}
use Rattle.lsa_bytes.specs.declared.Lsa.{Lsa}
use Rattle.lsa_bytes.specs.Grammar.{is_link_type}

-- the body is a router-LSA's
abbrev pub has_links : Body → Bool
has_links (Links links) = true
has_links (Attached routers) = false

-- the LSA is a router-LSA
abbrev pub is_router_lsa : Lsa → Bool
is_router_lsa lsa = has_links lsa.body

-- the LSA is a network-LSA
abbrev pub is_network_lsa : Lsa → Bool
is_network_lsa lsa = not (is_router_lsa lsa)

-- the LSA is the router-LSA of this advertising router
abbrev pub is_router_of : ℕ → Lsa → Bool
is_router_of router lsa = is_router_lsa lsa && lsa.router == router

-- the LSA is the network-LSA of this link state ID
abbrev pub is_network_of : ℕ → Lsa → Bool
is_network_of id lsa = is_network_lsa lsa && lsa.id == id

-- two router-LSAs of one advertising router, or two network-LSAs of one link state ID
abbrev pub is_same : Lsa → Lsa → Bool
is_same lsa other = if is_router_lsa lsa then is_router_of lsa.router other else is_network_of lsa.id other

-- the link leads to a router or into a network, and its metric is 0
abbrev pub is_zero_link : LsaLink → Bool
is_zero_link link = (link.kind == 1 || link.kind == 2) && link.metric == 0

-- the body is a router-LSA's that has a link of metric 0 to a router or into a network
abbrev pub has_zero_metric : Body → Bool
has_zero_metric (Links links) = list_any is_zero_link links
has_zero_metric (Attached routers) = false

-- each link of a router-LSA has a type from 1 to 4
abbrev pub has_link_types : Body → Bool
has_link_types (Links links) = list_all (λ link. is_link_type link.kind) links
has_link_types (Attached routers) = true

-- how many links or attached routers a body has
abbrev pub size_of_body : Body → ℕ
size_of_body (Links links) = length links
size_of_body (Attached routers) = length routers

-- an LSA counts one, and so does each of its links or attached routers
abbrev pub size_of_lsa : Lsa → ℕ
size_of_lsa lsa = 1 + size_of_body lsa.body

-- none of the faults that LSAs have beside each other
pub record HaveNoFault (lsas : List Lsa) : Type 0 where
  pub types : All (λ lsa. has_link_types lsa.body ≡ true) lsas
  pub different : AllPairs (λ earlier lsa. is_same lsa earlier ≡ false) lsas
  pub metrics : All (λ lsa. has_zero_metric lsa.body ≡ false) lsas
  pub routers : count_by is_router_lsa lsas ≤ 1000

-- what the LSAs of a database keep
pub record IsLsaDatabase (lsas : List Lsa) : Type 0 where
  pub faultless : HaveNoFault lsas
  pub small : sum_by size_of_lsa lsas < 2 ^ 30
