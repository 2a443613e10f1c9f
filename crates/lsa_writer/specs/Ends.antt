-- The ends of links, as LSAs tell them, and the designated routers of subnets.
use Rattle.std.specs.Prelude.{ℕ, ◌==◌, ◌&&◌, ◌||◌, nat_lt, List, [], ◌∷◌, map, Bool, Option, Some, None, slice_get, slice_index_or, unwrap_or, if◌then◌else◌}
use Rattle.cost_base.specs.Lists.{same_bytes}
use Rattle.interface_model.specs.declared.Interface.{Interface}
use Rattle.interface_model.specs.Records.{Router}
use Rattle.lsdb_build.specs.declared.Linked.{Linked}
use Rattle.lsa_writer.specs.declared.ends.LinkEnd.{LinkEnd}

-- the router ID of a configuration by its number
abbrev pub router_id_in : Option Router → Option ℕ
router_id_in None = None
router_id_in (Some config) = config.router_id

-- the router ID of the configuration of a number; 0 where it has none
abbrev pub id_of : List Router → ℕ → ℕ
id_of configs router = unwrap_or (router_id_in (slice_get configs router)) 0

-- the interfaces of a configuration, where there is one
abbrev pub interfaces_in : Option Router → List Interface
interfaces_in None = []
interfaces_in (Some config) = config.interfaces

-- the interface of a name
abbrev pub interface_named : List ℕ → List Interface → Option Interface
interface_named name [] = None
interface_named name (i ∷ more) = if same_bytes name i.name then Some i else interface_named name more

-- the interface of a link
abbrev pub interface_of_link : List Router → Linked → Option Interface
interface_of_link configs link = interface_named link.interface (interfaces_in (slice_get configs link.router))

-- what stands for the end of a link that isn't there
abbrev pub no_end : LinkEnd
no_end = record { router = 0; address = 0; length = 0; priority = 0 }

-- the end of a link at a router of this ID, with the address, prefix length and priority of its interface
abbrev pub end_with : ℕ → Option Interface → LinkEnd
end_with id None = record { router = id; address = 0; length = 0; priority = 0 }
end_with id (Some i) = record { router = id; address = unwrap_or i.address 0; length = i.length; priority = i.priority }

-- the router ID, and the interface's address, prefix length and priority
abbrev pub end_of : List Router → Linked → LinkEnd
end_of configs link = end_with (id_of configs link.router) (interface_of_link configs link)

-- the ends of links, in their order
abbrev pub link_ends : List Router → List Linked → List LinkEnd
link_ends configs links = map (end_of configs) links

-- the end of the link of a number
abbrev pub end_at : List LinkEnd → ℕ → LinkEnd
end_at ends l = slice_index_or ends l no_end

-- The designated router of a subnet is the member with the greatest priority, of equals the one with the greatest
-- router ID.

-- one end has a greater router priority than another, or the same and a greater router ID (RFC 2328, 9.4)
abbrev pub outranks : LinkEnd → LinkEnd → Bool
outranks a b = nat_lt b.priority a.priority || a.priority == b.priority && nat_lt b.router a.router

-- of an end and others the one that outranks them; the first of equals
abbrev pub first_in_rank : LinkEnd → List LinkEnd → LinkEnd
first_in_rank best [] = best
first_in_rank best (other ∷ more) = first_in_rank (if outranks other best then other else best) more

-- the end that becomes the designated router of a subnet
abbrev pub designated : List LinkEnd → LinkEnd
designated [] = no_end
designated (first ∷ more) = first_in_rank first more

-- the ends of a subnet's members
abbrev pub member_ends : List LinkEnd → List ℕ → List LinkEnd
member_ends ends members = map (end_at ends) members

-- the designated routers' ends, subnet by subnet
abbrev pub designated_ends : List LinkEnd → List (List ℕ) → List LinkEnd
designated_ends ends subnets = map (λ members. designated (member_ends ends members)) subnets
