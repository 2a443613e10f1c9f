-- The links of the router-LSAs that count.
use Rattle.std.specs.Prelude.{ℕ, ◌==◌, ◌&&◌, ◌||◌, List, [], ◌∷◌, Bool, Option, Some, None, if◌then◌else◌}
use Rattle.lsa_bytes.specs.declared.LsaLink.{LsaLink}
use Rattle.lsa_bytes.specs.declared.Body.{Body}
use Rattle.lsa_bytes.specs.declared.Body.TheVariants.{Links, Attached}
use Rattle.lsa_bytes.specs.declared.Lsa.{Lsa}
use Rattle.lsa_writer.specs.declared.ends.LinkEnd.{LinkEnd}
use Rattle.live_area.specs.declared.links.LiveLink.{LiveLink}
use Rattle.live_area.specs.declared.metrics.LinkName.{LinkName}

-- the link leads to a router or into a transit subnet
abbrev pub is_area_link : LsaLink → Bool
is_area_link link = link.kind == 1 || link.kind == 2

-- a link with its advertising router
abbrev pub live_link : ℕ → LsaLink → LiveLink
live_link router link = record { router = router; address = link.address; metric = link.metric }

-- the links of type 1 and 2 among links of a router
abbrev pub live_links_among : ℕ → List LsaLink → List LiveLink
live_links_among router [] = []
live_links_among router (link ∷ more) = if is_area_link link then live_link router link ∷ live_links_among router more else live_links_among router more

-- the links of type 1 and 2 of a body; a network-LSA has none
abbrev pub live_links_in : ℕ → Body → List LiveLink
live_links_in router (Links links) = live_links_among router links
live_links_in router (Attached routers) = []

-- the links of type 1 and 2 of an LSA; a network-LSA has none
abbrev pub live_links_of : Lsa → List LiveLink
live_links_of lsa = live_links_in lsa.router lsa.body

-- two links have one name: one router ID and one address
abbrev pub same_link : LinkName → LinkName → Bool
same_link name other = name.router == other.router && name.address == other.address

-- the name of the link of an end: the end's router ID and address
abbrev pub name_of_end : LinkEnd → LinkName
name_of_end end = record { router = end.router; address = end.address }

-- the name of a link: its advertising router and the address that is its data
abbrev pub name_of_link : LiveLink → LinkName
name_of_link link = record { router = link.router; address = link.address }

-- the end's link has this name
abbrev pub is_end_named : LinkName → LinkEnd → Bool
is_end_named name end = same_link (name_of_end end) name

-- the link has this name
abbrev pub is_link_named_so : LinkName → LiveLink → Bool
is_link_named_so name link = same_link (name_of_link link) name

-- the metric of the first link that has the router ID and the address of an interface's end
abbrev pub metric_at : LinkEnd → List LiveLink → Option ℕ
metric_at end [] = None
metric_at end (link ∷ more) = if is_link_named_so (name_of_end end) link then Some link.metric else metric_at end more
