-- Where the running area differs from its configurations: the lines of a comparison, in order.
use Rattle.std.specs.Prelude.{ℕ, ◌+◌, ◌==◌, ◌&&◌, not, List, [], ◌∷◌, ◌++◌, flat_map, length, count_by, slice_index, nat_eq, option_to_list, Bool, Option, Some, None, if◌then◌else◌}
use Rattle.std.specs.List.{list_any}
use Rattle.std.specs.Option.{option_eq}
use Rattle.interface_model.specs.Records.{Router}
use Rattle.lsdb_build.specs.declared.Linked.{Linked}
use Rattle.lsdb_build.specs.Graphs.{Database, router_of}
use Rattle.lsa_bytes.specs.declared.Lsa.{Lsa}
use Rattle.lsa_bytes.specs.Databases.{is_router_lsa, is_router_of}
use Rattle.lsa_bytes.specs.Ids.{is_id}
use Rattle.lsa_writer.specs.declared.ends.LinkEnd.{LinkEnd}
use Rattle.lsa_writer.specs.Ends.{link_ends}
use Rattle.live_area.specs.declared.Difference.{Difference}
use Rattle.live_area.specs.declared.Difference.TheVariants.{Absent, Cost, Missing, Stranger, Unknown, Same}
use Rattle.live_area.specs.declared.links.LiveLink.{LiveLink}
use Rattle.live_area.specs.declared.interfaces.Compared.{Compared}
use Rattle.live_area.specs.LiveLinks.{is_end_named, live_links_of, metric_at, name_of_link}

-- the linked interfaces of these ends, numbered from `l` on, each with its cost and with what the router-LSAs say of it
abbrev pub compared_from : List Lsa → List LiveLink → List Linked → List ℕ → ℕ → List LinkEnd → List Compared
compared_from lsas live links costs l [] = []
compared_from lsas live links costs l (end ∷ more) =
    record {
      router = router_of links l;
      link = l;
      cost = slice_index costs l;
      counts = list_any (is_router_of end.router) lsas;
      metric = metric_at end live;
    } ∷ compared_from lsas live links costs (l + 1) more

-- the line of an interface whose router's router-LSA counts
abbrev pub compared_line : Compared → Option ℕ → Option Difference
compared_line interface None = Some (Missing interface.link)
compared_line interface (Some live) = if live == interface.cost then None else Some (Cost interface.link interface.cost live)

-- the line of an interface; where no router-LSA of its router counts that is said once, at the router's first interface
abbrev pub link_line : Option ℕ → Compared → Option Difference
link_line before interface =
    if interface.counts then compared_line interface interface.metric
    else if option_eq nat_eq before (Some interface.router) then None
    else Some (Absent interface.router)

-- the lines of interfaces, which stand in the order of their routers, behind one of the router `before`
abbrev pub compared_lines : Option ℕ → List Compared → List Difference
compared_lines before [] = []
compared_lines before (interface ∷ more) = option_to_list (link_line before interface) ++ compared_lines (Some interface.router) more

-- the interface has a link with its present cost
abbrev pub is_as_said : Compared → Bool
is_as_said interface = option_eq nat_eq interface.metric (Some interface.cost)

-- the link has this address as its data
abbrev pub has_address : ℕ → LiveLink → Bool
has_address address link = link.address == address

-- the line of a link behind others of its router-LSA: none where it is that of a linked interface
abbrev pub unknown_line : List LinkEnd → List LiveLink → LiveLink → Option Difference
unknown_line ends before link =
    if list_any (is_end_named (name_of_link link)) ends && not (list_any (has_address link.address) before) then None
    else Some (Unknown link.router link.address link.metric)

-- the lines of the links of a router-LSA
abbrev pub unknown_lines : List LinkEnd → List LiveLink → List LiveLink → List Difference
unknown_lines ends before [] = []
unknown_lines ends before (link ∷ more) = option_to_list (unknown_line ends before link) ++ unknown_lines ends (before ++ link ∷ []) more

-- the lines of a router-LSA
abbrev pub lines_of_router : List Router → List LinkEnd → Lsa → List Difference
lines_of_router configs ends lsa =
    if list_any (λ config. is_id lsa.router config.router_id) configs then unknown_lines ends [] (live_links_of lsa) else Stranger lsa.router ∷ []

-- the lines of an LSA: only router-LSAs have any
abbrev pub lsa_lines : List Router → List LinkEnd → Lsa → List Difference
lsa_lines configs ends lsa = if is_router_lsa lsa then lines_of_router configs ends lsa else []

-- the linked interfaces beside the LSAs that count
abbrev pub all_compared : List Router → Database → List ℕ → List Lsa → List Compared
all_compared configs lsdb costs lsas = compared_from lsas (flat_map live_links_of lsas) lsdb.links costs 0 (link_ends configs lsdb.links)

-- all lines of a comparison: those of the linked interfaces, those of the router-LSAs, and the count
abbrev pub difference_lines : List Router → Database → List ℕ → List Lsa → List Difference
difference_lines configs lsdb costs lsas =
    compared_lines None (all_compared configs lsdb costs lsas)
    ++ (flat_map (lsa_lines configs (link_ends configs lsdb.links)) lsas
    ++ Same (count_by is_as_said (all_compared configs lsdb costs lsas)) (length lsdb.links) ∷ [])
