-- The links of a router-LSA, as FRRouting prints them in JSON.
use Rattle.std.specs.Prelude.{ℕ, ◌==◌, List, codes, Option, Some, None, Result, Err, option_map, option_to_list, ok_or, if◌then◌else◌}
use Rattle.std.specs.Option.{option_and_then}
use Rattle.cost_base.specs.Lists.{same_bytes}
use Rattle.lsa_bytes.specs.declared.LsaLink.{LsaLink}
use Rattle.live_reader.specs.Places.{Member, Placed}
use Rattle.live_reader.specs.EachRead.{each_read}
use Rattle.live_reader.specs.Fields.{text_of_name, quad_named, number_named}

-- the link type of RFC 2328, A.4.2, that a text names; 0 where it is none that counts here
abbrev pub link_kind_of : List ℕ → ℕ
link_kind_of text =
    if same_bytes text (codes "another Router (point-to-point)") then 1
    else if same_bytes text (codes "a Transit Network") then 2
    else 0

-- the name of the member that has the link ID
abbrev pub far_name : ℕ → List ℕ
far_name kind = if kind == 1 then codes "neighborRouterId" else codes "designatedRouterAddress"

-- a link, where all that it says is there
abbrev pub link_made : ℕ → Option ℕ → Option ℕ → Option ℕ → Option LsaLink
link_made kind (Some id) (Some address) (Some metric) = Some (record { id = id; address = address; kind = kind; metric = metric })
link_made kind _ _ _ = None

-- the link of a kind that the members of an object say
abbrev pub link_with : ℕ → List Member → Option LsaLink
link_with kind members =
    link_made kind (quad_named (far_name kind) members) (quad_named (codes "routerInterfaceAddress") members)
    (number_named (codes "tos0Metric") 65535 members)

-- the link of a kind that the members of an object say; none where the kind is 0, whose links are passed over
abbrev pub link_of_kind : ℕ → List Member → Option (Option LsaLink)
link_of_kind kind members = if kind == 0 then Some None else option_map Some (link_with kind members)

-- the link that the members of an object say; None where a member is missing or off its form
abbrev pub link_said : List Member → Option (Option LsaLink)
link_said members = option_and_then (λ text. link_of_kind (link_kind_of text) members) (text_of_name (codes "linkType") members)

-- the link of an object at a place; the fault is that of the object around it where there is no object
abbrev pub link_read : ℕ → ℕ → Option (List Member) → Result (Option LsaLink) ℕ
link_read around place None = Err around
link_read around place (Some members) = ok_or (link_said members) place

-- the links of values, or the place of the first object that lacks something
abbrev pub links_in : ℕ → List Placed → Result (List LsaLink) ℕ
links_in around values = each_read option_to_list (link_read around) values
