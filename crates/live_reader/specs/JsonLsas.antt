-- Router-LSAs, as FRRouting prints them in JSON.
use Rattle.std.specs.Prelude.{ℕ, List, [], ◌∷◌, codes, is_some, nat_eq, Bool, Option, Some, None, Result, Ok, Err, option_map, if◌then◌else◌}
use Rattle.std.specs.List.{list_all}
use Rattle.std.specs.Option.{option_and_then, option_eq}
use Rattle.text_lines.specs.Numbers.{quad}
use Rattle.json.specs.Json.{Json}
use Rattle.lsa_bytes.specs.declared.LsaLink.{LsaLink}
use Rattle.lsa_bytes.specs.declared.Body.TheVariants.{Links}
use Rattle.lsa_bytes.specs.declared.instances.Instance.{Instance}
use Rattle.live_reader.specs.declared.heads.Head.{Head}
use Rattle.live_reader.specs.Places.{Placed, Member, object_members, items_of, member_named, last_where, those_last, member_values}
use Rattle.live_reader.specs.Fields.{quad_named, number_named, hex_named}
use Rattle.live_reader.specs.EachRead.{each_read}
use Rattle.live_reader.specs.JsonLinks.{links_in}

-- what names an LSA and how new it is, where all of it is there
abbrev pub head_made : Option ℕ → Option ℕ → Option ℕ → Option ℕ → Option ℕ → Option Head
head_made (Some id) (Some router) (Some age) (Some sequence) (Some checksum) =
    Some (record { id = id; router = router; age = age; sequence = sequence; checksum = checksum })
head_made _ _ _ _ _ = None

-- what names an LSA and how new it is, as the members of an object say it; None where some of it is missing
abbrev pub head_of : List Member → Option Head
head_of members =
    head_made (quad_named (codes "linkStateId") members) (quad_named (codes "advertisingRouter") members)
    (number_named (codes "lsaAge") 3600 members) (hex_named (codes "lsaSeqNumber") 8 8 members) (hex_named (codes "checksum") 1 4 members)

-- the instance of a router-LSA; its place is that of its object
abbrev pub instance_of : ℕ → Head → List LsaLink → Instance
instance_of place head links = record {
  stamp = record { place = place; age = head.age; sequence = head.sequence; checksum = head.checksum };
  lsa = record { id = head.id; router = head.router; body = Links links };
}

-- the place and the members of the object that is the last member of a name
abbrev pub inner : List ℕ → List Member → Option (ℕ × List Member)
inner name members = option_and_then (λ m. option_map (λ inside. (m.place, inside)) (object_members m.place m.value)) (member_named name members)

-- an instance with its links
abbrev pub with_links : ℕ → Head → Result (List LsaLink) ℕ → Result Instance ℕ
with_links place head (Err lacking) = Err lacking
with_links place head (Ok links) = Ok (instance_of place head links)

-- the router-LSA of an object at a place, of its head and the object of its links; of members of one name the last
-- counts
abbrev pub lsa_with : ℕ → Option Head → Option (ℕ × List Member) → Result Instance ℕ
lsa_with place (Some head) (Some links) = with_links place head (links_in links.0 (member_values (those_last links.1)))
lsa_with place _ _ = Err place

-- the router-LSA of an object at a place; the fault is that of the object around it where there is no object
abbrev pub lsa_read : ℕ → ℕ → Option (List Member) → Result Instance ℕ
lsa_read around place None = Err around
lsa_read around place (Some members) = lsa_with place (head_of members) (inner (codes "routerLinks") members)

-- the router-LSAs of items, or the place of the first object that lacks something
abbrev pub instances_of_values : ℕ → List Placed → Result (List Instance) ℕ
instances_of_values around values = each_read (λ lsa. lsa ∷ []) (lsa_read around) values

-- whether a member's name is a dotted quad
abbrev pub is_quad : Member → Bool
is_quad m = is_some (quad m.name)

-- whether a member's name is that of an area, as a dotted quad (RFC 2328, C.2)
abbrev pub names_area : ℕ → Member → Bool
names_area area m = option_eq nat_eq (quad m.name) (Some area)

-- the last member whose name is that of an area, if there is one; None where some name is no dotted quad
abbrev pub area_member : ℕ → List Member → Option (Option Member)
area_member area members = if list_all is_quad members then Some (last_where (names_area area) members) else None

-- the router-LSAs of an array
abbrev pub items_read : ℕ → Option (List Placed) → Result (List Instance) ℕ
items_read around None = Err around
items_read around (Some items) = instances_of_values around items

-- the router-LSAs of the array of an area, where there is one; none where there isn't
abbrev pub found_read : ℕ → Option Member → Result (List Instance) ℕ
found_read around None = Ok []
found_read around (Some m) = items_read around (items_of m.place m.value)

-- the router-LSAs of an area, among the members of the object of areas at a place
abbrev pub area_lsas_read : ℕ → ℕ → Option (Option Member) → Result (List Instance) ℕ
area_lsas_read around place None = Err around
area_lsas_read around place (Some found) = found_read place found

-- the router-LSAs of an area, by the object of areas with its place
abbrev pub areas_read : ℕ → ℕ → Option (ℕ × List Member) → Result (List Instance) ℕ
areas_read area around None = Err around
areas_read area around (Some areas) = area_lsas_read around areas.0 (area_member area areas.1)

-- the router-LSAs of an area, by the object of router link states with its place
abbrev pub states_read : ℕ → Option (ℕ × List Member) → Result (List Instance) ℕ
states_read area None = Err 0
states_read area (Some states) = areas_read area states.0 (inner (codes "areas") states.1)

-- the router-LSAs of an area that a value says, in order; or the place of the first object that lacks a member that is
-- read here, or has it off its form
abbrev pub live_lsas : ℕ → Json → Result (List Instance) ℕ
live_lsas area value = states_read area (option_and_then (inner (codes "routerLinkStates")) (object_members 0 value))
