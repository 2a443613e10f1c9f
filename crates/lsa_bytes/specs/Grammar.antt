-- What the bytes of one LSA say (RFC 2328, A.4.1 to A.4.3). Places are offsets from its first byte.
use Rattle.std.specs.Prelude.{ℕ, zero, suc, ◌+◌, ◌-◌, ◌*◌, ◌/◌, ◌%◌, ◌==◌, ◌&&◌, ◌||◌, not, nat_le, nat_lt, List, [], ◌∷◌, length, drop, map, slice_index, Bool, Option, Some, None, if◌then◌else◌}
use Rattle.std.specs.Option.{option_map}
use Rattle.cost_base.specs.Lists.{numbers_from}
use Rattle.lsa_bytes.specs.declared.LsaLink.{LsaLink}
use Rattle.lsa_bytes.specs.declared.Body.{Body}
use Rattle.lsa_bytes.specs.declared.Body.TheVariants.{Links, Attached}
use Rattle.lsa_bytes.specs.declared.instances.Stamp.{Stamp}
use Rattle.lsa_bytes.specs.declared.instances.Instance.{Instance}
use Rattle.lsa_bytes.specs.Fields.{number_16, number_32}

-- the LS age, of the header
abbrev pub age_of : List ℕ → ℕ
age_of lsa = number_16 lsa 0

-- the LS type, of the header
abbrev pub type_of : List ℕ → ℕ
type_of lsa = slice_index lsa 3

-- the length, of the header: how many bytes the whole LSA has
abbrev pub length_of : List ℕ → ℕ
length_of lsa = number_16 lsa 18

-- LSAs of this LS type are read: router-LSAs and network-LSAs
abbrev pub is_read : ℕ → Bool
is_read type = type == 1 || type == 2

-- a link: ID, data, type, count of TOS and metric, behind which stand four bytes for each TOS
abbrev pub link_at : List ℕ → LsaLink
link_at bytes = record {
  id = number_32 bytes 0;
  address = number_32 bytes 4;
  kind = slice_index bytes 8;
  metric = number_16 bytes 10;
}

-- how many bytes a link takes: 12, and 4 for each TOS
abbrev pub link_length : List ℕ → ℕ
link_length bytes = 12 + 4 * slice_index bytes 9

-- a link's type is from 1 to 4
abbrev pub is_link_type : ℕ → Bool
is_link_type kind = nat_le 1 kind && nat_le kind 4

-- the bytes begin with a whole link of a known type
abbrev pub starts_link : List ℕ → Bool
starts_link bytes = nat_le (link_length bytes) (length bytes) && is_link_type (slice_index bytes 8)

-- the links that the bytes are, if they are so many links and nothing else
abbrev pub links_of : ℕ → List ℕ → Option (List LsaLink)
links_of zero [] = Some []
links_of zero (byte ∷ bytes) = None
links_of (suc n) bytes =
    if starts_link bytes then option_map (λ links. link_at bytes ∷ links) (links_of n (drop (link_length bytes) bytes)) else None

-- a router-LSA has behind its header flags, a byte, the count of links, and the links
abbrev pub links_of_router_lsa : List ℕ → Option (List LsaLink)
links_of_router_lsa lsa = if nat_lt (length lsa) 24 then None else links_of (number_16 lsa 22) (drop 24 lsa)

-- a network-LSA has behind its header a mask and four bytes for each attached router, at least one
abbrev pub attached_in : List ℕ → Option (List ℕ)
attached_in lsa =
    let size = length lsa - 24 in
    if nat_lt size 4 || not (size % 4 == 0) then None
    else Some (map (λ i. number_32 lsa (24 + 4 * i)) (numbers_from 0 (size / 4)))

-- the body of an LSA of this type, where the type is read and the bytes are as the grammar says
abbrev pub body_at : ℕ → List ℕ → Option Body
body_at type lsa =
    if type == 1 then option_map Links (links_of_router_lsa lsa)
    else if type == 2 then option_map Attached (attached_in lsa)
    else None

-- the body of an LSA, where its type is read and its bytes are as the grammar says
abbrev pub body_of : List ℕ → Option Body
body_of lsa = body_at (type_of lsa) lsa

-- what the header says of an LSA at a place: age, sequence number and checksum
abbrev pub stamp_of : ℕ → List ℕ → Stamp
stamp_of place lsa = record { place = place; age = age_of lsa; sequence = number_32 lsa 12; checksum = number_16 lsa 16 }

-- one instance: the LSA at a place with its header and this body; nothing where there is no body
abbrev pub with_body : ℕ → List ℕ → Option Body → List Instance
with_body place lsa None = []
with_body place lsa (Some body) = record {
  stamp = stamp_of place lsa;
  lsa = record { id = number_32 lsa 4; router = number_32 lsa 8; body = body };
} ∷ []

-- what the bytes of an LSA at a place say: one instance, or nothing where its type isn't read
abbrev pub said_at : ℕ → List ℕ → List Instance
said_at place lsa = with_body place lsa (body_of lsa)
