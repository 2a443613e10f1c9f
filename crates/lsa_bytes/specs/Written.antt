-- How LSAs are written (RFC 2328, A.4.1 to A.4.3).
use Rattle.std.specs.Prelude.{◌≡◌, ℕ, ◌+◌, ◌*◌, ◌^◌, ◌<◌, All, true, List, [], ◌∷◌, ◌++◌, length, flat_map}
use Rattle.std.specs.Int.{w16, w32, to_be_bytes}
use Rattle.lsa_bytes.specs.declared.LsaLink.{LsaLink}
use Rattle.lsa_bytes.specs.declared.Body.{Body}
use Rattle.lsa_bytes.specs.declared.Body.TheVariants.{Links, Attached}
use Rattle.lsa_bytes.specs.declared.Lsa.{Lsa}
use Rattle.lsa_bytes.specs.Grammar.{is_link_type}

-- an LSA, and the mask of its network, which only a network-LSA has
pub record Masked : Type 0 where
  pub lsa : Lsa
  pub mask : ℕ

-- age 0, options 2, sequence number 80000001 in hexadecimal digits, checksum 0
abbrev pub header : ℕ → ℕ → ℕ → ℕ → List ℕ
header type id router size =
    (0 ∷ 0 ∷ 2 ∷ type ∷ []) ++ (to_be_bytes w32 id ++ (to_be_bytes w32 router ++ (to_be_bytes w32 2147483649 ++ (0 ∷ 0 ∷ to_be_bytes w16 size))))

-- the twelve bytes of a link of a router-LSA, with no TOS
abbrev pub link_bytes : LsaLink → List ℕ
link_bytes link = to_be_bytes w32 link.id ++ (to_be_bytes w32 link.address ++ (link.kind ∷ 0 ∷ to_be_bytes w16 link.metric))

-- the bytes of a body; a router-LSA's flags are 0
abbrev pub body_bytes : ℕ → Body → List ℕ
body_bytes mask (Links links) = 0 ∷ 0 ∷ to_be_bytes w16 (length links) ++ flat_map link_bytes links
body_bytes mask (Attached routers) = to_be_bytes w32 mask ++ flat_map (to_be_bytes w32) routers

-- the LS type: 1 of a router-LSA, 2 of a network-LSA
abbrev pub type_of_body : Body → ℕ
type_of_body (Links links) = 1
type_of_body (Attached routers) = 2

-- the bytes of an LSA: header and body
abbrev pub lsa_bytes : Masked → List ℕ
lsa_bytes m =
    let body = body_bytes m.mask m.lsa.body in
    header (type_of_body m.lsa.body) m.lsa.id m.lsa.router (20 + length body) ++ body

-- the bytes of LSAs, one after the other
abbrev pub bytes_of_all : List Masked → List ℕ
bytes_of_all lsas = flat_map lsa_bytes lsas

-- a link of a router-LSA whose numbers fit their fields (RFC 2328, A.4.2), of a type from 1 to 4
pub record IsWritableLink (link : LsaLink) : Type 0 where
  pub id : link.id < 2 ^ 32
  pub address : link.address < 2 ^ 32
  pub kind : is_link_type link.kind ≡ true
  pub metric : link.metric < 2 ^ 16

-- a body of which the whole LSA's length has room in its 16 bits
abbrev pub CanBeWritten : Body → Type 0
CanBeWritten (Links links) = All IsWritableLink links × (24 + 12 * length links < 2 ^ 16)
CanBeWritten (Attached routers) = All (λ r. r < 2 ^ 32) routers × (0 < length routers) × (24 + 4 * length routers < 2 ^ 16)

-- an LSA whose numbers fit their fields
pub record IsWritable (m : Masked) : Type 0 where
  pub id : m.lsa.id < 2 ^ 32
  pub router : m.lsa.router < 2 ^ 32
  pub body : CanBeWritten m.lsa.body
