-- Where LSAs stand, found by what names them.
use Rattle.std.specs.Prelude.{◌≡◌, ℕ, ◌+◌, ◌==◌, List, [], ◌∷◌, filter, map, count_by, is_some, nat_eq, Bool, Option, Some, None, if◌then◌else◌}
use Rattle.std.specs.List.{list_any}
use Rattle.std.specs.Option.{option_eq, option_or}
use Rattle.std.specs.Ordering.{nat_cmp}
use Rattle.std.specs.BTreeMap.{get}
use Rattle.lsa_bytes.specs.declared.Lsa.{Lsa}
use Rattle.lsa_bytes.specs.declared.vertices.Kind.{Kind}
use Rattle.lsa_bytes.specs.declared.vertices.Kind.TheVariants.{Router, Network}
use Rattle.lsa_bytes.specs.declared.vertices.Spot.{Spot}
use Rattle.lsa_bytes.specs.declared.vertices.Found.{Found}
use Rattle.lsa_bytes.specs.declared.LsaLink.{LsaLink}
use Rattle.lsa_bytes.specs.declared.Body.{Body}
use Rattle.lsa_bytes.specs.declared.Body.TheVariants.{Links, Attached}
use Rattle.lsa_bytes.specs.declared.ends.Ends.{Ends}
use Rattle.lsa_bytes.specs.declared.ends.Ends.TheVariants.{Links as EndsOfLinks, Attached as EndsOfNetwork}
use Rattle.lsa_bytes.specs.Databases.{is_router_lsa, is_network_lsa}
use Rattle.lsa_bytes.specs.AreaGraphs.{has_link, attaches}

-- whether the LSA is a router-LSA or a network-LSA, as the kind says
abbrev pub is_kind : Kind → Lsa → Bool
is_kind Router lsa = is_router_lsa lsa
is_kind Network lsa = is_network_lsa lsa

-- what names an LSA of a kind
abbrev pub name_as : Kind → Lsa → Option ℕ
name_as Router lsa = if is_router_lsa lsa then Some lsa.router else None
name_as Network lsa = if is_router_lsa lsa then None else Some lsa.id

-- the IDs of the links of a type, in order
abbrev pub ids_of_type : ℕ → List LsaLink → List ℕ
ids_of_type kind links = map (λ link. link.id) (filter (λ link. link.kind == kind) links)

-- these numbers are, in any order, the ones that pass a test
abbrev pub ArePassing : List ℕ → (ℕ → Bool) → Type 0
ArePassing numbers test = (number : ℕ) → list_any (λ other. other == number) numbers ≡ test number

-- where a body leads: to the IDs of its links of types 1 and 2, or to the attached routers
abbrev pub AreEnds : Body → Ends → Type 0
AreEnds (Links links) (EndsOfLinks routers networks) =
    ArePassing routers (λ id. has_link 1 id (Links links)) × ArePassing networks (λ id. has_link 2 id (Links links))
AreEnds (Links links) (EndsOfNetwork routers) = ⊥
AreEnds (Attached attached) (EndsOfLinks routers networks) = ⊥
AreEnds (Attached attached) (EndsOfNetwork routers) = ArePassing routers (λ router. attaches router (Attached attached))

-- a spot, if it is the one sought
abbrev pub spot_if : Bool → ℕ → ℕ → Option Spot
spot_if sought number place = if sought then Some (record { number = number; place = place }) else None

-- the first LSA of a kind that the ID names: its number among those of its kind, and its place among all
abbrev pub spot_from : Kind → ℕ → ℕ → ℕ → List Lsa → Option Spot
spot_from kind id number place [] = None
spot_from kind id number place (lsa ∷ more) =
    option_or (spot_if (option_eq nat_eq (name_as kind lsa) (Some id)) number place)
    (spot_from kind id (number + (if is_kind kind lsa then 1 else 0)) (place + 1) more)

-- the look-up has one LSA more, which may have a name
pub record AddsLsa (old new : Found) (name : Option ℕ) (place : ℕ) : Type 0 where
  pub spots : (id : ℕ) → get nat_cmp new.by_name id ≡ option_or (get nat_cmp old.by_name id) (spot_if (option_eq nat_eq name (Some id)) old.count place)
  pub count : new.count ≡ old.count + (if is_some name then 1 else 0)

-- the LSAs of a kind are found by what names them
pub record HasFound (kind : Kind) (lsas : List Lsa) (found : Found) : Type 0 where
  pub spots : (id : ℕ) → get nat_cmp found.by_name id ≡ spot_from kind id 0 0 lsas
  pub count : found.count ≡ count_by (is_kind kind) lsas
