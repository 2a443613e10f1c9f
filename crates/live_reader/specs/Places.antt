-- JSON values with their places in a text. The place of a value is the number of its first token, counted from 0.
use Rattle.std.specs.Prelude.{◌≡◌, ℕ, ◌+◌, List, [], ◌∷◌, ◌++◌, length, drop, map, Bool, Option, Some, None, if◌then◌else◌}
use Rattle.std.specs.List.{list_any}
use Rattle.std.specs.Option.{option_or}
use Rattle.cost_base.specs.Lists.{same_bytes}
use Rattle.json.specs.Token.{Token}
use Rattle.json.specs.Json.{Json, null, boolean, number, string, array, object, Items, no_items, item, Members, no_members, member}
use Rattle.json.specs.Tree.{json_tokens}

-- a value and its place
pub record Placed : Type 0 where
  pub place : ℕ
  pub value : Json

-- a member of an object: its name, its value and the value's place
pub record Member : Type 0 where
  pub name : List ℕ
  pub place : ℕ
  pub value : Json

-- the members of an object, the first of which begins at a place with its name
abbrev pub members_at : ℕ → Members → List Member
members_at place no_members = []
members_at place (member name value more) =
    record { name = name; place = place + 1; value = value } ∷ members_at (place + 1 + length (json_tokens value)) more

-- the items of an array, the first of which begins at a place
abbrev pub items_at : ℕ → Items → List Placed
items_at place no_items = []
items_at place (item value more) = record { place = place; value = value } ∷ items_at (place + length (json_tokens value)) more

-- the members of a value that begins at a place, where it is an object
abbrev pub object_members : ℕ → Json → Option (List Member)
object_members place null = None
object_members place (boolean b) = None
object_members place (number s) = None
object_members place (string s) = None
object_members place (array _) = None
object_members place (object members) = Some (members_at (place + 1) members)

-- the items of a value that begins at a place, where it is an array
abbrev pub items_of : ℕ → Json → Option (List Placed)
items_of place null = None
items_of place (boolean b) = None
items_of place (number s) = None
items_of place (string s) = None
items_of place (array items) = Some (items_at (place + 1) items)
items_of place (object _) = None

-- the last member that passes a test
abbrev pub last_where : (Member → Bool) → List Member → Option Member
last_where test [] = None
last_where test (m ∷ more) = option_or (last_where test more) (if test m then Some m else None)

-- the last member of a name
abbrev pub member_named : List ℕ → List Member → Option Member
member_named name members = last_where (λ m. same_bytes m.name name) members

-- the members without those of whose name a later one comes
abbrev pub those_last : List Member → List Member
those_last [] = []
those_last (m ∷ more) = if list_any (λ later. same_bytes m.name later.name) more then those_last more else m ∷ those_last more

-- the values of members, with their places
abbrev pub member_values : List Member → List Placed
member_values members = map (λ m. record { place = m.place; value = m.value }) members

-- the tokens have a value at a place
abbrev pub Stands : List Token → ℕ → Json → Type 0
Stands tokens place value = (more : List Token) × (drop place tokens ≡ json_tokens value ++ more)
