-- Walks over the members of an object and over the items of an array. No public clause cites it.
use Rattle.std.specs.List.{list_any}
use Rattle.cost_base.specs.Lists.{same_bytes}
use Rattle.std.specs.Prelude.{◌∷◌, if◌then◌else◌, ◌≡◌, ℕ, ◌+◌, List, [], ◌++◌, length, drop, Bool, true, false, Option, Some, None}
use Rattle.json.specs.Token.{Token}
use Rattle.json.specs.Json.{Json, null, boolean, number, string, array, object, Items, no_items, item, Members, no_members, member}
use Rattle.json.specs.Tree.{json_tokens, items_tokens, members_tokens}
use Rattle.live_reader.specs.Places.{Placed, Member, Stands, members_at, items_at}
use Rattle.live_reader.specs.declared.tree.Step.{Step}

-- the token with which a value begins
abbrev pub first_token : Json → Token
first_token null = Token.null
first_token (boolean b) = Token.boolean b
first_token (number s) = Token.number s
first_token (string s) = Token.string s
first_token (array _) = Token.begin_array
first_token (object _) = Token.begin_object

-- whether a token opens an object
abbrev pub opens_object : Token → Bool
opens_object Token.begin_object = true
opens_object _ = false

-- whether a token opens an array
abbrev pub opens_array : Token → Bool
opens_array Token.begin_array = true
opens_array _ = false

-- the step goes over the first of these members, where there is one
abbrev pub IsStep : ℕ → Members → Option Step → Type 0
IsStep place no_members found = found ≡ None
IsStep place (member name value more) None = ⊥
IsStep place (member name value more) (Some step) =
    (step.name.now ≡ name) × (step.place ≡ place + 1) × (step.next ≡ place + 1 + length (json_tokens value))

-- the place behind the first of these items, where there is one
abbrev pub IsItemStep : ℕ → Items → Option ℕ → Type 0
IsItemStep place no_items next = next ≡ None
IsItemStep place (item value more) next = next ≡ Some (place + length (json_tokens value))

-- how far a walk over an object's members came: those before the next token were seen, and this holds of them; the rest
-- begin there
pub record HaveSeen (all : List Token) (start : ℕ) (members : Members) (next : ℕ) (Holds : List Member → Type 0) : Type 0 where
  pub seen : List Member
  pub rest : Members
  pub more : List Token
  pub left : drop next all ≡ members_tokens rest ++ more
  pub whole : members_at start members ≡ seen ++ members_at next rest
  pub holds : Holds seen

-- how far a walk over an array's items came: those before the next token were seen, and this holds of them; the rest
-- begin there
pub record HaveSeenItems (all : List Token) (start : ℕ) (items : Items) (next : ℕ) (Holds : List Placed → Type 0) : Type 0 where
  pub seen : List Placed
  pub rest : Items
  pub more : List Token
  pub left : drop next all ≡ items_tokens rest ++ more
  pub whole : items_at start items ≡ seen ++ items_at next rest
  pub holds : Holds seen

-- the steps go over these members, whose values stand at their places
abbrev pub StepOver : List Token → List Step → List Member → Type 0
StepOver all [] [] = Unit {0}
StepOver all (step ∷ steps) (m ∷ members) = (step.name.now ≡ m.name) × (step.place ≡ m.place) × Stands all m.place m.value × StepOver all steps members
StepOver all _ _ = ⊥

-- these values stand at these places
abbrev pub StandAt : List Token → List ℕ → List Placed → Type 0
StandAt all [] [] = Unit {0}
StandAt all (place ∷ places) (p ∷ member_values) = (place ≡ p.place) × Stands all p.place p.value × StandAt all places member_values
StandAt all _ _ = ⊥

-- a member's value stands at a place, where there is one
abbrev pub StandsIf : List Token → Option ℕ → Option Member → Type 0
StandsIf all None None = Unit {0}
StandsIf all (Some place) (Some m) = (place ≡ m.place) × Stands all m.place m.value
StandsIf all _ _ = ⊥

-- the places of steps, without those of whose name a later one comes
abbrev pub last_places : List Step → List ℕ
last_places [] = []
last_places (step ∷ more) =
    if list_any (λ later. same_bytes step.name.now later.name.now) more then last_places more else step.place ∷ last_places more
