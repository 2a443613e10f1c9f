-- Members seen one after another.
use Rattle.std.proofs.Common.{◌≡◌, ℕ, ◌+◌, List, [], ◌∷◌, ◌++◌, Bool, true, false, cond, Option, Some, None, refl, sym, ap, ◌∙◌, subst}
use Rattle.std.specs.Prelude.{option_map, T}
use Rattle.std.specs.Option.{option_or}
use Rattle.json.specs.Json.{Json, null, boolean, number, string, array, object, Items, Members}
use Rattle.live_reader.specs.Places.{Member, last_where, object_members, items_of, members_at, items_at}
use Rattle.live_reader.specs.Walks.{first_token, opens_object, opens_array}

either : (b : Bool) (m : Member) (found first : Option Member) → option_or (cond b (Some m) found) first ≡ cond b (Some m) (option_or found first)
either true m found first = refl
either false m found first = refl

-- the last one that passes, with one more behind
pub last_where-push : (test : Member → Bool) (xs : List Member) (m : Member) → last_where test (xs ++ m ∷ []) ≡ cond (test m) (Some m) (last_where test xs)
last_where-push test [] m = refl
last_where-push test (x ∷ xs) m =
    ap (λ o. option_or o (cond (test x) (Some x) None)) (last_where-push test xs m) ∙ either (test m) m (last_where test xs) (cond (test x) (Some x) None)

pub last_place-here : (test : Member → Bool) (xs : List Member) (m : Member) → test m ≡ true →
    Some m.place ≡ option_map (λ x. x.place) (last_where test (xs ++ m ∷ []))
last_place-here test xs m e = sym (ap (option_map (λ x. x.place)) (last_where-push test xs m ∙ ap (λ b. cond b (Some m) (last_where test xs)) e))

pub last_place-before : (test : Member → Bool) (xs : List Member) (m : Member) (found : Option ℕ) → test m ≡ false →
    found ≡ option_map (λ x. x.place) (last_where test xs) → found ≡ option_map (λ x. x.place) (last_where test (xs ++ m ∷ []))
last_place-before test xs m found e is =
    is ∙ sym (ap (option_map (λ x. x.place)) (last_where-push test xs m ∙ ap (λ b. cond b (Some m) (last_where test xs)) e))

abbrev IsThere : {X : Type 0} → Option X → Type 0
IsThere None = ⊥
IsThere (Some x) = Unit {0}

abbrev some_or : ℕ → Option ℕ → ℕ
some_or d None = d
some_or d (Some n) = n

-- where a first member is found, an object stands
pub object_there : (place n : ℕ) (j : Json) → Some n ≡ option_map (λ ms. place + 1) (object_members place j) →
    (ms : Members) × (j ≡ object ms) × (n ≡ place + 1)
object_there place n null e = absurd (subst IsThere e tt)
object_there place n (boolean b) e = absurd (subst IsThere e tt)
object_there place n (number s) e = absurd (subst IsThere e tt)
object_there place n (string s) e = absurd (subst IsThere e tt)
object_there place n (array js) e = absurd (subst IsThere e tt)
object_there place n (object ms) e = (ms, refl, ap (some_or n) e)

pub array_there : (place n : ℕ) (j : Json) → Some n ≡ option_map (λ js. place + 1) (items_of place j) → (js : Items) × (j ≡ array js) × (n ≡ place + 1)
array_there place n null e = absurd (subst IsThere e tt)
array_there place n (boolean b) e = absurd (subst IsThere e tt)
array_there place n (number s) e = absurd (subst IsThere e tt)
array_there place n (string s) e = absurd (subst IsThere e tt)
array_there place n (array js) e = (js, refl, ap (some_or n) e)
array_there place n (object ms) e = absurd (subst IsThere e tt)

none_mapped : {X : Type 0} (f : X → ℕ) (o : Option X) → None ≡ option_map f o → o ≡ None
none_mapped f None e = refl
none_mapped f (Some x) e = absurd (subst IsThere (sym e) tt)

-- where none is found, none stands
pub no_members : (place : ℕ) (j : Json) → None ≡ option_map (λ ms. place + 1) (object_members place j) → object_members place j ≡ None
no_members place j e = none_mapped _ (object_members place j) e

pub no_items : (place : ℕ) (j : Json) → None ≡ option_map (λ js. place + 1) (items_of place j) → items_of place j ≡ None
no_items place j e = none_mapped _ (items_of place j) e

-- a mapped something is not nothing
pub never_none : (n : ℕ) → None ≡ Some n → ⊥
never_none n e = subst IsThere (sym e) tt

-- where an object opens
pub opened_object : (place : ℕ) (j : Json) → opens_object (first_token j) ≡ true →
    (ms : Members) × (j ≡ object ms) × (object_members place j ≡ Some (members_at (place + 1) ms))
opened_object place null e = absurd (subst T (sym e) tt)
opened_object place (boolean b) e = absurd (subst T (sym e) tt)
opened_object place (number s) e = absurd (subst T (sym e) tt)
opened_object place (string s) e = absurd (subst T (sym e) tt)
opened_object place (array js) e = absurd (subst T (sym e) tt)
opened_object place (object ms) e = (ms, refl, refl)

-- where none does
pub unopened_object : (place : ℕ) (j : Json) → opens_object (first_token j) ≡ false → object_members place j ≡ None
unopened_object place null e = refl
unopened_object place (boolean b) e = refl
unopened_object place (number s) e = refl
unopened_object place (string s) e = refl
unopened_object place (array js) e = refl
unopened_object place (object ms) e = absurd (subst T e tt)

-- where an array opens
pub opened_array : (place : ℕ) (j : Json) → opens_array (first_token j) ≡ true →
    (js : Items) × (j ≡ array js) × (items_of place j ≡ Some (items_at (place + 1) js))
opened_array place null e = absurd (subst T (sym e) tt)
opened_array place (boolean b) e = absurd (subst T (sym e) tt)
opened_array place (number s) e = absurd (subst T (sym e) tt)
opened_array place (string s) e = absurd (subst T (sym e) tt)
opened_array place (array js) e = (js, refl, refl)
opened_array place (object ms) e = absurd (subst T (sym e) tt)

-- where none does
pub unopened_array : (place : ℕ) (j : Json) → opens_array (first_token j) ≡ false → items_of place j ≡ None
unopened_array place null e = refl
unopened_array place (boolean b) e = refl
unopened_array place (number s) e = refl
unopened_array place (string s) e = refl
unopened_array place (array js) e = absurd (subst T e tt)
unopened_array place (object ms) e = refl
