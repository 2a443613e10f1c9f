-- What members say by their names, and hexadecimal digits one after another.
use Rattle.std.proofs.Common.{◌≡◌, ℕ, suc, ◌+◌, ◌*◌, ◌^◌, ◌<◌, ◌≤◌, List, ◌++◌, Bool, true, false, cond, length, drop, get_or, Option, Some, None, refl, sym, ap, ◌∙◌, subst, arith}
use Rattle.std.specs.Prelude.{option_map}
use Rattle.std.specs.Option.{option_or, option_and_then}
use Rattle.std.proofs.Math.Nat.{pow-suc, pow-le-pow_right}
use Rattle.std.proofs.lemmas.List.{drop_more}
use Rattle.json.specs.Token.{Token}
use Rattle.json.specs.Json.{Json, null, boolean, number, string, array, object, Members, no_members, member}
use Rattle.json.specs.Tree.{json_tokens, members_tokens}
use Rattle.live_reader.specs.Places.{Stands, Member, members_at, object_members, last_where, member_named}
use Rattle.live_reader.specs.Fields.{hex_digit, hex_behind}
use Rattle.std.specs.List.{list_all}
use Rattle.std.proofs.lemmas.Option.{same_Some}
use Rattle.live_reader.specs.Walks.{StandsIf}
use Rattle.live_reader.specs.JsonLsas.{inner, is_quad, names_area, area_member}
use Rattle.live_reader.proofs.WalkLaws.{member_value, member_rest, object_inside}

abbrev IsThere : {X : Type 0} → Option X → Type 0
IsThere None = ⊥
IsThere (Some x) = Unit {0}

abbrev IfThere : List Token → Option Member → Type 0
IfThere all None = Unit {0}
IfThere all (Some m) = Stands all m.place m.value

if_passes : (all : List Token) (b : Bool) (m : Member) (o : Option Member) → IfThere all o → Stands all m.place m.value →
    IfThere all (option_or o (cond b (Some m) None))
if_passes all true m None later stands = stands
if_passes all false m None later stands = tt
if_passes all b m (Some x) later stands = later

-- the last member that passes a test has its value at its place
last_stands : (all : List Token) (test : Member → Bool) (start : ℕ) (ms : Members) (more : List Token) → drop start all ≡ members_tokens ms ++ more →
    IfThere all (last_where test (members_at start ms))
last_stands all test start no_members more e = tt
last_stands all test start (member name j ms) more e =
    if_passes all (test (record { name = name; place = start + 1; value = j })) _ (last_where test (members_at (start + 1 + length (json_tokens j)) ms))
    (last_stands all test (start + 1 + length (json_tokens j)) ms more (member_rest all start name j ms more e))
    (member_value all start name j ms more e)

pub named_stands : (all : List Token) (test : Member → Bool) (place : ℕ) (j : Json) → Stands all place j →
    IfThere all (option_and_then (last_where test) (object_members place j))
named_stands all test place null stands = tt
named_stands all test place (boolean b) stands = tt
named_stands all test place (number s) stands = tt
named_stands all test place (string s) stands = tt
named_stands all test place (array js) stands = tt
named_stands all test place (object ms) stands =
    let inside = object_inside all place ms stands in
    last_stands all test (place + 1) ms inside.0 inside.1

abbrev some_or : ℕ → Option ℕ → ℕ
some_or d None = d
some_or d (Some n) = n

pick : {X : Type 0} → (all : List Token) (place : ℕ) (result : Option X) (read : ℕ → Json → Option X) (o : Option Member) → IfThere all o →
    Some place ≡ option_map (λ m. m.place) o → ((j : Json) → Stands all place j → result ≡ read place j) →
    result ≡ option_and_then (λ m. read m.place m.value) o
pick all place result read None there e says = absurd (subst IsThere e tt)
pick all place result read (Some m) there e says =
    let same : place ≡ m.place = ap (some_or place) e in
    says m.value (subst (λ p. Stands all p m.value) (sym same) there) ∙ ap (λ p. read p m.value) same

over : {X Y : Type 0} (f : List Member → Option X) (g : X → Option Y) (o : Option (List Member)) →
    option_and_then g (option_and_then f o) ≡ option_and_then (λ ms. option_and_then g (f ms)) o
over f g None = refl
over f g (Some ms) = refl

-- what is read of the value of a name is what the name says
pub read_named : {X : Type 0} → (all : List Token) (name : List ℕ) (place at : ℕ) (j : Json) (result : Option X) (read : ℕ → Json → Option X) →
    Stands all place j →
    Some at ≡ option_map (λ m. m.place) (option_and_then (member_named name) (object_members place j)) → ((v : Json) → Stands all at v → result ≡ read at v) →
    result ≡ option_and_then (λ ms. option_and_then (λ m. read m.place m.value) (member_named name ms)) (object_members place j)
read_named all name place at j result read stands e says =
    pick all at result read (option_and_then (member_named name) (object_members place j)) (named_stands all _ place j stands) e says
    ∙ over (member_named name) (λ m. read m.place m.value) (object_members place j)

-- ---- objects inside

pub first_inner : (name : List ℕ) (o : Option (List Member)) →
    option_and_then (λ ms. option_and_then (λ m. option_map (λ inside. m.place) (object_members m.place m.value)) (member_named name ms)) o
    ≡ option_map (λ (found : ℕ × List Member). found.0) (option_and_then (inner name) o)
first_inner name None = refl
first_inner name (Some ms) = by_name (member_named name ms)
  where
    by_value : (place : ℕ) (o : Option (List Member)) → option_map (λ inside. place) o ≡
        option_map (λ (found : ℕ × List Member). found.0) (option_map (λ inside. (place, inside)) o)
    by_value place None = refl
    by_value place (Some inside) = refl

    by_name : (o : Option Member) → option_and_then (λ m. option_map (λ inside. m.place) (object_members m.place m.value)) o
        ≡ option_map (λ (found : ℕ × List Member). found.0) (option_and_then (λ m. option_map (λ inside. (m.place, inside)) (object_members m.place m.value)) o)
    by_name None = refl
    by_name (Some m) = by_value m.place (object_members m.place m.value)

-- an object inside is there
pub record IsInner (all : List Token) (place : ℕ) (found : Option (ℕ × List Member)) : Type 0 where
  pub members : Members
  pub stands : Stands all place (object members)
  pub is : found ≡ Some (place, members_at (place + 1) members)

pub inner_there : (all : List Token) (name : List ℕ) (place at : ℕ) (j : Json) → Stands all place j →
    Some at ≡ option_map (λ (found : ℕ × List Member). found.0) (option_and_then (inner name) (object_members place j)) →
    IsInner all at (option_and_then (inner name) (object_members place j))
inner_there all name place at j stands e =
    subst (IsInner all at) (over (member_named name) (λ m. option_map (λ inside. (m.place, inside)) (object_members m.place m.value)) (object_members place j))
    (by_member (option_and_then (member_named name) (object_members place j)) (named_stands all _ place j stands)
    (e ∙ sym (ap (option_map (λ (found : ℕ × List Member). found.0)) (over (member_named name)
    (λ m. option_map (λ inside. (m.place, inside)) (object_members m.place m.value)) (object_members place j)))))
  where
    by_value : (m : Member) (v : Json) → Stands all m.place v → Some at ≡
        option_map (λ (found : ℕ × List Member). found.0) (option_map (λ inside. (m.place, inside)) (object_members m.place v)) →
        IsInner all at (option_map (λ inside. (m.place, inside)) (object_members m.place v))
    by_value m null s f = absurd (subst IsThere f tt)
    by_value m (boolean b) s f = absurd (subst IsThere f tt)
    by_value m (number t) s f = absurd (subst IsThere f tt)
    by_value m (string t) s f = absurd (subst IsThere f tt)
    by_value m (array js) s f = absurd (subst IsThere f tt)
    by_value m (object ms) s f =
        let same : at ≡ m.place = ap (some_or at) f in
        record {
          members = ms;
          stands = subst (λ p. Stands all p (object ms)) (sym same) s;
          is = ap (λ p. Some (p, members_at (p + 1) ms)) (sym same);
        }

    by_member : (o : Option Member) → IfThere all o →
        Some at ≡ option_map (λ (found : ℕ × List Member). found.0) (option_and_then (λ m. option_map (λ inside. (m.place, inside))
        (object_members m.place m.value)) o) →
        IsInner all at (option_and_then (λ m. option_map (λ inside. (m.place, inside)) (object_members m.place m.value)) o)
    by_member None there f = absurd (subst IsThere f tt)
    by_member (Some m) there f = by_value m m.value there f

-- where none is found, none is there
pub no_inner : (o : Option (ℕ × List Member)) → None ≡ option_map (λ (found : ℕ × List Member). found.0) o → o ≡ None
no_inner None e = refl
no_inner (Some found) e = absurd (subst IsThere (sym e) tt)

-- ---- hexadecimal digits

-- one more digit, and all are told by what is left
pub hex_more : (text : List ℕ) (i value digit : ℕ) → i < length text → hex_digit (get_or text i 0) ≡ Some digit →
    hex_behind value (drop i text) ≡ hex_behind (value * 16 + digit) (drop (i + 1) text)
hex_more text i value digit within is =
    ap (hex_behind value) (drop_more text i 0 within) ∙ ap (option_and_then (λ d. hex_behind (value * 16 + d) (drop (i + 1) text))) is

pub hex_fails : (text : List ℕ) (i value : ℕ) → i < length text → hex_digit (get_or text i 0) ≡ None → hex_behind value (drop i text) ≡ None
hex_fails text i value within is =
    ap (hex_behind value) (drop_more text i 0 within) ∙ ap (option_and_then (λ d. hex_behind (value * 16 + d) (drop (i + 1) text))) is

pub hex_small : (i value digit : ℕ) → value < 16 ^ i → digit < 16 → value * 16 + digit < 16 ^ (i + 1)
hex_small i value digit small less =
    let one : 16 ^ (i + 1) ≡ 16 ^ suc i = ap (λ n. 16 ^ n) (omega arith) in
    omega (arith, one, pow-suc 16 i)

pub hex_fits : (i value digit : ℕ) → value < 16 ^ i → digit < 16 → i < 8 → value * 16 + digit < 4294967296
hex_fits i value digit small less few =
    let bound : 16 ^ (i + 1) ≤ 16 ^ 8 = pow-le-pow_right {n = 16} (omega arith) {i = i + 1} {j = 8} (omega arith) in
    omega (arith, hex_small i value digit small less, bound)

pub hex_short : (n value : ℕ) → value < 16 ^ n → n ≤ 4 → value < 65536
hex_short n value small few =
    let bound : 16 ^ n ≤ 16 ^ 4 = pow-le-pow_right {n = 16} (omega arith) {i = n} {j = 4} (omega arith) in
    omega (arith, bound)

-- ---- areas

pub area_there : (all : List Token) (area place : ℕ) (found : Option ℕ) (ms : Members) (o : Option (Option Member)) → Stands all place (object ms) →
    area_member area (members_at (place + 1) ms) ≡ o → Some found ≡ option_map (option_map (λ (m : Member). m.place)) o →
    (m : Option Member) × StandsIf all found m × (area_member area (members_at (place + 1) ms) ≡ Some m)
area_there all area place found ms None stands is e = absurd (subst IsThere e tt)
area_there all area place found ms (Some m) stands is e =
    let inside = object_inside all place ms stands in
    let last : last_where (names_area area) (members_at (place + 1) ms) ≡ m = the_same (list_all is_quad (members_at (place + 1) ms)) is in (
      m,
      by_member m (subst (IfThere all) last (last_stands all (names_area area) (place + 1) ms inside.0 inside.1))
          (same_Some found (option_map (λ (m : Member). m.place) m) e),
      is,
    )
  where
    the_same : (b : Bool) → cond b (Some (last_where (names_area area) (members_at (place + 1) ms))) None ≡ Some m →
        last_where (names_area area) (members_at (place + 1) ms) ≡ m
    the_same true f = same_Some _ _ f
    the_same false f = absurd (subst IsThere (sym f) tt)

    by_member : (o : Option Member) → IfThere all o → found ≡ option_map (λ (m : Member). m.place) o → StandsIf all found o
    by_member None there f = subst (λ p. StandsIf all p None) (sym f) tt
    by_member (Some x) there f = subst (λ p. StandsIf all p (Some x)) (sym f) (refl, there)

pub none_among : (o : Option (Option Member)) → None ≡ option_map (option_map (λ (m : Member). m.place)) o → o ≡ None
none_among None e = refl
none_among (Some m) e = absurd (subst IsThere (sym e) tt)
