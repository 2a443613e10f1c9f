-- The LSAs of a text are few: each of them and of their links has a token of its own.
use Rattle.std.proofs.Common.{◌≡◌, ℕ, suc, ◌+◌, ◌<◌, ◌≤◌, List, [], ◌∷◌, ◌++◌, Bool, true, false, cond, length, Option, Some, None, refl, sym, ap, ◌∙◌, subst, arith, length-append}
use Rattle.std.specs.Prelude.{codes, sum_by, option_map, option_to_list, ok_or, Result, Ok, Err, All}
use Rattle.std.specs.List.{list_all, list_any, AllByRecursion}
use Rattle.std.specs.Option.{option_or, option_and_then}
use Rattle.std.proofs.lemmas.List.{length-map}
use Rattle.std.proofs.lemmas.List.Sums.{sum_by-cons}
use Rattle.cost_base.proofs.ListLemmas.{all_from_each}
use Rattle.cost_base.specs.Lists.{same_bytes}
use Rattle.json.specs.Json.{Json, null, boolean, number, string, array, object, Items, no_items, item, Members, no_members, member}
use Rattle.json.specs.Tree.{json_tokens, items_tokens, members_tokens}
use Rattle.std.proofs.lemmas.Bool.{and_from}
use Rattle.std.proofs.lemmas.Option.{same_Some}
use Rattle.lsa_bytes.specs.declared.Lsa.{Lsa}
use Rattle.lsa_bytes.specs.declared.LsaLink.{LsaLink}
use Rattle.lsa_bytes.specs.declared.instances.Instance.{Instance}
use Rattle.lsa_bytes.specs.Grammar.{is_link_type}
use Rattle.lsa_bytes.specs.Databases.{has_link_types, size_of_lsa}
use Rattle.lsa_bytes.specs.Instances.{lsas_of}
use Rattle.live_reader.specs.declared.heads.Head.{Head}
use Rattle.live_reader.specs.Places.{Placed, Member, members_at, items_at, object_members, items_of, member_named, last_where, those_last, member_values}
use Rattle.live_reader.specs.Fields.{text_of_name}
use Rattle.live_reader.specs.EachRead.{said_before}
use Rattle.live_reader.specs.JsonLinks.{link_kind_of, link_made, link_of_kind, link_said, link_read, links_in}
use Rattle.live_reader.specs.JsonLsas.{head_of, inner, with_links, lsa_with, lsa_read, instances_of_values, items_read, found_read, area_lsas_read, areas_read, states_read, live_lsas, area_member, names_area, is_quad}

abbrev IsOkay : {X : Type 0} → Result X ℕ → Type 0
IsOkay (Ok x) = Unit {0}
IsOkay (Err e) = ⊥

never : {X P : Type 0} (e : ℕ) (x : X) → Err e ≡ Ok x → P
never e x is = absurd (subst IsOkay (sym is) tt)

abbrev ok_else : {X : Type 0} → X → Result X ℕ → X
ok_else d (Ok x) = x
ok_else d (Err e) = d

okay : {X : Type 0} (a b : X) → ◌≡◌ {A = Result X ℕ} (Ok a) (Ok b) → a ≡ b
okay a b is = ap (ok_else a) is

abbrev IsThere : {X : Type 0} → Option X → Type 0
IsThere None = ⊥
IsThere (Some x) = Unit {0}

-- ---- links

-- the links of so many values: they are no more, and of types 1 and 2
pub record AreFewLinks (n : ℕ) (links : List LsaLink) : Type 0 where
  pub few : length links ≤ n
  pub types : list_all (λ link. is_link_type link.kind) links ≡ true

made_kind : (kind : ℕ) (a b c : Option ℕ) (link : LsaLink) → option_map Some (link_made kind a b c) ≡ Some (Some link) → link.kind ≡ kind
made_kind kind (Some a) (Some b) (Some c) link is = sym (ap (λ (l : LsaLink). l.kind) (same_Some _ _ (same_Some _ _ is)))
made_kind kind None b c link is = absurd (subst IsThere (sym is) tt)
made_kind kind (Some a) None c link is = absurd (subst IsThere (sym is) tt)
made_kind kind (Some a) (Some b) None link is = absurd (subst IsThere (sym is) tt)

of_kind : (b c : Bool) (members : List Member) (link : LsaLink) → link_of_kind (cond b 1 (cond c 2 0)) members ≡ Some (Some link) →
    is_link_type link.kind ≡ true
of_kind true c members link is = ap is_link_type (made_kind 1 _ _ _ link is)
of_kind false true members link is = ap is_link_type (made_kind 2 _ _ _ link is)
of_kind false false members link is = absurd (subst IsThere (sym (same_Some {A = Option LsaLink} _ _ is)) tt)

of_text : (o : Option (List ℕ)) (members : List Member) (link : LsaLink) →
    option_and_then (λ text. link_of_kind (link_kind_of text) members) o ≡ Some (Some link) → is_link_type link.kind ≡ true
of_text None members link is = absurd (subst IsThere (sym is) tt)
of_text (Some text) members link is =
    of_kind (same_bytes text (codes "another Router (point-to-point)")) (same_bytes text (codes "a Transit Network")) members link is

read_kind : (o : Option (Option LsaLink)) (place : ℕ) (link : Option LsaLink) → ok_or o place ≡ Ok link → o ≡ Some link
read_kind None place link is = never place link is
read_kind (Some found) place link is = ap Some (okay found link is)

link_kind : (around place : ℕ) (o : Option (List Member)) (link : LsaLink) → link_read around place o ≡ Ok (Some link) → is_link_type link.kind ≡ true
link_kind around place None link is = never around (Some link) is
link_kind around place (Some members) link is = of_text (text_of_name (codes "linkType") members) members link (read_kind (link_said members) place (Some link) is)

link_more : (n : ℕ) (link : Option LsaLink) (links all : List LsaLink) → ((l : LsaLink) → link ≡ Some l → is_link_type l.kind ≡ true) → AreFewLinks n links →
    option_to_list link ++ links ≡ all → AreFewLinks (suc n) all
link_more n None links all kind few is = record {
  few = omega (arith, few.few, ap length is);
  types = ap (list_all (λ (l : LsaLink). is_link_type l.kind)) (sym is) ∙ few.types;
}
link_more n (Some l) links all kind few is = record {
  few = omega (arith, few.few, ap length is);
  types = ap (list_all (λ (l : LsaLink). is_link_type l.kind)) (sym is) ∙
      and_from (is_link_type l.kind) (list_all (λ (l : LsaLink). is_link_type l.kind) links) (kind l refl) few.types;
}

behind_few : (n : ℕ) (r : Result (Option LsaLink) ℕ) (m : Result (List LsaLink) ℕ) (links : List LsaLink) →
    ((l : LsaLink) → r ≡ Ok (Some l) → is_link_type l.kind ≡ true) → ((ls : List LsaLink) → m ≡ Ok ls → AreFewLinks n ls) →
    said_before option_to_list r m ≡ Ok links → AreFewLinks (suc n) links
behind_few n (Err e) m links kind few is = never e links is
behind_few n (Ok link) (Err e) links kind few is = never e links is
behind_few n (Ok link) (Ok ls) links kind few is = link_more n link ls links (λ l e. kind l (ap Ok e)) (few ls refl) (okay _ links is)

pub links_few : (around : ℕ) (ps : List Placed) (links : List LsaLink) → links_in around ps ≡ Ok links → AreFewLinks (length ps) links
links_few around [] links is = record {
  few = omega (arith, ap length (okay _ links is));
  types = ap (list_all (λ (l : LsaLink). is_link_type l.kind)) (sym (okay _ links is));
}
links_few around (p ∷ ps) links is =
    behind_few (length ps) (link_read around p.place (object_members p.place p.value)) (links_in around ps) links
    (λ l e. link_kind around p.place (object_members p.place p.value) l e) (λ ls e. links_few around ps ls e) is

-- ---- members

members_few : (start : ℕ) (ms : Members) → length (members_at start ms) ≤ length (members_tokens ms)
members_few start no_members = omega arith
members_few start (member name j ms) =
    omega (arith, members_few (start + 1 + length (json_tokens j)) ms, length-append (json_tokens j) (members_tokens ms))

left_few : (b : Bool) (n m : ℕ) (more : List Member) (x : Member) → length more ≤ n → length (cond b more (x ∷ more)) ≤ suc n
left_few true n m more x few = omega (arith, few)
left_few false n m more x few = omega (arith, few)

last_few : (members : List Member) → length (those_last members) ≤ length members
last_few [] = omega arith
last_few (m ∷ members) = left_few (list_any (λ (later : Member). same_bytes m.name later.name) members) (length members) 0 (those_last members) m
    (last_few members)

abbrev IsSmaller : ℕ → Option Member → Type 0
IsSmaller n None = Unit {0}
IsSmaller n (Some m) = length (json_tokens m.value) < n

smaller_if : (n : ℕ) (b : Bool) (m : Member) (o : Option Member) → IsSmaller n o → length (json_tokens m.value) < n →
    IsSmaller n (option_or o (cond b (Some m) None))
smaller_if n true m None later here = here
smaller_if n false m None later here = tt
smaller_if n b m (Some x) later here = later

wider : (n k : ℕ) (o : Option Member) → n ≤ k → IsSmaller n o → IsSmaller k o
wider n k None le less = tt
wider n k (Some m) le less = omega (arith, less, le)

last_smaller : (test : Member → Bool) (start : ℕ) (ms : Members) → IsSmaller (length (members_tokens ms)) (last_where test (members_at start ms))
last_smaller test start no_members = tt
last_smaller test start (member name j ms) =
    let whole = length-append (json_tokens j) (members_tokens ms) in
    smaller_if (length (members_tokens (member name j ms))) (test (record { name = name; place = start + 1; value = j })) _
    (last_where test (members_at (start + 1 + length (json_tokens j)) ms))
    (wider (length (members_tokens ms)) (length (members_tokens (member name j ms))) _ (omega (arith, whole))
    (last_smaller test (start + 1 + length (json_tokens j)) ms))
    (omega (arith, whole))

-- an object inside has fewer tokens
pub record IsSmallInside (n : ℕ) (found : ℕ × List Member) : Type 0 where
  pub inside : Members
  pub is : found.1 ≡ members_at (found.0 + 1) inside
  pub smaller : length (members_tokens inside) < n

small_value : (n place : ℕ) (j : Json) (found : ℕ × List Member) → length (json_tokens j) < n →
    option_map (λ inside. (place, inside)) (object_members place j) ≡ Some found → IsSmallInside n found
small_value n place null found less is = absurd (subst IsThere (sym is) tt)
small_value n place (boolean b) found less is = absurd (subst IsThere (sym is) tt)
small_value n place (number s) found less is = absurd (subst IsThere (sym is) tt)
small_value n place (string s) found less is = absurd (subst IsThere (sym is) tt)
small_value n place (array js) found less is = absurd (subst IsThere (sym is) tt)
small_value n place (object ms) found less is =
    subst (IsSmallInside n) (same_Some _ found is) (record { inside = ms; is = refl; smaller = omega (arith, less) })

small_member : (n : ℕ) (o : Option Member) (found : ℕ × List Member) → IsSmaller n o →
    option_and_then (λ m. option_map (λ inside. (m.place, inside)) (object_members m.place m.value)) o ≡ Some found → IsSmallInside n found
small_member n None found less is = absurd (subst IsThere (sym is) tt)
small_member n (Some m) found less is = small_value n m.place m.value found less is

pub inner_small : (name : List ℕ) (start : ℕ) (ms : Members) (found : ℕ × List Member) → inner name (members_at start ms) ≡ Some found →
    IsSmallInside (length (members_tokens ms)) found
inner_small name start ms found is = small_member (length (members_tokens ms)) (member_named name (members_at start ms)) found (last_smaller _ start ms) is

-- ---- LSAs

-- one LSA: its links are of types 1 and 2, and it and they are no more than so many
pub record IsSmallLsa (n : ℕ) (lsa : Lsa) : Type 0 where
  pub types : has_link_types lsa.body ≡ true
  pub size : size_of_lsa lsa ≤ n

small_links : (n place : ℕ) (head : Head) (found : ℕ × List Member) (lsa : Instance) → IsSmallInside n found →
    with_links place head (links_in found.0 (member_values (those_last found.1))) ≡ Ok lsa → IsSmallLsa (suc n) lsa.lsa
small_links n place head found lsa small is = by_links (links_in found.0 (member_values (those_last found.1)))
    (λ links e. links_few found.0 (member_values (those_last found.1)) links e) is
  where
    by_links : (r : Result (List LsaLink) ℕ) → ((links : List LsaLink) → r ≡ Ok links → AreFewLinks (length (member_values (those_last found.1))) links) →
        with_links place head r ≡ Ok lsa → IsSmallLsa (suc n) lsa.lsa
    by_links (Err e) few f = never e lsa f
    by_links (Ok links) few f =
        let all = few links refl in
        let same = okay _ lsa f in
        let count : length (member_values (those_last found.1)) ≡ length (those_last found.1) = length-map (those_last found.1) _ in
        let bound : length links ≤ n = omega (
          arith,
          all.few,
          count,
          last_few found.1,
          ap length small.is,
          members_few (found.0 + 1) small.inside,
          small.smaller,
        ) in
        subst (λ (l : Instance). IsSmallLsa (suc n) l.lsa) same (record { types = all.types; size = omega (arith, bound) })

small_with : (n place : ℕ) (head : Option Head) (o : Option (ℕ × List Member)) (lsa : Instance) →
    ((found : ℕ × List Member) → o ≡ Some found → IsSmallInside n found) →
    lsa_with place head o ≡ Ok lsa → IsSmallLsa (suc n) lsa.lsa
small_with n place None None lsa small is = never place lsa is
small_with n place None (Some found) lsa small is = never place lsa is
small_with n place (Some head) None lsa small is = never place lsa is
small_with n place (Some head) (Some found) lsa small is = small_links n place head found lsa (small found refl) is

lsa_small : (around place : ℕ) (j : Json) (lsa : Instance) → lsa_read around place (object_members place j) ≡ Ok lsa →
    IsSmallLsa (length (json_tokens j)) lsa.lsa
lsa_small around place null lsa is = never around lsa is
lsa_small around place (boolean b) lsa is = never around lsa is
lsa_small around place (number s) lsa is = never around lsa is
lsa_small around place (string s) lsa is = never around lsa is
lsa_small around place (array js) lsa is = never around lsa is
lsa_small around place (object ms) lsa is =
    small_with (length (members_tokens ms)) place (head_of (members_at (place + 1) ms)) (inner (codes "routerLinks") (members_at (place + 1) ms)) lsa
    (λ found e. inner_small (codes "routerLinks") (place + 1) ms found e) is

-- several LSAs
pub record AreSmallLsas (n : ℕ) (lsas : List Instance) : Type 0 where
  pub types : AllByRecursion (λ lsa. has_link_types lsa.body ≡ true) (lsas_of lsas)
  pub sizes : sum_by size_of_lsa (lsas_of lsas) ≤ n

none_small : (n : ℕ) (lsas : List Instance) → [] ≡ lsas → AreSmallLsas n lsas
none_small n lsas is = subst (AreSmallLsas n) is (record { types = tt; sizes = omega arith })

one_more : (n k : ℕ) (r : Result Instance ℕ) (m : Result (List Instance) ℕ) (lsas : List Instance) → ((lsa : Instance) → r ≡ Ok lsa → IsSmallLsa n lsa.lsa) →
    ((ls : List Instance) → m ≡ Ok ls → AreSmallLsas k ls) → said_before (λ lsa. lsa ∷ []) r m ≡ Ok lsas → AreSmallLsas (n + k) lsas
one_more n k (Err e) m lsas one more is = never e lsas is
one_more n k (Ok lsa) (Err e) lsas one more is = never e lsas is
one_more n k (Ok lsa) (Ok ls) lsas one more is =
    let first = one lsa refl in
    let rest = more ls refl in
    subst (AreSmallLsas (n + k)) (okay _ lsas is) (record {
      types = (first.types, rest.types);
      sizes = omega (arith, first.size, rest.sizes, sum_by-cons size_of_lsa lsa.lsa (lsas_of ls));
    })

lsas_small : (around start : ℕ) (js : Items) (lsas : List Instance) → instances_of_values around (items_at start js) ≡ Ok lsas →
    AreSmallLsas (length (items_tokens js)) lsas
lsas_small around start no_items lsas is = none_small 1 lsas (okay _ lsas is)
lsas_small around start (item j js) lsas is =
    subst (λ n. AreSmallLsas n lsas) (sym (length-append (json_tokens j) (items_tokens js)))
    (one_more (length (json_tokens j)) (length (items_tokens js)) (lsa_read around start (object_members start j))
    (instances_of_values around (items_at (start + length (json_tokens j)) js)) lsas
    (λ lsa e. lsa_small around start j lsa e) (λ ls e. lsas_small around (start + length (json_tokens j)) js ls e) is)

weaker : (n k : ℕ) (lsas : List Instance) → n ≤ k → AreSmallLsas n lsas → AreSmallLsas k lsas
weaker n k lsas le small = record { types = small.types; sizes = omega (arith, small.sizes, le) }

items_small : (around place : ℕ) (j : Json) (lsas : List Instance) → items_read around (items_of place j) ≡ Ok lsas → AreSmallLsas (length (json_tokens j)) lsas
items_small around place null lsas is = never around lsas is
items_small around place (boolean b) lsas is = never around lsas is
items_small around place (number s) lsas is = never around lsas is
items_small around place (string s) lsas is = never around lsas is
items_small around place (array js) lsas is = weaker (length (items_tokens js)) _ lsas (omega arith) (lsas_small around (place + 1) js lsas is)
items_small around place (object ms) lsas is = never around lsas is

found_small : (n around : ℕ) (o : Option Member) (lsas : List Instance) → IsSmaller n o → found_read around o ≡ Ok lsas → AreSmallLsas n lsas
found_small n around None lsas less is = none_small n lsas (okay _ lsas is)
found_small n around (Some m) lsas less is = weaker (length (json_tokens m.value)) n lsas (omega (arith, less)) (items_small around m.place m.value lsas is)

area_small : (n around place : ℕ) (b : Bool) (o : Option Member) (lsas : List Instance) → IsSmaller n o →
    area_lsas_read around place (cond b (Some o) None) ≡ Ok lsas → AreSmallLsas n lsas
area_small n around place true o lsas less is = found_small n place o lsas less is
area_small n around place false o lsas less is = never around lsas is

areas_small : (n area around : ℕ) (o : Option (ℕ × List Member)) (lsas : List Instance) → ((found : ℕ × List Member) → o ≡ Some found → IsSmallInside n found) →
    areas_read area around o ≡ Ok lsas → AreSmallLsas n lsas
areas_small n area around None lsas small is = never around lsas is
areas_small n area around (Some found) lsas small is =
    let s = small found refl in
    let same : area_lsas_read around found.0 (area_member area (members_at (found.0 + 1) s.inside)) ≡ Ok lsas =
    ap (λ ms. area_lsas_read around found.0 (area_member area ms)) (sym s.is) ∙ is in
    weaker (length (members_tokens s.inside)) n lsas (omega (arith, s.smaller))
    (area_small (length (members_tokens s.inside)) around found.0 (list_all is_quad (members_at (found.0 + 1) s.inside))
    (last_where (names_area area) (members_at (found.0 + 1) s.inside)) lsas
    (last_smaller (names_area area) (found.0 + 1) s.inside) same)

states_small : (n area : ℕ) (o : Option (ℕ × List Member)) (lsas : List Instance) → ((found : ℕ × List Member) → o ≡ Some found → IsSmallInside n found) →
    states_read area o ≡ Ok lsas → AreSmallLsas n lsas
states_small n area None lsas small is = never 0 lsas is
states_small n area (Some found) lsas small is =
    let s = small found refl in
    let same : areas_read area found.0 (inner (codes "areas") (members_at (found.0 + 1) s.inside)) ≡ Ok lsas =
    ap (λ ms. areas_read area found.0 (inner (codes "areas") ms)) (sym s.is) ∙ is in
    weaker (length (members_tokens s.inside)) n lsas (omega (arith, s.smaller))
    (areas_small (length (members_tokens s.inside)) area found.0 (inner (codes "areas") (members_at (found.0 + 1) s.inside)) lsas
    (λ f e. inner_small (codes "areas") (found.0 + 1) s.inside f e) same)

-- the LSAs of a value are no more than its tokens
pub live_small : (area : ℕ) (j : Json) (lsas : List Instance) → live_lsas area j ≡ Ok lsas → AreSmallLsas (length (json_tokens j)) lsas
live_small area null lsas is = never 0 lsas is
live_small area (boolean b) lsas is = never 0 lsas is
live_small area (number s) lsas is = never 0 lsas is
live_small area (string s) lsas is = never 0 lsas is
live_small area (array js) lsas is = never 0 lsas is
live_small area (object ms) lsas is =
    weaker (length (members_tokens ms)) _ lsas (omega arith)
    (states_small (length (members_tokens ms)) area (inner (codes "routerLinkStates") (members_at 1 ms)) lsas
    (λ found e. inner_small (codes "routerLinkStates") 1 ms found e) is)

-- of few LSAs a database may be made
pub types_of : (n : ℕ) (lsas : List Instance) → AreSmallLsas n lsas → All (λ lsa. has_link_types lsa.body ≡ true) (lsas_of lsas)
types_of n lsas small = all_from_each (λ (lsa : Lsa). has_link_types lsa.body ≡ true) (lsas_of lsas) small.types
