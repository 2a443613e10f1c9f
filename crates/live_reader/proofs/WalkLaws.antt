-- Walks over the members of an object and over the items of an array, one after another.
use Rattle.std.proofs.Common.{◌≡◌, ℕ, ◌+◌, ◌<◌, ◌≤◌, List, [], ◌∷◌, ◌++◌, length, drop, map, get_or, Option, Some, None, refl, sym, ap, ◌∙◌, subst, arith, append_assoc, append-nil, length-append, length-drop}
use Rattle.std.specs.Prelude.{⊤, T, true, false, option_map}
use Rattle.std.specs.Borrow.{Bor}
use Rattle.std.proofs.Math.Seq.{drop-append_seam}
use Rattle.std.proofs.lemmas.List.{drop-drop, length-map}
use Rattle.json.specs.Token.{Token}
use Rattle.json.specs.Json.{Json, null, boolean, number, string, array, object, Items, no_items, item, Members, no_members, member}
use Rattle.json.specs.Tape.{node_token}
use Rattle.json.specs.Tree.{json_tokens, items_tokens, members_tokens}
use Rattle.json.specs.declared.tape.Node.{Node}
use Rattle.json.specs.declared.tape.Node.TheVariants.{Object, EndObject, Array, EndArray, Key, String, Number, Bool, Null}
use Rattle.live_reader.specs.declared.tree.Step.{Step}
use Rattle.live_reader.specs.Places.{Stands, Placed, Member, members_at, items_at, object_members, items_of}
use Rattle.json.specs.Find.{as_str, as_number}
use Rattle.live_reader.specs.Walks.{IsStep, IsItemStep, HaveSeen, HaveSeenItems, first_token, opens_object, opens_array}
use Rattle.live_reader.proofs.TapeLaws.{token_at, within_nodes}

-- what stands behind the first of several tokens
pub behind : (all : List Token) (place : ℕ) (first rest : List Token) → drop place all ≡ first ++ rest → drop (place + length first) all ≡ rest
behind all place first rest e = sym (drop-drop (length first) place all) ∙ ap (drop (length first)) e ∙ drop-append_seam first rest

-- the value of the first member stands behind its name
pub member_value : (all : List Token) (place : ℕ) (name : List ℕ) (j : Json) (ms : Members) (more : List Token) →
    drop place all ≡ members_tokens (member name j ms) ++ more → Stands all (place + 1) j
member_value all place name j ms more e =
    (members_tokens ms ++ more, behind all place (Token.key name ∷ []) _ e ∙ append_assoc (json_tokens j) (members_tokens ms) more)

-- and the other members behind it
pub member_rest : (all : List Token) (place : ℕ) (name : List ℕ) (j : Json) (ms : Members) (more : List Token) →
    drop place all ≡ members_tokens (member name j ms) ++ more → drop (place + 1 + length (json_tokens j)) all ≡ members_tokens ms ++ more
unfolding member_value
member_rest all place name j ms more e =
    behind all (place + 1) (json_tokens j) _ (member_value all place name j ms more e).1

-- the first item stands at the front, the others behind it
pub item_value : (all : List Token) (place : ℕ) (j : Json) (js : Items) (more : List Token) →
    drop place all ≡ items_tokens (item j js) ++ more → Stands all place j
item_value all place j js more e = (items_tokens js ++ more, e ∙ append_assoc (json_tokens j) (items_tokens js) more)

pub item_rest : (all : List Token) (place : ℕ) (j : Json) (js : Items) (more : List Token) →
    drop place all ≡ items_tokens (item j js) ++ more → drop (place + length (json_tokens j)) all ≡ items_tokens js ++ more
unfolding item_value
item_rest all place j js more e = behind all place (json_tokens j) _ (item_value all place j js more e).1

-- ---- steps over members

some_tokens : (j : Json) → 0 < length (json_tokens j)
some_tokens null = omega arith
some_tokens (boolean b) = omega arith
some_tokens (number s) = omega arith
some_tokens (string s) = omega arith
some_tokens (array js) = omega arith
some_tokens (object ms) = omega arith

some_members : (ms : Members) → 0 < length (members_tokens ms)
some_members no_members = omega arith
some_members (member name j ms) = omega arith

-- where fewer than two tokens are left there is no member
pub no_step : (all : List Token) (place : ℕ) (ms : Members) (more : List Token) → length all < place + 2 → drop place all ≡ members_tokens ms ++ more →
    IsStep place ms None
no_step all place no_members more short e = refl
no_step all place (member name j ms) more short e =
    let whole = ap length e in
    let parts = length-append (members_tokens (member name j ms)) more in
    let inner = length-append (json_tokens j) (members_tokens ms) in
    absurd (omega (arith, whole, parts, inner, some_tokens j, some_members ms, length-drop place all))

abbrev first_is : Token → List Token → Token
first_is t [] = t
first_is t (u ∷ us) = u

abbrev IsKey : Token → Type 0
IsKey (Token.key s) = ⊤
IsKey _ = ⊥

no_key : (n : Node) → ((s : Bor (List ℕ)) → n ≡ Key s → ⊥) → IsKey (node_token n) → ⊥
no_key (Object a) never h = h
no_key EndObject never h = h
no_key (Array a) never h = h
no_key EndArray never h = h
no_key (Key s) never h = never s refl
no_key (String s) never h = h
no_key (Number s) never h = h
no_key (Bool b) never h = h
no_key Null never h = h

-- where no name stands there is no member
pub no_name : (nodes : List Node) (all : List Token) (place : ℕ) (ms : Members) (more : List Token) → map node_token nodes ≡ all → place < length all →
    ((s : Bor (List ℕ)) → get_or nodes place (Object 0) ≡ Key s → ⊥) → drop place all ≡ members_tokens ms ++ more → IsStep place ms None
no_name nodes all place no_members more same within never e = refl
no_name nodes all place (member name j ms) more same within never e =
    let here = ap (drop place) (sym same) ∙ token_at nodes place (Object 0) (within_nodes nodes all place same within) in
    absurd (no_key (get_or nodes place (Object 0)) never (subst IsKey (ap (first_is Token.null) (sym e ∙ here)) tt))

abbrev name_in : Token → List ℕ
name_in (Token.key s) = s
name_in _ = []

-- where a name stands there is a member of that name
pub some_name : (nodes : List Node) (all : List Token) (place : ℕ) (s : Bor (List ℕ)) (end : ℕ) (ms : Members) (more : List Token) →
    map node_token nodes ≡ all → place < length all → get_or nodes place (Object 0) ≡ Key s →
    ((j : Json) → Stands all (place + 1) j → end ≡ place + 1 + length (json_tokens j)) → drop place all ≡ members_tokens ms ++ more →
    IsStep place ms (Some (record { name = s; place = place + 1; next = end }))
some_name nodes all place s end no_members more same within is ends e =
    let here = ap (drop place) (sym same) ∙ token_at nodes place (Object 0) (within_nodes nodes all place same within) in
    absurd (subst IsKey (sym (ap node_token is) ∙ ap (first_is Token.null) (sym here ∙ e)) tt)
some_name nodes all place s end (member name j ms) more same within is ends e =
    let here = ap (drop place) (sym same) ∙ token_at nodes place (Object 0) (within_nodes nodes all place same within) in
    let tokens : node_token (get_or nodes place (Object 0)) ≡ Token.key name = ap (first_is Token.null) (sym here ∙ e) in
    (ap name_in (sym (ap node_token is) ∙ tokens), refl, ends j (member_value all place name j ms more e))

-- ---- what a node tells of the value that begins at it

-- a value that stands at a place has a token there
pub within_tokens : (all : List Token) (place : ℕ) (j : Json) → Stands all place j → place < length all
within_tokens all place j stands =
    omega (arith, ap length stands.1, length-append (json_tokens j) stands.0, some_tokens j, length-drop place all)

first_of_value : (j : Json) (more : List Token) → first_is Token.null (json_tokens j ++ more) ≡ first_token j
first_of_value null more = refl
first_of_value (boolean b) more = refl
first_of_value (number s) more = refl
first_of_value (string s) more = refl
first_of_value (array js) more = refl
first_of_value (object ms) more = refl

-- the node at the place of a value is its first token
pub first_node : (nodes : List Node) (all : List Token) (place : ℕ) (j : Json) → map node_token nodes ≡ all → Stands all place j →
    node_token (get_or nodes place (Object 0)) ≡ first_token j
first_node nodes all place j same stands =
    let here = ap (drop place) (sym same) ∙ token_at nodes place (Object 0) (within_nodes nodes all place same (within_tokens all place j stands)) in
    ap (first_is Token.null) (sym here ∙ stands.1) ∙ first_of_value j stands.0

-- no value stands past the last token
pub past : {P : Type 0} (nodes : List Node) (all : List Token) (place : ℕ) (j : Json) → map node_token nodes ≡ all → length nodes ≤ place → Stands all place j →
    P
past nodes all place j same long stands =
    absurd (omega (arith, within_tokens all place j stands, ap length same, length-map nodes node_token))

abbrev pub text_in : Token → Option (List ℕ)
text_in (Token.string s) = Some s
text_in _ = None

abbrev pub number_in : Token → Option (List ℕ)
number_in (Token.number s) = Some s
number_in _ = None

pub text_first : (j : Json) → text_in (first_token j) ≡ as_str j
text_first null = refl
text_first (boolean b) = refl
text_first (number s) = refl
text_first (string s) = refl
text_first (array js) = refl
text_first (object ms) = refl

pub number_first : (j : Json) → number_in (first_token j) ≡ as_number j
number_first null = refl
number_first (boolean b) = refl
number_first (number s) = refl
number_first (string s) = refl
number_first (array js) = refl
number_first (object ms) = refl

pub no_text : (n : Node) → ((s : Bor (List ℕ)) → n ≡ String s → ⊥) → None ≡ text_in (node_token n)
no_text (Object a) never = refl
no_text EndObject never = refl
no_text (Array a) never = refl
no_text EndArray never = refl
no_text (Key s) never = refl
no_text (String s) never = absurd (never s refl)
no_text (Number s) never = refl
no_text (Bool b) never = refl
no_text Null never = refl

pub no_number : (n : Node) → ((s : Bor (List ℕ)) → n ≡ Number s → ⊥) → None ≡ number_in (node_token n)
no_number (Object a) never = refl
no_number EndObject never = refl
no_number (Array a) never = refl
no_number EndArray never = refl
no_number (Key s) never = refl
no_number (String s) never = refl
no_number (Number s) never = absurd (never s refl)
no_number (Bool b) never = refl
no_number Null never = refl

-- ---- steps over items

-- where no token is left there is no item
pub no_item : (nodes : List Node) (all : List Token) (place : ℕ) (js : Items) (more : List Token) → map node_token nodes ≡ all → length nodes ≤ place →
    drop place all ≡ items_tokens js ++ more → IsItemStep place js None
no_item nodes all place no_items more same long e = refl
no_item nodes all place (item j js) more same long e = past nodes all place j same long (item_value all place j js more e)

abbrev NotClosed : Token → Type 0
NotClosed Token.end_array = ⊥
NotClosed _ = ⊤

abbrev Closed : Token → Type 0
Closed Token.end_array = ⊤
Closed _ = ⊥

first_stays : (j : Json) → NotClosed (first_token j)
first_stays null = tt
first_stays (boolean b) = tt
first_stays (number s) = tt
first_stays (string s) = tt
first_stays (array js) = tt
first_stays (object ms) = tt

first_closes : (j : Json) → first_token j ≡ Token.end_array → ⊥
first_closes j e = subst NotClosed e (first_stays j)

closed_node : (n : Node) → (n ≡ EndArray → ⊥) → Closed (node_token n) → ⊥
closed_node (Object a) never h = h
closed_node EndObject never h = h
closed_node (Array a) never h = h
closed_node EndArray never h = never refl
closed_node (Key s) never h = h
closed_node (String s) never h = h
closed_node (Number s) never h = h
closed_node (Bool b) never h = h
closed_node Null never h = h

closes_only : (n : Node) → (n ≡ EndArray → ⊥) → node_token n ≡ Token.end_array → ⊥
closes_only n never e = closed_node n never (subst Closed (sym e) tt)

-- a closing bracket ends the items
pub items_close : (nodes : List Node) (all : List Token) (place : ℕ) (js : Items) (more : List Token) → map node_token nodes ≡ all →
    get_or nodes place (Object 0) ≡ EndArray → drop place all ≡ items_tokens js ++ more → IsItemStep place js None
items_close nodes all place no_items more same is e = refl
items_close nodes all place (item j js) more same is e =
    absurd (first_closes j (sym (first_node nodes all place j same (item_value all place j js more e)) ∙ ap node_token is))

-- anything else begins an item
pub some_item : (nodes : List Node) (all : List Token) (place end : ℕ) (js : Items) (more : List Token) → map node_token nodes ≡ all → place < length all →
    (get_or nodes place (Object 0) ≡ EndArray → ⊥) → ((j : Json) → Stands all place j → end ≡ place + length (json_tokens j)) →
    drop place all ≡ items_tokens js ++ more → IsItemStep place js (Some end)
some_item nodes all place end no_items more same within never ends e =
    let here = ap (drop place) (sym same) ∙ token_at nodes place (Object 0) (within_nodes nodes all place same within) in
    absurd (closes_only (get_or nodes place (Object 0)) never (ap (first_is Token.null) (sym here ∙ e)))
some_item nodes all place end (item j js) more same within never ends e = ap Some (ends j (item_value all place j js more e))

-- ---- walks

abbrev IsThere : {X : Type 0} → Option X → Type 0
IsThere None = ⊥
IsThere (Some x) = ⊤

abbrev some_or : {X : Type 0} → X → Option X → X
some_or d None = d
some_or d (Some x) = x

-- the first step of a walk is still to be made
pub walk_begins : (all : List Token) (start next : ℕ) (ms : Members) (more : List Token) (Holds : List Member → Type 0) →
    next ≡ start → drop start all ≡ members_tokens ms ++ more → Holds [] → HaveSeen all start ms next Holds
walk_begins all start next ms more Holds is e holds = record {
  seen = [];
  rest = ms;
  more = more;
  left = ap (λ n. drop n all) is ∙ e;
  whole = ap (λ n. members_at n ms) (sym is);
  holds = holds;
}

-- one more step
pub walk_goes_on : (all : List Token) (start next : ℕ) (ms : Members) (step : Step) (Held Holds : List Member → Type 0) →
    HaveSeen all start ms next Held → ((rest : Members) (more : List Token) → drop next all ≡ members_tokens rest ++ more → IsStep next rest (Some step)) →
    ((seen : List Member) (j : Json) → Stands all step.place j → Held seen →
    Holds (seen ++ record { name = step.name.now; place = step.place; value = j } ∷ [])) → HaveSeen all start ms step.next Holds
walk_goes_on all start next ms step Held Holds w is more = by_rest w.rest w.left w.whole (is w.rest w.more w.left)
  where
    by_rest : (rest : Members) → drop next all ≡ members_tokens rest ++ w.more → members_at start ms ≡ w.seen ++ members_at next rest →
        IsStep next rest (Some step) → HaveSeen all start ms step.next Holds
    by_rest no_members left whole s = absurd (subst IsThere s tt)
    by_rest (member name j rest) left whole s =
        let stands = member_value all next name j rest w.more left in
        let at : Member = record { name = name; place = next + 1; value = j } in
        let seen : Member = record { name = step.name.now; place = step.place; value = j } in
        let same : seen ≡ at = ap (λ (n : List ℕ). record { name = n; place = step.place; value = j }) s.0 ∙
        ap (λ (p : ℕ). record { name = name; place = p; value = j }) s.1 in
        record {
          seen = w.seen ++ seen ∷ [];
          rest = rest;
          more = w.more;
          left = ap (λ n. drop n all) s.2 ∙ member_rest all next name j rest w.more left;
          whole = whole ∙ sym (append_assoc w.seen (at ∷ []) (members_at (next + 1 + length (json_tokens j)) rest))
              ∙ ap (λ (m : Member). (w.seen ++ m ∷ []) ++ members_at (next + 1 + length (json_tokens j)) rest) (sym same)
              ∙ ap (λ n. (w.seen ++ seen ∷ []) ++ members_at n rest) (sym s.2);
          holds = more w.seen j (subst (λ p. Stands all p j) (sym s.1) stands) w.holds;
        }

-- no step is left
pub walk_ends : (all : List Token) (start next : ℕ) (ms : Members) (Held : List Member → Type 0) → HaveSeen all start ms next Held →
    ((rest : Members) (more : List Token) → drop next all ≡ members_tokens rest ++ more → IsStep next rest None) → Held (members_at start ms)
walk_ends all start next ms Held w is = by_rest w.rest w.whole (is w.rest w.more w.left)
  where
    by_rest : (rest : Members) → members_at start ms ≡ w.seen ++ members_at next rest → IsStep next rest None → Held (members_at start ms)
    by_rest no_members whole s = subst Held (sym (whole ∙ append-nil w.seen)) w.holds
    by_rest (member name j rest) whole s = absurd s

-- the same of items
pub items_begin : (all : List Token) (start next : ℕ) (js : Items) (more : List Token) (Holds : List Placed → Type 0) →
    next ≡ start → drop start all ≡ items_tokens js ++ more → Holds [] → HaveSeenItems all start js next Holds
items_begin all start next js more Holds is e holds = record {
  seen = [];
  rest = js;
  more = more;
  left = ap (λ n. drop n all) is ∙ e;
  whole = ap (λ n. items_at n js) (sym is);
  holds = holds;
}

pub items_go_on : (all : List Token) (start next end : ℕ) (js : Items) (Held Holds : List Placed → Type 0) →
    HaveSeenItems all start js next Held → ((rest : Items) (more : List Token) → drop next all ≡ items_tokens rest ++ more → IsItemStep next rest (Some end)) →
    ((seen : List Placed) (j : Json) → Stands all next j → Held seen → Holds (seen ++ record { place = next; value = j } ∷ [])) →
    HaveSeenItems all start js end Holds
items_go_on all start next end js Held Holds w is more = by_rest w.rest w.left w.whole (is w.rest w.more w.left)
  where
    by_rest : (rest : Items) → drop next all ≡ items_tokens rest ++ w.more → items_at start js ≡ w.seen ++ items_at next rest →
        IsItemStep next rest (Some end) → HaveSeenItems all start js end Holds
    by_rest no_items left whole s = absurd (subst IsThere s tt)
    by_rest (item j rest) left whole s =
        let stands = item_value all next j rest w.more left in
        let at : end ≡ next + length (json_tokens j) = ap (some_or end) s in
        record {
          seen = w.seen ++ record { place = next; value = j } ∷ [];
          rest = rest;
          more = w.more;
          left = ap (λ n. drop n all) at ∙ item_rest all next j rest w.more left;
          whole = whole ∙ sym (append_assoc w.seen (record { place = next; value = j } ∷ []) (items_at (next + length (json_tokens j)) rest))
              ∙ ap (λ n. (w.seen ++ record { place = next; value = j } ∷ []) ++ items_at n rest) (sym at);
          holds = more w.seen j stands w.holds;
        }

pub items_end : (all : List Token) (start next : ℕ) (js : Items) (Held : List Placed → Type 0) → HaveSeenItems all start js next Held →
    ((rest : Items) (more : List Token) → drop next all ≡ items_tokens rest ++ more → IsItemStep next rest None) → Held (items_at start js)
items_end all start next js Held w is = by_rest w.rest w.whole (is w.rest w.more w.left)
  where
    by_rest : (rest : Items) → items_at start js ≡ w.seen ++ items_at next rest → IsItemStep next rest None → Held (items_at start js)
    by_rest no_items whole s = subst Held (sym (whole ∙ append-nil w.seen)) w.holds
    by_rest (item j rest) whole s = absurd (subst IsThere (sym s) tt)

-- the members of an object stand behind its first token
pub object_inside : (all : List Token) (place : ℕ) (ms : Members) → Stands all place (object ms) →
    (more : List Token) × (drop (place + 1) all ≡ members_tokens ms ++ more)
object_inside all place ms stands = (stands.0, behind all place (Token.begin_object ∷ []) _ stands.1)

pub array_inside : (all : List Token) (place : ℕ) (js : Items) → Stands all place (array js) →
    (more : List Token) × (drop (place + 1) all ≡ items_tokens js ++ more)
array_inside all place js stands = (stands.0, behind all place (Token.begin_array ∷ []) _ stands.1)

-- ---- what opens a value

pub is_object : (place : ℕ) (j : Json) → opens_object (first_token j) ≡ true → option_map (λ ms. place + 1) (object_members place j) ≡ Some (place + 1)
is_object place null e = absurd (subst T (sym e) tt)
is_object place (boolean b) e = absurd (subst T (sym e) tt)
is_object place (number s) e = absurd (subst T (sym e) tt)
is_object place (string s) e = absurd (subst T (sym e) tt)
is_object place (array js) e = absurd (subst T (sym e) tt)
is_object place (object ms) e = refl

pub no_object : {X : Type 0} (f : List Member → X) (place : ℕ) (j : Json) → opens_object (first_token j) ≡ false → option_map f (object_members place j) ≡ None
no_object f place null e = refl
no_object f place (boolean b) e = refl
no_object f place (number s) e = refl
no_object f place (string s) e = refl
no_object f place (array js) e = refl
no_object f place (object ms) e = absurd (subst T e tt)

pub is_array : (place : ℕ) (j : Json) → opens_array (first_token j) ≡ true → option_map (λ js. place + 1) (items_of place j) ≡ Some (place + 1)
is_array place null e = absurd (subst T (sym e) tt)
is_array place (boolean b) e = absurd (subst T (sym e) tt)
is_array place (number s) e = absurd (subst T (sym e) tt)
is_array place (string s) e = absurd (subst T (sym e) tt)
is_array place (array js) e = refl
is_array place (object ms) e = absurd (subst T (sym e) tt)

pub no_array : {X : Type 0} (f : List Placed → X) (place : ℕ) (j : Json) → opens_array (first_token j) ≡ false → option_map f (items_of place j) ≡ None
no_array f place null e = refl
no_array f place (boolean b) e = refl
no_array f place (number s) e = refl
no_array f place (string s) e = refl
no_array f place (array js) e = absurd (subst T e tt)
no_array f place (object ms) e = refl
