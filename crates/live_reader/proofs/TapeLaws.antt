-- Values on a tape: where they end, and that what a text says stands at the front of its tokens.
use Rattle.std.proofs.Common.{◌≡◌, ℕ, zero, suc, ◌+◌, ◌<◌, List, [], ◌∷◌, ◌++◌, length, drop, map, get_or, Option, Some, None, option_and_then, refl, sym, ap, ◌∙◌, subst, arith, append_assoc, length-append, length-drop, ⊎_elim}
use Rattle.std.specs.Prelude.{⊤, ◌⊎◌}
use Rattle.std.proofs.lemmas.List.{drop_more, get_or-map, get_or_default, length-map}
use Rattle.json.specs.Token.{Token}
use Rattle.json.specs.Json.{Json, null, boolean, number, string, array, object, Items, item, Members, member, Parse, parse_map, after_end_array, read_key, items_step, members_step, items, members, value_with, value}
use Rattle.json.specs.Tape.{node_token, Passes, Linked, LinkAt}
use Rattle.json.specs.Tree.{json_tokens, items_tokens, members_tokens, depth}
use Rattle.json.specs.declared.tape.Node.{Node}
use Rattle.json.specs.declared.tape.Node.TheVariants.{Object, EndObject, Array, EndArray, Key, String, Number, Bool, Null}
use Rattle.json.proofs.Grammar.{left_some, closed_array, read_key_is}
use Rattle.json.proofs.Found.{one_reading, Some_inj}
use Rattle.json.proofs.Printed.Trees.{value-json_tokens}
use Rattle.live_reader.specs.Places.{Stands}

-- what was read is spelled by its tokens
abbrev Spells : {A : Type 0} → (A → List Token) → List Token → Option (A × List Token) → Type 0
Spells spell ts None = ⊤
Spells spell ts (Some p) = ts ≡ spell p.0 ++ p.1

module _ (p : Parse Json) (spells : (ts : List Token) → Spells json_tokens ts (p ts)) where
  next_item : (more : Parse Items) (o : Option (Json × List Token)) (ts : List Token) → ((rest : List Token) → Spells items_tokens rest (more rest)) →
      Spells json_tokens ts o → Spells items_tokens ts (option_and_then (λ q. parse_map (item q.0) (more q.1)) o)
  next_item more None ts again e = tt
  next_item more (Some q) ts again e = behind (more q.1) (again q.1)
    where
      behind : (r : Option (Items × List Token)) → Spells items_tokens q.1 r → Spells items_tokens ts (parse_map (item q.0) r)
      behind None f = tt
      behind (Some x) f = e ∙ ap (λ l. json_tokens q.0 ++ l) f ∙ sym (append_assoc (json_tokens q.0) (items_tokens x.0) x.1)

  item_turn : (more : Parse Items) (ts : List Token) (o : Option (List Token)) → ((rest : List Token) → Spells items_tokens rest (more rest)) →
      after_end_array ts ≡ o → Spells items_tokens ts (items_step p more ts o)
  item_turn more ts (Some rest) again e = closed_array ts rest e
  item_turn more ts None again e = next_item more (p ts) ts again (spells ts)

  Spells-items : (n : ℕ) (ts : List Token) → Spells items_tokens ts (items p n ts)
  unfolding items
  Spells-items zero ts = tt
  Spells-items (suc n) ts = item_turn (items p n) ts (after_end_array ts) (Spells-items n) refl

  next_member : (more : Parse Members) (name : List ℕ) (o : Option (Json × List Token)) (ts rest : List Token) →
      ((left : List Token) → Spells members_tokens left (more left)) → ts ≡ Token.key name ∷ rest →
      Spells json_tokens rest o → Spells members_tokens ts (option_and_then (λ q. parse_map (member name q.0) (more q.1)) o)
  next_member more name None ts rest again is e = tt
  next_member more name (Some q) ts rest again is e = behind (more q.1) (again q.1)
    where
      behind : (r : Option (Members × List Token)) → Spells members_tokens q.1 r → Spells members_tokens ts (parse_map (member name q.0) r)
      behind None f = tt
      behind (Some x) f = is ∙ ap (λ l. Token.key name ∷ l) (e ∙ ap (λ l. json_tokens q.0 ++ l) f ∙
          sym (append_assoc (json_tokens q.0) (members_tokens x.0) x.1))

  member_turn : (more : Parse Members) (ts : List Token) (o : Option (Option (List ℕ) × List Token)) →
      ((rest : List Token) → Spells members_tokens rest (more rest)) → read_key ts ≡ o →
      Spells members_tokens ts (option_and_then (λ q. members_step p more q.0 q.1) o)
  member_turn more ts None again e = tt
  member_turn more ts (Some (None, rest)) again e = read_key_is ts None rest e
  member_turn more ts (Some (Some name, rest)) again e = next_member more name (p rest) ts rest again (read_key_is ts (Some name) rest e) (spells rest)

  Spells-members : (n : ℕ) (ts : List Token) → Spells members_tokens ts (members p n ts)
  unfolding members
  Spells-members zero ts = tt
  Spells-members (suc n) ts = member_turn (members p n) ts (read_key ts) (Spells-members n) refl

opened_items : (ts : List Token) (o : Option (Items × List Token)) → Spells items_tokens ts o → Spells json_tokens (Token.begin_array ∷ ts) (parse_map array o)
opened_items ts None e = tt
opened_items ts (Some x) e = ap (λ l. Token.begin_array ∷ l) e

opened_members : (ts : List Token) (o : Option (Members × List Token)) → Spells members_tokens ts o →
    Spells json_tokens (Token.begin_object ∷ ts) (parse_map object o)
opened_members ts None e = tt
opened_members ts (Some x) e = ap (λ l. Token.begin_object ∷ l) e

one_level : (a : Parse Items) (o : Parse Members) → ((ts : List Token) → Spells items_tokens ts (a ts)) →
    ((ts : List Token) → Spells members_tokens ts (o ts)) → (ts : List Token) → Spells json_tokens ts (value_with a o ts)
one_level a o p q [] = tt
one_level a o p q (Token.begin_object ∷ ts) = opened_members ts (o ts) (q ts)
one_level a o p q (Token.end_object ∷ ts) = tt
one_level a o p q (Token.begin_array ∷ ts) = opened_items ts (a ts) (p ts)
one_level a o p q (Token.end_array ∷ ts) = tt
one_level a o p q (Token.key s ∷ ts) = tt
one_level a o p q (Token.string s ∷ ts) = refl
one_level a o p q (Token.number s ∷ ts) = refl
one_level a o p q (Token.boolean b ∷ ts) = refl
one_level a o p q (Token.null ∷ ts) = refl
one_level a o p q (Token.bad ∷ ts) = tt

Spells-value : (d : ℕ) (ts : List Token) → Spells json_tokens ts (value d ts)
unfolding value
Spells-value zero ts = one_level (λ ts. None) (λ ts. None) (λ ts. tt) (λ ts. tt) ts
Spells-value (suc d) ts =
    one_level (λ ts. items (value d) (length ts) ts) (λ ts. members (value d) (length ts) ts)
    (λ ts. Spells-items (value d) (Spells-value d) (length ts) ts) (λ ts. Spells-members (value d) (Spells-value d) (length ts) ts) ts

-- a value that was read stands at the front of its tokens
pub value_stands : (d : ℕ) (ts rest : List Token) (j : Json) → value d ts ≡ Some (j, rest) → Stands ts 0 j
value_stands d ts rest j e = (rest, subst (Spells json_tokens ts) e (Spells-value d ts))

-- a link leads behind the value that stands at its place
pub link_end : (all : List Token) (place end : ℕ) (j : Json) → Passes all place end → Stands all place j → end ≡ place + length (json_tokens j)
link_end all place end j link stands =
    let read : value (depth j) (drop place all) ≡ Some (j, stands.0) =
    ap (value (depth j)) stands.1 ∙ value-json_tokens j (depth j) stands.0 (omega arith) in
    let linked = left_some (value link.0 (drop place all)) (drop end all) link.1 in
    let same : stands.0 ≡ drop end all = ap (λ z. z.1) (Some_inj _ _ (one_reading (depth j) link.0 (drop place all) _ _ read linked.1)) in
    let whole : length (drop place all) ≡ length (json_tokens j) + length stands.0 = ap length stands.1 ∙ length-append (json_tokens j) stands.0 in
    let rest : length stands.0 ≡ length (drop end all) = ap length same in
    omega (arith, whole, rest, length-drop place all, length-drop end all, link.2, link.3)

-- the node at a place is the first of the tokens from there on
pub token_at : (nodes : List Node) (place : ℕ) (d : Node) → place < length nodes →
    drop place (map node_token nodes) ≡ node_token (get_or nodes place d) ∷ drop (place + 1) (map node_token nodes)
token_at nodes place d within =
    drop_more (map node_token nodes) place (node_token d) (omega (arith, length-map nodes node_token))
    ∙ ap (λ t. t ∷ drop (place + 1) (map node_token nodes)) (get_or-map node_token nodes place d (node_token d) within)

-- whether a token opens an object or an array
abbrev pub Opens : Token → Type 0
Opens Token.begin_object = ⊤
Opens Token.begin_array = ⊤
Opens _ = ⊥

abbrev first_is : Token → List Token → Token
first_is t [] = t
first_is t (u ∷ us) = u

-- a value at a token that opens nothing takes that token alone
pub one_token : (all : List Token) (place : ℕ) (t : Token) (rest : List Token) (j : Json) → drop place all ≡ t ∷ rest →
    (Opens t → ⊥) → Stands all place j → length (json_tokens j) ≡ 1
one_token all place t rest null at never stands = refl
one_token all place t rest (boolean b) at never stands = refl
one_token all place t rest (number s) at never stands = refl
one_token all place t rest (string s) at never stands = refl
one_token all place t rest (array js) at never stands =
    absurd (never (subst Opens (ap (first_is t) (sym stands.1 ∙ at)) tt))
one_token all place t rest (object ms) at never stands =
    absurd (never (subst Opens (ap (first_is t) (sym stands.1 ∙ at)) tt))

pub opens_nothing : (n : Node) → ((a : ℕ) → n ≡ Object a → ⊥) → ((a : ℕ) → n ≡ Array a → ⊥) → Opens (node_token n) → ⊥
opens_nothing (Object a) p q h = p a refl
opens_nothing EndObject p q h = h
opens_nothing (Array a) p q h = q a refl
opens_nothing EndArray p q h = h
opens_nothing (Key s) p q h = h
opens_nothing (String s) p q h = h
opens_nothing (Number s) p q h = h
opens_nothing (Bool b) p q h = h
opens_nothing Null p q h = h

-- a place among tokens is one among nodes
pub within_nodes : (nodes : List Node) (all : List Token) (place : ℕ) → map node_token nodes ≡ all → place < length all → place < length nodes
within_nodes nodes all place same within = omega (arith, ap length same, length-map nodes node_token)

-- the node of an object or an array passes the value
pub linked_passes : (nodes : List Node) (all : List Token) (place end : ℕ) → map node_token nodes ≡ all → Linked all 0 nodes → place < length all →
    (get_or nodes place (Object 0) ≡ Object end) ⊎ (get_or nodes place (Object 0) ≡ Array end) → Passes all place end
linked_passes nodes all place end same links within is =
    let inside = within_nodes nodes all place same within in
    let here = subst (LinkAt all place) (get_or_default nodes place Null (Object 0) inside) (links place (omega arith) inside) in
    ⊎_elim (λ e. subst (LinkAt all place) e here) (λ e. subst (LinkAt all place) e here) is

-- the value of another node takes that node alone
pub alone : (nodes : List Node) (all : List Token) (place : ℕ) (j : Json) → map node_token nodes ≡ all → place < length all →
    ((a : ℕ) → get_or nodes place (Object 0) ≡ Object a → ⊥) → ((a : ℕ) → get_or nodes place (Object 0) ≡ Array a → ⊥) → Stands all place j →
    place + 1 ≡ place + length (json_tokens j)
alone nodes all place j same within p q stands =
    ap (λ n. place + n) (sym (one_token all place _ _ j
    (ap (drop place) (sym same) ∙ token_at nodes place (Object 0) (within_nodes nodes all place same within))
    (opens_nothing _ p q) stands))
