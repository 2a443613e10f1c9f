-- The places of names in sets are the numbers of routers and links.
use Rattle.std.proofs.Common.{inl, inr, ◌≡◌, ◌≢◌, ℕ, zero, suc, ◌+◌, ◌<◌, ◌≤◌, refl, sym, ◌∙◌, ap, List, [], ◌∷◌, ◌++◌, length, take, map, get_or, arith, Bool, true, false, cond, Option, Some, None}
use Rattle.std.specs.Prelude.{AllPairs, filter, position, slice_get, slice_index_or, unwrap_or, MatchOption, if◌then◌else◌, ◌&&◌, ◌==◌}
use Rattle.std.specs.List.{list_any}
use Rattle.std.proofs.lemmas.List.{length-map, get_or-map, map-append, take_more, length-take-le, get_or-take}
use Rattle.std.proofs.lemmas.List.Elements.{All-weaker}
use Rattle.std.proofs.lemmas.List.Folds.{Any-from_list_any, list_any_none}
use Rattle.std.proofs.lemmas.List.Quantifiers.{position-Some}
use Rattle.std.proofs.lemmas.Option.{slice_get-get_or, slice_get_within}
use Rattle.std.proofs.lemmas.Bool.{eqb-true, eq-eqb, and_parts, and_from, cases_Bool, cases_order, false≢true, false_from_ne_true}
use Rattle.cost_base.specs.Lists.{numbers_from, first_of, same_bytes}
use Rattle.cost_base.proofs.ListLemmas.{list_any-map, list_any-agree, same_test, none_passes}
use Rattle.cost_base.proofs.ByteLemmas.{same_bytes-true, same_bytes-same}
use Rattle.area_graph.proofs.Vertices.{vertices_length}
use Rattle.area_graph.specs.Area.{Area, edge_at, edges_out}
use Rattle.lsdb_build.specs.declared.Far.TheVariants.{Router}
use Rattle.lsdb_build.specs.declared.Linked.{Linked}
use Rattle.lsdb_build.specs.Graphs.{Database, IsAreaDatabase, IsDatabaseLink}
use Rattle.lsdb_build.proofs.Pairs.{pair_at, all_at}
use Rattle.wanted_paths.specs.Paths.{is_link_named, names_link, link_number, router_number, edge_between}
use Rattle.wanted_paths.specs.Paths.{outline}
use Rattle.wanted_paths.specs.Resolution.{knows_router, knows_link}
use Rattle.wanted_paths.specs.Keys.{link_key}
use Rattle.wanted_paths.proofs.RouteLaws.{first_passing, router_known, router_number_is}

-- what a read past the last link gives
abbrev pub no_link : Linked
no_link = record { router = 0; interface = []; line = 0; cost = None; to = Router 0; link_back = None }

-- a router's name is found at its number
pub router_at : (d : Database) (r : ℕ) (name : List ℕ) → IsAreaDatabase d → r < length d.routers → get_or d.routers r [] ≡ name → router_number d name ≡ r
router_at d r name base within stands = router_number_is d r name base.different within stands

-- a link is named by its router's number and its interface
pub named_is : (d : Database) (router interface : List ℕ) (link : Linked) → IsAreaDatabase d →
    knows_router d router ≡ true → IsDatabaseLink d link →
    is_link_named d router interface link ≡ (router_number d router == link.router && same_bytes interface link.interface)
named_is d router interface link base known is =
    same_test (is_link_named d router interface link) (router_number d router == link.router && same_bytes interface link.interface)
    (λ named. let parts = and_parts (same_bytes (slice_index_or d.routers link.router []) router) (same_bytes link.interface interface) named in
    and_from (router_number d router == link.router) (same_bytes interface link.interface)
    (eq-eqb (router_number d router) link.router
    (router_at d link.router router base is.router
    (same_bytes-true (slice_index_or d.routers link.router []) router parts.0)))
    (same_bytes-same interface link.interface (sym (same_bytes-true link.interface interface parts.1))))
    (λ placed. let parts = and_parts (router_number d router == link.router) (same_bytes interface link.interface) placed in
    and_from (same_bytes (slice_index_or d.routers link.router []) router) (same_bytes link.interface interface)
    (same_bytes-same (slice_index_or d.routers link.router []) router
    (ap (λ r. get_or d.routers r []) (sym (eqb-true (router_number d router) link.router parts.0))
    ∙ (router_known d router known).1))
    (same_bytes-same link.interface interface (sym (same_bytes-true interface link.interface parts.1))))

-- where a link stands that is the interface of that router, there is its number
pub link_number_is : (d : Database) (l : ℕ) (link : Linked) (router interface : List ℕ) → IsAreaDatabase d →
    slice_get d.links l ≡ Some link → is_link_named d router interface link ≡ true → link_number d router interface ≡ l
link_number_is d l link router interface base there named =
    let here : names_link d router interface (slice_get d.links l) ≡ true = rw there named in
    let first = first_passing (λ k. names_link d router interface (slice_get d.links k)) 0 (length d.links) l
    (omega arith) (omega (arith, slice_get_within d.links l link there)) here in
    let is : link_number d router interface ≡ first.number = rw first.found refl in
    is ∙ by_link (slice_get d.links first.number) first.number refl first.passes
  where
    one_router : (a b : Linked) → is_link_named d router interface a ≡ true → is_link_named d router interface b ≡ true →
        IsDatabaseLink d a → IsDatabaseLink d b → (a.router ≡ b.router) × (a.interface ≡ b.interface)
    one_router a b first second is_a is_b =
        let one = and_parts (same_bytes (slice_index_or d.routers a.router []) router) (same_bytes a.interface interface) first in
        let two = and_parts (same_bytes (slice_index_or d.routers b.router []) router) (same_bytes b.interface interface) second in (
          sym (router_at d a.router router base is_a.router
              (same_bytes-true (slice_index_or d.routers a.router []) router one.0))
              ∙ router_at d b.router router base is_b.router
              (same_bytes-true (slice_index_or d.routers b.router []) router two.0),
          same_bytes-true a.interface interface one.1 ∙ sym (same_bytes-true b.interface interface two.1),
        )

    by_link : (o : Option Linked) (k : ℕ) → slice_get d.links k ≡ o → names_link d router interface o ≡ true → k ≡ l
    by_link None k at passes = absurd (false≢true passes)
    by_link (Some other) k at passes =
        let is_other = all_at (IsDatabaseLink d) d.links base.each_link k other at in
        let is_link = all_at (IsDatabaseLink d) d.links base.each_link l link there in
        let same = one_router other link passes named is_other is_link in
        elim (cases_order k l) [
          | inl equal ↦ equal
          | inr apart ↦ elim apart [
            | inl before ↦ absurd (pair_at (λ (a : Linked) (b : Linked). a.router ≡ b.router →
                a.interface ≢ b.interface) d.links base.names k l other link before at there same.0 same.1)
            | inr after ↦ absurd (pair_at (λ (a : Linked) (b : Linked). a.router ≡ b.router → a.interface ≢ b.interface)
                d.links base.names l k link other after there at (sym same.0) (sym same.1))
          ]
        ]

-- the place of a router's name in a list of such is its number
pub router_placed : {K : Type 0} (d : Database) (name : List ℕ) (now : K → List ℕ) (keys : List K) (k : K) (r : ℕ) →
    IsAreaDatabase d → map now keys ≡ d.routers → position (λ key. same_bytes name (now key)) keys ≡ Some r →
    router_number d name ≡ r
router_placed d name now keys k r base are at =
    let found = position-Some (λ key. same_bytes name (now key)) keys r k at in
    let within : r < length d.routers = omega (arith, ap length are, length-map keys now, found.0) in
    router_at d r name base within (ap (λ names. get_or names r []) (sym are) ∙ get_or-map now keys r k [] found.0
    ∙ sym (same_bytes-true name (now (get_or keys r k)) found.1))

pub router_found : {K : Type 0} (d : Database) (name : List ℕ) (now : K → List ℕ) (keys : List K) →
    map now keys ≡ d.routers → list_any (λ key. same_bytes name (now key)) keys ≡ knows_router d name
router_found d name now keys are = sym (list_any-map (same_bytes name) now keys) ∙ ap (list_any (same_bytes name)) are

-- a set's keys after the next of some different names was inserted
pub keys_step : {K X : Type 0} (now : K → X) (test : K → Bool) (keys : List K) (k : K) (xs : List X) (i : ℕ) →
    AllPairs (λ a b. a ≢ b) xs → i < length xs → map now keys ≡ take i xs → ((d : X) → now k ≡ get_or xs i d) →
    ((y : K) → test y ≡ true → now y ≡ now k) → map now (if list_any test keys then keys else keys ++ k ∷ [])
    ≡ take (i + 1) xs
keys_step {K} {X} now test keys k xs i different within are is finds =
    rw (new_key (list_any test keys) refl)
    (map-append now keys (k ∷ []) ∙ ap (λ (ys : List X). ys ++ now k ∷ []) are
    ∙ ap (λ (y : X). take i xs ++ y ∷ []) (is (now k)) ∙ sym (take_more xs i (now k) within))
  where
    new_key : (b : Bool) → list_any test keys ≡ b → list_any test keys ≡ false
    new_key false none = none
    new_key true some =
        let any = Any-from_list_any test keys some in
        let count : length keys ≡ i = sym (length-map keys now) ∙ ap length are ∙ length-take-le i xs (omega arith) in
        let before : any.0 < i = omega (arith, any.2) in
        let stands : get_or xs any.0 (now any.1) ≡ now k
        = sym (get_or-take i xs any.0 (now any.1) before) ∙ ap (λ (ys : List X). get_or ys any.0 (now any.1)) (sym are)
        ∙ get_or-map now keys any.0 any.1 (now any.1) any.2 ∙ ap now any.3 ∙ finds any.1 any.4 in
        absurd (different any.0 i (now any.1) before within (stands ∙ is (now any.1)))

-- the router and the interface of each link are different
pub keys_differ : (d : Database) → IsAreaDatabase d → AllPairs (λ a b. a ≢ b) (map link_key d.links)
keys_differ d base = λ i j k before within.
    let short : j < length d.links = omega (arith, length-map d.links link_key) in
    let first = get_or-map link_key d.links i no_link k (omega arith) in
    let second = get_or-map link_key d.links j no_link k short in
    λ same. base.names i j no_link before short (ap (λ (key : ℕ × List ℕ). key.0) (sym first ∙ same ∙ second))
    (ap (λ (key : ℕ × List ℕ). key.1) (sym first ∙ same ∙ second))

-- the link at a place whose router and interface are those
pub link_placed : {K : Type 0} (d : Database) (router interface : List ℕ) (now : K → ℕ × List ℕ) (keys : List K) (k : K)
    (l : ℕ) → IsAreaDatabase d → knows_router d router ≡ true → map now keys ≡ map link_key d.links →
    position (λ key. router_number d router == (now key).0 && same_bytes interface (now key).1) keys ≡ Some l →
    link_number d router interface ≡ l
link_placed d router interface now keys k l base known are at =
    let found = position-Some (λ key. router_number d router == (now key).0 && same_bytes interface (now key).1) keys l k at in
    let within : l < length d.links = omega (arith, ap length are, length-map keys now, length-map d.links link_key, found.0) in
    let link : Linked = get_or d.links l no_link in
    let there : slice_get d.links l ≡ Some link = slice_get-get_or d.links l no_link within in
    let stands : now (get_or keys l k) ≡ link_key link
    = sym (get_or-map now keys l k (now k) found.0) ∙ ap (λ (names : List (ℕ × List ℕ)). get_or names l (now k)) are
    ∙ get_or-map link_key d.links l no_link (now k) within in
    let placed : (router_number d router == link.router && same_bytes interface link.interface) ≡ true =
    ap (λ (key : ℕ × List ℕ). router_number d router == key.0 && same_bytes interface key.1) (sym stands)
    ∙ found.1 in
    link_number_is d l link router interface base there
    (named_is d router interface link base known (all_at (IsDatabaseLink d) d.links base.each_link l link there) ∙ placed)

pub link_found : {K : Type 0} (d : Database) (router interface : List ℕ) (now : K → ℕ × List ℕ) (keys : List K) →
    IsAreaDatabase d → knows_router d router ≡ true → map now keys ≡ map link_key d.links →
    list_any (λ key. router_number d router == (now key).0 && same_bytes interface (now key).1) keys
    ≡ knows_link d router interface
link_found d router interface now keys base known are =
    let test : ℕ × List ℕ → Bool = λ key. router_number d router == key.0 && same_bytes interface key.1 in
    sym (list_any-map test now keys) ∙ ap (list_any test) are ∙ list_any-map test link_key d.links
    ∙ sym (list_any-agree (is_link_named d router interface) (λ link. router_number d router == link.router && same_bytes interface link.interface) d.links
    (All-weaker (IsDatabaseLink d) (λ link. is_link_named d router interface link
    ≡ (router_number d router == link.router && same_bytes interface link.interface))
    (λ link is. named_is d router interface link base known is) d.links base.each_link))

-- What isn't found has the number 0.

pub none_passing : (test : ℕ → Bool) (a n : ℕ) → ((k : ℕ) → a ≤ k → k < a + n → test k ≡ false) → filter test (numbers_from a n) ≡ []
none_passing test a zero fails = refl
none_passing test a (suc n) fails = rw (fails a (omega arith) (omega arith)) (none_passing test (a + 1) n (λ k from below. fails k (omega arith) (omega arith)))

pub router_unknown : (d : Database) (name : List ℕ) → knows_router d name ≡ false → router_number d name ≡ 0
router_unknown d name unknown =
    rw (none_passing (λ r. same_bytes (slice_index_or d.routers r []) name) 0 (length d.routers)
    (λ r from below. other r (none_passes (same_bytes name) d.routers unknown r [] (omega arith)))) refl
  where
    other : (r : ℕ) → same_bytes name (get_or d.routers r []) ≡ false → same_bytes (slice_index_or d.routers r []) name ≡ false
    other r differs = false_from_ne_true (same_bytes (slice_index_or d.routers r []) name)
        (λ same. false≢true (sym differs ∙ same_bytes-same name (get_or d.routers r []) (sym (same_bytes-true (slice_index_or d.routers r []) name same))))

pub link_unknown : (d : Database) (router interface : List ℕ) → knows_link d router interface ≡ false → link_number d router interface ≡ 0
link_unknown d router interface unknown =
    rw (none_passing (λ l. names_link d router interface (slice_get d.links l)) 0 (length d.links)
    (λ l from below. let within : l < length d.links = omega arith in
    rw (slice_get-get_or d.links l no_link within)
    (none_passes (is_link_named d router interface) d.links unknown l no_link within))) refl

-- a router without a name that is known has no link
pub no_router_link : (d : Database) (router interface : List ℕ) → IsAreaDatabase d → knows_router d router ≡ false → knows_link d router interface ≡ false
no_router_link d router interface base unknown =
    list_any_none (is_link_named d router interface) d.links
    (All-weaker (IsDatabaseLink d) (λ link. is_link_named d router interface link ≡ false)
    (λ link is. false_from_ne_true (is_link_named d router interface link)
    (λ named. let parts = and_parts (same_bytes (slice_index_or d.routers link.router []) router) (same_bytes link.interface interface) named in
    false≢true (sym (none_passes (same_bytes router) d.routers unknown link.router [] is.router)
    ∙ same_bytes-same router (get_or d.routers link.router [])
    (sym (same_bytes-true (slice_index_or d.routers link.router []) router parts.0)))))
    d.links base.each_link)

-- a number that is found, or else 0
pub number_or_zero : (o : Option ℕ) (n : ℕ) (known : Bool) →
    MatchOption o (known ≡ false) (λ r. (known ≡ true) × (r ≡ n)) → (known ≡ false → n ≡ 0) → unwrap_or o 0 ≡ n
number_or_zero None n known found none = sym (none found)
number_or_zero (Some r) n known found none = found.1

pub filter_twice : {X : Type 0} (p q : X → Bool) (xs : List X) → filter q (filter p xs) ≡ filter (λ x. p x && q x) xs
filter_twice p q [] = refl
filter_twice p q (x ∷ xs) =
    elim (cases_Bool (p x)) [
      | inl passes ↦ rw passes (ap (λ ys. cond (q x) (x ∷ ys) ys) (filter_twice p q xs))
      | inr fails ↦ rw fails (filter_twice p q xs)
    ]

-- the first edge out of a vertex that leads to a router
pub edge_to_first : (g : Area) (from router : ℕ) → edge_between g from router ≡
    unwrap_or (first_of (filter (λ e. (edge_at g e).to == router) (edges_out g from))) 0
edge_to_first g from router = ap (λ (es : List ℕ). unwrap_or (first_of es) 0)
    (sym (filter_twice (λ e. (edge_at g e).from == from) (λ e. (edge_at g e).to == router)
    (numbers_from 0 (length g.edges))))

pub vertices_count : (d : Database) → length (outline d).vertices ≡ length d.routers + length d.subnets
vertices_count d = vertices_length (length d.routers) (length d.subnets)
