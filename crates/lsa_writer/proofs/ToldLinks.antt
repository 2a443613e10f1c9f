-- What written LSAs tell: whose they are, and which links and routers they list.
use Rattle.std.proofs.Common.{inl, inr, ◌≡◌, ℕ, zero, suc, ◌+◌, ◌<◌, ◌≤◌, refl, sym, ◌∙◌, ap, subst, List, [], ◌∷◌, ◌++◌, length, map, filter, arith, Bool, true, false, cond, Some, None, slice_get, slice_index_or, zero-add}
use Rattle.std.specs.Prelude.{All, AllPairs, ◌==◌, ◌&&◌, not}
use Rattle.std.proofs.lemmas.Bool.{cases_Bool, and_parts, and_from, eqb-true, eq-eqb}
use Rattle.std.proofs.lemmas.Option.{none-some, same_Some, slice_get-get_or, slice_get_within, get_or_from_slice_get}
use Rattle.std.proofs.lemmas.List.{length-map, map-append}
use Rattle.std.proofs.lemmas.Simd.{map-map}
use Rattle.std.proofs.lemmas.List.Elements.{All-nil, All-cons, filter-append}
use Rattle.std.proofs.lemmas.List.Kept.{AllPairs-cons}
use Rattle.cost_base.specs.Lists.{numbers_from}
use Rattle.cost_base.proofs.ListLemmas.{length-numbers_from, list_any-map, pairs_nil, pairs_head, pairs_tail}
use Rattle.interface_model.specs.Records.{Router as Config}
use Rattle.lsdb_build.specs.declared.Far.{Far}
use Rattle.lsdb_build.specs.declared.Far.TheVariants.{Router, Subnet}
use Rattle.lsdb_build.specs.declared.Linked.{Linked}
use Rattle.lsdb_build.specs.Graphs.{Database, IsAreaDatabase, IsDatabaseLink, link_leads_to, leads_to, links_into_subnet}
use Rattle.lsdb_build.proofs.Pairs.{all_at, map_at, at_map}
use Rattle.lsa_bytes.specs.declared.LsaLink.{LsaLink}
use Rattle.lsa_bytes.specs.declared.Body.{Body}
use Rattle.lsa_bytes.specs.declared.Lsa.{Lsa}
use Rattle.lsa_bytes.specs.Written.{Masked}
use Rattle.lsa_bytes.specs.Databases.{is_router_lsa, is_network_lsa, is_router_of, is_network_of}
use Rattle.lsa_bytes.specs.AreaGraphs.{routers_among, networks_among, has_link, attaches, vertex_back, router_vertex_back, network_vertex_back}
use Rattle.lsa_writer.specs.declared.ends.LinkEnd.{LinkEnd}
use Rattle.lsa_writer.specs.declared.said.OwnedLink.{OwnedLink}
use Rattle.lsa_writer.specs.Ends.{id_of, end_of, link_ends, end_at, designated, member_ends, designated_ends}
use Rattle.lsa_writer.specs.WrittenLsas.{said_link, said_links, own_links, own_lsa, router_lsas, subnet_lsa, network_lsas, all_links_said, written_lsas}
use Rattle.lsa_writer.proofs.ListPlaces.{any_at, any_kept, number_there, keeps_all, keeps_none}
use Rattle.lsa_writer.proofs.LinkGroups.{IsBehind, AreInOrder}
use Rattle.lsa_writer.proofs.Elections.{elected_leads}

-- what the configurations and their database keep, as far as their LSAs need it
pub record AreFit (configs : List Config) (d : Database) : Type 0 where
  pub count : length configs ≡ length d.routers
  pub base : IsAreaDatabase d
  pub ids : (q r : ℕ) → q < length configs → r < length configs → id_of configs q ≡ id_of configs r → q ≡ r
  pub addresses : (l m : ℕ) (a b : Linked) → slice_get d.links l ≡ Some a → slice_get d.links m ≡ Some b →
      (end_of configs a).address ≡ (end_of configs b).address → l ≡ m
  pub members : (s : ℕ) (members : List ℕ) → slice_get d.subnets s ≡ Some members → 0 < length members

-- the LSAs themselves, without masks
abbrev pub lsa_of : Masked → Lsa
lsa_of m = m.lsa

abbrev pub own : List Config → List OwnedLink → ℕ → Lsa
own configs said router = (own_lsa configs said router).lsa

abbrev pub of_subnet : List LinkEnd → List ℕ → Lsa
of_subnet ends members = (subnet_lsa ends members).lsa

abbrev pub own_all : List Config → List OwnedLink → List Lsa
own_all configs said = map (own configs said) (numbers_from 0 (length configs))

abbrev pub of_subnets : List LinkEnd → List (List ℕ) → List Lsa
of_subnets ends subnets = map (of_subnet ends) subnets

abbrev pub told : List Config → Database → List ℕ → List Lsa
told configs d costs = own_all configs (all_links_said configs d costs) ++ of_subnets (link_ends configs d.links) d.subnets

pub lsas_are : (configs : List Config) (d : Database) (costs : List ℕ) → map lsa_of (written_lsas configs d costs) ≡ told configs d costs
lsas_are configs d costs =
    let said = all_links_said configs d costs in
    let ends = link_ends configs d.links in
    map-append lsa_of (router_lsas configs said) (network_lsas ends d.subnets)
    ∙ ap (λ (xs : List Lsa). xs ++ map lsa_of (network_lsas ends d.subnets)) (map-map lsa_of (own_lsa configs said) (numbers_from 0 (length configs)))
    ∙ ap (λ (xs : List Lsa). own_all configs said ++ xs) (map-map lsa_of (subnet_lsa ends) d.subnets)

-- Routers and networks.

router_there : (configs : List Config) (said : List OwnedLink) (k : ℕ) (x : Lsa) → slice_get (own_all configs said) k ≡ Some x → is_router_lsa x ≡ true
router_there configs said k x at = let from = map_at (own configs said) (numbers_from 0 (length configs)) k x at in ap is_router_lsa from.2

network_there : (ends : List LinkEnd) (subnets : List (List ℕ)) (k : ℕ) (x : Lsa) → slice_get (of_subnets ends subnets) k ≡ Some x → is_router_lsa x ≡ false
network_there ends subnets k x at = let from = map_at (of_subnet ends) subnets k x at in ap is_router_lsa from.2

pub routers_are : (configs : List Config) (d : Database) (costs : List ℕ) →
    routers_among (told configs d costs) ≡ own_all configs (all_links_said configs d costs)
routers_are configs d costs =
    let said = all_links_said configs d costs in
    let ends = link_ends configs d.links in
    filter-append is_router_lsa (own_all configs said) (of_subnets ends d.subnets)
    ∙ ap (λ (xs : List Lsa). xs ++ filter is_router_lsa (of_subnets ends d.subnets)) (keeps_all is_router_lsa (own_all configs said)
    (router_there configs said))
    ∙ ap (λ (xs : List Lsa). own_all configs said ++ xs) (keeps_none is_router_lsa (of_subnets ends d.subnets) (network_there ends d.subnets))
    ∙ append_nothing (own_all configs said)
  where
    append_nothing : (xs : List Lsa) → xs ++ [] ≡ xs
    append_nothing [] = refl
    append_nothing (x ∷ xs) = ap (λ ys. x ∷ ys) (append_nothing xs)

pub networks_are : (configs : List Config) (d : Database) (costs : List ℕ) →
    networks_among (told configs d costs) ≡ of_subnets (link_ends configs d.links) d.subnets
networks_are configs d costs =
    let said = all_links_said configs d costs in
    let ends = link_ends configs d.links in
    filter-append is_network_lsa (own_all configs said) (of_subnets ends d.subnets)
    ∙ ap (λ (xs : List Lsa). xs ++ filter is_network_lsa (of_subnets ends d.subnets))
    (keeps_none is_network_lsa (own_all configs said) (λ k x at. ap not (router_there configs said k x at)))
    ∙ keeps_all is_network_lsa (of_subnets ends d.subnets) (λ k x at. ap not (network_there ends d.subnets k x at))

pub own_length : (configs : List Config) (said : List OwnedLink) → length (own_all configs said) ≡ length configs
own_length configs said = length-map (numbers_from 0 (length configs)) (own configs said) ∙ length-numbers_from 0 (length configs)

-- What links say.

pub said_at : (configs : List Config) (ds : List LinkEnd) (links : List Linked) (costs : List ℕ) (l : ℕ) (link : Linked)
    (cost : ℕ) → slice_get links l ≡ Some link → slice_get costs l ≡ Some cost
    → slice_get (said_links configs ds links costs) l ≡ Some (said_link configs ds link cost)
said_at configs ds [] costs l link cost at priced = absurd (none-some link at)
said_at configs ds (x ∷ links) [] l link cost at priced = absurd (none-some cost priced)
said_at configs ds (x ∷ links) (y ∷ costs) zero link cost at priced =
    ap (λ (z : Linked). Some (said_link configs ds z y)) (same_Some x link at) ∙ ap (λ (z : ℕ). Some (said_link configs ds link z)) (same_Some y cost priced)
said_at configs ds (x ∷ links) (y ∷ costs) (suc l) link cost at priced = said_at configs ds links costs l link cost at priced

-- what holds of what each link says
pub said_every : (configs : List Config) (ds : List LinkEnd) (P : OwnedLink → Type 0) (links : List Linked) (costs : List ℕ) →
    ((k : ℕ) (link : Linked) (cost : ℕ) → slice_get links k ≡ Some link → slice_get costs k ≡ Some cost →
    P (said_link configs ds link cost)) → All P (said_links configs ds links costs)
said_every configs ds P [] costs each = All-nil P
said_every configs ds P (link ∷ links) [] each = All-nil P
said_every configs ds P (link ∷ links) (cost ∷ costs) each =
    All-cons P (said_link configs ds link cost) (said_links configs ds links costs) (each 0 link cost refl refl)
    (said_every configs ds P links costs (λ k x y at priced. each (suc k) x y at priced))

pub said_length : (configs : List Config) (ds : List LinkEnd) (links : List Linked) (costs : List ℕ) → length (said_links configs ds links costs) ≤ length links
said_length configs ds [] costs = omega arith
said_length configs ds (link ∷ links) [] = omega arith
said_length configs ds (link ∷ links) (cost ∷ costs) = omega (arith, said_length configs ds links costs)

-- it stands in the order of the links' routers, which are known
pub said_order : (configs : List Config) (ds : List LinkEnd) (links : List Linked) (costs : List ℕ) →
    AllPairs (λ a b. a.router ≤ b.router) links → AreInOrder (said_links configs ds links costs)
said_order configs ds [] costs order = pairs_nil IsBehind
said_order configs ds (link ∷ links) [] order = pairs_nil IsBehind
said_order configs ds (link ∷ links) (cost ∷ costs) order =
    AllPairs-cons IsBehind (said_link configs ds link cost) (said_links configs ds links costs)
    (said_every configs ds (IsBehind (said_link configs ds link cost)) links costs
    (λ k x y at priced. all_at (λ (z : Linked). link.router ≤ z.router) links
    (pairs_head (λ a b. a.router ≤ b.router) link links order) k x at))
    (said_order configs ds links costs (pairs_tail (λ a b. a.router ≤ b.router) link links order))

pub said_within : (configs : List Config) (d : Database) (costs : List ℕ) → AreFit configs d →
    All (λ s. (0 ≤ s.router) × (s.router < 0 + length configs)) (all_links_said configs d costs)
said_within configs d costs fit =
    said_every configs (designated_ends (link_ends configs d.links) d.subnets) (λ s. (0 ≤ s.router) × (s.router < 0 + length configs)) d.links costs
    (λ k x y at priced. (let is = all_at (IsDatabaseLink d) d.links fit.base.each_link k x at in (omega arith, omega (arith, is.router, fit.count))))

-- a link with a cost
pub cost_there : (costs : List ℕ) (links : List Linked) (l : ℕ) (link : Linked) → length costs ≡ length links →
    slice_get links l ≡ Some link → (cost : ℕ) × (slice_get costs l ≡ Some cost)
cost_there costs links l link one_each at =
    (slice_index_or costs l 0, slice_get-get_or costs l 0 (omega (arith, one_each, slice_get_within links l link at)))

-- a router's LSA has a link of this kind with this ID, where one of its links says so
pub own_has : (configs : List Config) (said : List OwnedLink) (router kind id l : ℕ) (s : OwnedLink) →
    slice_get said l ≡ Some s → s.router ≡ router → s.link.kind ≡ kind → s.link.id ≡ id
    → has_link kind id (own configs said router).body ≡ true
own_has configs said router kind id l s at of is named =
    let test : LsaLink → Bool = λ link. link.kind == kind && link.id == id in
    list_any-map test (λ (x : OwnedLink). x.link) (own_links router said)
    ∙ any_kept (λ (x : OwnedLink). x.router == router) (λ x. test x.link) said l s at (eq-eqb s.router router of)
    (and_from (s.link.kind == kind) (s.link.id == id) (eq-eqb s.link.kind kind is) (eq-eqb s.link.id id named))

-- a network lists a member's router
pub lists_member : (ends : List LinkEnd) (members : List ℕ) (k l id : ℕ) → slice_get members k ≡ Some l →
    (end_at ends l).router ≡ id → attaches id (of_subnet ends members).body ≡ true
lists_member ends members k l id at is =
    list_any-map (λ other. other == id) (λ (e : LinkEnd). e.router) (member_ends ends members)
    ∙ any_at (λ (e : LinkEnd). e.router == id) (member_ends ends members) k (end_at ends l)
    (at_map (end_at ends) members k l at) (eq-eqb (end_at ends l).router id is)

-- the link that leads to a subnet is one of its members
pub is_member : (d : Database) (s l : ℕ) (link : Linked) (members : List ℕ) → IsAreaDatabase d →
    slice_get d.links l ≡ Some link → link.to ≡ Subnet s → slice_get d.subnets s ≡ Some members
    → (k : ℕ) × (slice_get members k ≡ Some l)
is_member d s l link members base at to there =
    let within = slice_get_within d.subnets s members there in
    let are : members ≡ links_into_subnet d s = sym (get_or_from_slice_get d.subnets s members [] there) ∙ base.members s within in
    let below = slice_get_within d.links l link at in
    let leads : link_leads_to s (slice_get d.links l) ≡ true = ap (link_leads_to s) at ∙ ap (leads_to s) to ∙ eq-eqb s s refl in
    let kept = kept_place (λ m. link_leads_to s (slice_get d.links m)) (numbers_from 0 (length d.links)) l l
    (number_there 0 (length d.links) l below ∙ ap Some (zero-add l)) leads in
    (kept.0, subst (λ (ms : List ℕ). slice_get ms kept.0 ≡ Some l) (sym are) kept.1)
  where
    kept_place : (keep : ℕ → Bool) (xs : List ℕ) (k x : ℕ) → slice_get xs k ≡ Some x → keep x ≡ true → (j : ℕ) × (slice_get (filter keep xs) j ≡ Some x)
    kept_place keep [] k x at passes = absurd (none-some x at)
    kept_place keep (y ∷ ys) zero x at passes =
        (0, ap (λ b. slice_get (cond b (y ∷ filter keep ys) (filter keep ys)) 0) (ap keep (same_Some y x at) ∙ passes) ∙ at)
    kept_place keep (y ∷ ys) (suc k) x at passes = by_head (keep y) (kept_place keep ys k x at passes)
      where
        by_head : (b : Bool) → ((j : ℕ) × (slice_get (filter keep ys) j ≡ Some x)) →
            (j : ℕ) × (slice_get (cond b (y ∷ filter keep ys) (filter keep ys)) j ≡ Some x)
        by_head true later = (suc later.0, later.1)
        by_head false later = later

-- Vertices.

-- the vertex of the one LSA that is sought, where it leads back
pub back_at : (n : ℕ) (sought : Lsa → Bool) (leads : Body → Bool) (xs : List Lsa) (k : ℕ) (x : Lsa) →
    slice_get xs k ≡ Some x → sought x ≡ true → leads x.body ≡ true →
    ((j : ℕ) (y : Lsa) → slice_get xs j ≡ Some y → sought y ≡ true → j ≡ k) → vertex_back n sought leads xs ≡ Some (n + k)
back_at n sought leads [] k x at is back only = absurd (none-some x at)
back_at n sought leads (y ∷ ys) zero x at is back only =
    let same = same_Some y x at in
    ap (λ b. cond b (cond (leads y.body) (Some n) None) (vertex_back (n + 1) sought leads ys)) (ap sought same ∙ is)
    ∙ ap (λ b. cond b (Some n) None) (ap (λ (z : Lsa). leads z.body) same ∙ back) ∙ ap Some (omega arith)
back_at n sought leads (y ∷ ys) (suc k) x at is back only =
    elim (cases_Bool (sought y)) [
      | inl here ↦ absurd (not_first (only 0 y refl here))
      | inr other ↦
          ap (λ b. cond b (cond (leads y.body) (Some n) None) (vertex_back (n + 1) sought leads ys)) other
          ∙ back_at (n + 1) sought leads ys k x at is back (λ j z at_j passes. (let same = only (suc j) z at_j passes in omega arith))
          ∙ ap Some (omega arith)
    ]
  where
    not_first : 0 ≡ suc k → ⊥
    not_first h = omega arith

-- a router's LSA stands at its number
pub own_at : (configs : List Config) (said : List OwnedLink) (router : ℕ) → router < length configs →
    slice_get (own_all configs said) router ≡ Some (own configs said router)
own_at configs said router below =
    at_map (own configs said) (numbers_from 0 (length configs)) router router (number_there 0 (length configs) router below ∙ ap Some (zero-add router))

pub router_vertex : (configs : List Config) (d : Database) (costs : List ℕ) (router : ℕ) (leads : Body → Bool) →
    AreFit configs d → router < length configs → leads (own configs (all_links_said configs d costs) router).body ≡ true
    → router_vertex_back (told configs d costs) (id_of configs router) leads ≡ Some router
router_vertex configs d costs router leads fit below back =
    let said = all_links_said configs d costs in
    ap (λ (xs : List Lsa). vertex_back 0 (is_router_of (id_of configs router)) leads xs) (routers_are configs d costs)
    ∙ back_at 0 (is_router_of (id_of configs router)) leads (own_all configs said) router (own configs said router) (own_at configs said router below)
    (eq-eqb (id_of configs router) (id_of configs router) refl) back only
    ∙ ap Some (zero-add router)
  where
    only : (j : ℕ) (y : Lsa) → slice_get (own_all configs (all_links_said configs d costs)) j ≡ Some y → is_router_of (id_of configs router) y ≡ true →
        j ≡ router
    only j y at is =
        let said = all_links_said configs d costs in
        let within : j < length configs = omega (arith, slice_get_within (own_all configs said) j y at, own_length configs said) in
        let same : y ≡ own configs said j = same_Some y (own configs said j) (sym at ∙ own_at configs said j within) in
        let named = and_parts (is_router_lsa y) (y.router == id_of configs router) is in
        fit.ids j router within below (sym (ap (λ (z : Lsa). z.router) same) ∙ eqb-true y.router (id_of configs router) named.1)

abbrev number : Far → ℕ
number (Router r) = 0
number (Subnet t) = t

subnet_same : (a b : ℕ) → Subnet a ≡ Subnet b → a ≡ b
subnet_same a b h = ap number h

-- no two subnets have designated routers of one address
pub one_subnet : (configs : List Config) (d : Database) (s j : ℕ) (members others : List ℕ) → AreFit configs d →
    slice_get d.subnets s ≡ Some members → slice_get d.subnets j ≡ Some others
    → (designated (member_ends (link_ends configs d.links) others)).address ≡ (designated (member_ends (link_ends configs d.links) members)).address → j ≡ s
one_subnet configs d s j members others fit at at_j same =
    let one = elected_leads configs d s members fit.base at (fit.members s members at) in
    let other = elected_leads configs d j others fit.base at_j (fit.members j others at_j) in
    let equal : (end_of configs other.into.link).address ≡ (end_of configs one.into.link).address =
    sym (ap (λ (e : LinkEnd). e.address) other.end_is) ∙ same ∙ ap (λ (e : LinkEnd). e.address) one.end_is in
    let place = fit.addresses other.place one.place other.into.link one.into.link other.into.at one.into.at equal in
    let link : other.into.link ≡ one.into.link = same_Some other.into.link one.into.link (sym other.into.at ∙ ap (slice_get d.links) place ∙ one.into.at) in
    subnet_same j s (sym other.into.to ∙ ap (λ (z : Linked). z.to) link ∙ one.into.to)

pub network_vertex : (configs : List Config) (d : Database) (costs : List ℕ) (s : ℕ) (members : List ℕ) (leads : Body →
    Bool) → AreFit configs d → slice_get d.subnets s ≡ Some members →
    leads (of_subnet (link_ends configs d.links) members).body ≡ true
    → network_vertex_back (told configs d costs) (designated (member_ends (link_ends configs d.links) members)).address leads ≡ Some (length configs + s)
network_vertex configs d costs s members leads fit at back =
    let said = all_links_said configs d costs in
    let ends = link_ends configs d.links in
    let id = (designated (member_ends ends members)).address in
    ap (λ (xs : List Lsa). vertex_back (length xs) (is_network_of id) leads (networks_among (told configs d costs))) (routers_are configs d costs)
    ∙ ap (λ (n : ℕ). vertex_back n (is_network_of id) leads (networks_among (told configs d costs))) (own_length configs said)
    ∙ ap (λ (xs : List Lsa). vertex_back (length configs) (is_network_of id) leads xs) (networks_are configs d costs)
    ∙ back_at (length configs) (is_network_of id) leads (of_subnets ends d.subnets) s (of_subnet ends members) (at_map (of_subnet ends) d.subnets s members at)
    (eq-eqb id id refl) back only
  where
    only : (j : ℕ) (y : Lsa) → slice_get (of_subnets (link_ends configs d.links) d.subnets) j ≡ Some y →
        is_network_of (designated (member_ends (link_ends configs d.links) members)).address y ≡ true → j ≡ s
    only j y at_j is =
        let ends = link_ends configs d.links in
        let from = map_at (of_subnet ends) d.subnets j y at_j in
        let named = and_parts (is_network_lsa y) (y.id == (designated (member_ends ends members)).address) is in
        one_subnet configs d s j members from.0 fit at from.1 (sym (ap (λ (z : Lsa). z.id) from.2)
        ∙ eqb-true y.id (designated (member_ends ends members)).address named.1)
