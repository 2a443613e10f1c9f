-- Where LSAs stand, and the vertices that lead back.
use Rattle.std.proofs.Common.{◌≡◌, ℕ, suc, ◌+◌, ◌-◌, ◌<◌, ◌≤◌, ◌&&◌, not, Bool, true, false, cond, nat_eq, List, [], ◌∷◌, ◌++◌, length, get_or, filter, Option, None, Some, refl, sym, ap, subst, ◌∙◌, arith, add-zero}
use Rattle.std.specs.Prelude.{MatchOption, count_by, is_some}
use Rattle.std.specs.Option.{option_eq, option_or}
use Rattle.std.specs.Ordering.{nat_cmp}
use Rattle.std.specs.BTreeMap.{get}
use Rattle.std.proofs.lemmas.Bool.{false≢true}
use Rattle.std.proofs.lemmas.List.Sums.{sum_by-cons, sum_by-append, length-filter}
use Rattle.cost_base.proofs.ListLemmas.{option_or-assoc}
use Rattle.lsa_bytes.specs.declared.Body.{Body}
use Rattle.lsa_bytes.specs.declared.Lsa.{Lsa}
use Rattle.lsa_bytes.specs.declared.vertices.Kind.{Kind}
use Rattle.lsa_bytes.specs.declared.vertices.Kind.TheVariants.{Router, Network}
use Rattle.lsa_bytes.specs.declared.vertices.Spot.{Spot}
use Rattle.lsa_bytes.specs.declared.vertices.Found.{Found}
use Rattle.lsa_bytes.specs.Databases.{is_router_lsa, is_network_lsa, is_router_of, is_network_of}
use Rattle.lsa_bytes.specs.AreaGraphs.{routers_among, networks_among, vertex_back, router_vertex_back, network_vertex_back}
use Rattle.lsa_bytes.specs.Vertices.{AddsLsa, HasFound, is_kind, name_as, spot_if, spot_from}

-- whether the ID names an LSA of a kind
abbrev named : Kind → ℕ → Lsa → Bool
named kind id lsa = option_eq nat_eq (name_as kind lsa) (Some id)

has_name : (kind : Kind) (lsa : Lsa) → is_some (name_as kind lsa) ≡ is_kind kind lsa
has_name Router lsa = by_kind (is_router_lsa lsa)
  where
    by_kind : (b : Bool) → is_some (cond b (Some lsa.router) None) ≡ b
    by_kind true = refl
    by_kind false = refl
has_name Network lsa = by_kind (is_router_lsa lsa)
  where
    by_kind : (b : Bool) → is_some (cond b None (Some lsa.id)) ≡ not b
    by_kind true = refl
    by_kind false = refl

named_of_kind : (kind : Kind) (id : ℕ) (lsa : Lsa) → named kind id lsa ≡ true → is_kind kind lsa ≡ true
named_of_kind kind id lsa named = sym (has_name kind lsa) ∙ some_named (name_as kind lsa) named
  where
    some_named : (name : Option ℕ) → option_eq nat_eq name (Some id) ≡ true → is_some name ≡ true
    some_named None is = absurd (false≢true is)
    some_named (Some name) is = refl

named_router : (id : ℕ) (lsa : Lsa) → named Router id lsa ≡ is_router_of id lsa
named_router id lsa = by_kind (is_router_lsa lsa)
  where
    by_kind : (b : Bool) → option_eq nat_eq (cond b (Some lsa.router) None) (Some id) ≡ (b && nat_eq lsa.router id)
    by_kind true = refl
    by_kind false = refl

named_network : (id : ℕ) (lsa : Lsa) → named Network id lsa ≡ is_network_of id lsa
named_network id lsa = by_kind (is_router_lsa lsa)
  where
    by_kind : (b : Bool) → option_eq nat_eq (cond b None (Some lsa.id)) (Some id) ≡ (not b && nat_eq lsa.id id)
    by_kind true = refl
    by_kind false = refl

-- One LSA more among those that are found.

spot_from-push : (kind : Kind) (id number place : ℕ) (lsas : List Lsa) (lsa : Lsa) → spot_from kind id number place (lsas ++ lsa ∷ [])
    ≡ option_or (spot_from kind id number place lsas) (spot_if (named kind id lsa) (number + count_by (is_kind kind) lsas) (place + length lsas))
spot_from-push kind id number place [] lsa = by_test (named kind id lsa)
  where
    by_test : (b : Bool) → option_or (spot_if b number place) None ≡ spot_if b (number + 0) (place + 0)
    by_test true = ap (λ (n : ℕ). spot_if true n place) (sym (add-zero number)) ∙ ap (λ (p : ℕ). spot_if true (number + 0) p) (sym (add-zero place))
    by_test false = refl
spot_from-push kind id number place (other ∷ lsas) lsa =
    let one : ℕ = cond (is_kind kind other) 1 0 in
    let counted : number + one + count_by (is_kind kind) lsas ≡ number + count_by (is_kind kind) (other ∷ lsas) =
    omega (arith, sum_by-cons (λ l. cond (is_kind kind l) 1 0) other lsas) in
    let placed : place + 1 + length lsas ≡ place + length (other ∷ lsas) = omega arith in
    let first = spot_if (named kind id other) number place in
    let later = spot_from kind id (number + one) (place + 1) lsas in
    ap (option_or first) (spot_from-push kind id (number + one) (place + 1) lsas lsa)
    ∙ sym (option_or-assoc first later (spot_if (named kind id lsa) (number + one + count_by (is_kind kind) lsas) (place + 1 + length lsas)))
    ∙ ap (λ (n : ℕ). option_or (option_or first later) (spot_if (named kind id lsa) n (place + 1 + length lsas))) counted
    ∙ ap (λ (p : ℕ). option_or (option_or first later) (spot_if (named kind id lsa) (number + count_by (is_kind kind) (other ∷ lsas)) p)) placed

pub found_push : (kind : Kind) (lsas : List Lsa) (lsa : Lsa) (old new : Found) (place : ℕ) → HasFound kind lsas old →
    AddsLsa old new (name_as kind lsa) place → place ≡ length lsas → HasFound kind (lsas ++ lsa ∷ []) new
found_push kind lsas lsa old new place has adds place_is = record {
  spots = λ id. adds.spots id
      ∙ ap (λ (found : Option Spot). option_or found (spot_if (named kind id lsa) old.count place)) (has.spots id)
      ∙ ap (λ (n : ℕ). option_or (spot_from kind id 0 0 lsas) (spot_if (named kind id lsa) n place)) (has.count ∙ sym_zero_add (count_by (is_kind kind) lsas))
      ∙ ap (λ (p : ℕ). option_or (spot_from kind id 0 0 lsas)
      (spot_if (named kind id lsa) (0 + count_by (is_kind kind) lsas) p)) (place_is ∙ sym_zero_add (length lsas))
      ∙ sym (spot_from-push kind id 0 0 lsas lsa);
  count = adds.count ∙ omega (
    arith,
    has.count,
    ap (λ (b : Bool). let n : ℕ = cond b 1 0 in n) (has_name kind lsa),
    sum_by-append (λ l. cond (is_kind kind l) 1 0) lsas (lsa ∷ []),
  );
}
  where
    sym_zero_add : (n : ℕ) → n ≡ 0 + n
    sym_zero_add n = omega arith

-- The vertex of a spot.

-- a spot among LSAs of which the first has this number and this place, and what comes of the vertex there
record LeadsAt (leads : Body → Bool) (n number place : ℕ) (lsas : List Lsa) (total : Option ℕ) (spot : Spot) : Type 0 where
  first : place ≤ spot.place
  within : spot.place < place + length lsas
  near : spot.number + place ≤ spot.place + number
  back : (d : Lsa) → total ≡ cond (leads (get_or lsas (spot.place - place) d).body) (Some (n + spot.number)) None

spot_back : (kind : Kind) (id : ℕ) (leads : Body → Bool) (n v p : ℕ) (lsas : List Lsa) → MatchOption (spot_from kind id v p lsas)
    (vertex_back (n + v) (named kind id) leads (filter (is_kind kind) lsas) ≡ None)
    (LeadsAt leads n v p lsas (vertex_back (n + v) (named kind id) leads (filter (is_kind kind) lsas)))
spot_back kind id leads n v p [] = refl
spot_back kind id leads n v p (lsa ∷ more) =
    by_tests (is_kind kind lsa) (named kind id lsa) (named_of_kind kind id lsa)
    (vertex_back (n + v) (named kind id) leads (filter (is_kind kind) (lsa ∷ more))) (seen (is_kind kind lsa))
    (λ w. spot_back kind id leads n w (p + 1) more)
  where
    after : Bool → Bool → Option ℕ
    after k b = cond k (cond b (cond (leads lsa.body) (Some (n + v)) None)
        (vertex_back (n + v + 1) (named kind id) leads (filter (is_kind kind) more)))
        (vertex_back (n + v) (named kind id) leads (filter (is_kind kind) more))

    seen : (k : Bool) → vertex_back (n + v) (named kind id) leads
        (cond k (lsa ∷ filter (is_kind kind) more) (filter (is_kind kind) more)) ≡ after k (named kind id lsa)
    seen true = refl
    seen false = refl

    moved : (total : Option ℕ) (w : ℕ) → v ≤ w → w ≤ v + 1 →
        total ≡ vertex_back (n + w) (named kind id) leads (filter (is_kind kind) more) → (found : Option Spot)
        → MatchOption found (vertex_back (n + w) (named kind id) leads (filter (is_kind kind) more) ≡ None)
        (LeadsAt leads n w (p + 1) more (vertex_back (n + w) (named kind id) leads (filter (is_kind kind) more)))
        → MatchOption found (total ≡ None) (LeadsAt leads n v p (lsa ∷ more) total)
    moved total w low high is None none = is ∙ none
    moved total w low high is (Some spot) at =
        let next : suc (spot.place - (p + 1)) ≡ spot.place - p = omega (arith, at.first) in
        record {
          first = omega (arith, at.first);
          within = omega (arith, at.within);
          near = omega (arith, at.near);
          back = λ d. is ∙ at.back d ∙ ap (λ (i : ℕ). cond (leads (get_or (lsa ∷ more) i d).body) (Some (n + spot.number)) None) next;
        }

    by_tests : (k b : Bool) → (b ≡ true → k ≡ true) → (total : Option ℕ) → total ≡ after k b
        → ((w : ℕ) → MatchOption (spot_from kind id w (p + 1) more)
        (vertex_back (n + w) (named kind id) leads (filter (is_kind kind) more) ≡ None)
        (LeadsAt leads n w (p + 1) more (vertex_back (n + w) (named kind id) leads (filter (is_kind kind) more))))
        → MatchOption (option_or (spot_if b v p) (spot_from kind id (v + cond k 1 0) (p + 1) more)) (total ≡ None) (LeadsAt leads n v p (lsa ∷ more) total)
    by_tests true true of_kind total is later =
        let here : 0 ≡ p - p = omega arith in
        record {
          first = omega arith;
          within = omega arith;
          near = omega arith;
          back = λ d. is ∙ ap (λ (i : ℕ). cond (leads (get_or (lsa ∷ more) i d).body) (Some (n + v)) None) here;
        }
    by_tests false true of_kind total is later = absurd (false≢true (of_kind refl))
    by_tests true false of_kind total is later =
        let next : n + v + 1 ≡ n + (v + 1) = omega arith in
        moved total (v + 1) (omega arith) (omega arith)
        (is ∙ ap (λ (m : ℕ). vertex_back m (named kind id) leads (filter (is_kind kind) more)) next)
        (spot_from kind id (v + 1) (p + 1) more) (later (v + 1))
    by_tests false false of_kind total is later =
        let next : n + v ≡ n + (v + 0) = omega arith in
        moved total (v + 0) (omega arith) (omega arith)
        (is ∙ ap (λ (m : ℕ). vertex_back m (named kind id) leads (filter (is_kind kind) more)) next)
        (spot_from kind id (v + 0) (p + 1) more) (later (v + 0))

-- how the LSAs of a kind lead back
pub record Returns (lsas : List Lsa) (leads : Body → Bool) (n : ℕ) (total : Option ℕ) (spot : Spot) : Type 0 where
  pub within : spot.place < length lsas
  pub near : spot.number ≤ spot.place
  pub back : (d : Lsa) (b : Bool) → leads (get_or lsas spot.place d).body ≡ b → cond b (Some (n + spot.number)) None ≡ total

returns_at : (lsas : List Lsa) (leads : Body → Bool) (n : ℕ) (total : Option ℕ) (spot : Spot) →
    LeadsAt leads n 0 0 lsas total spot → Returns lsas leads n total spot
returns_at lsas leads n total spot at = record {
  within = omega (arith, at.within);
  near = omega (arith, at.near);
  back = λ d b led.
      (let place : spot.place - 0 ≡ spot.place = omega arith in
      sym (at.back d ∙ ap (λ (i : ℕ). cond (leads (get_or lsas i d).body) (Some (n + spot.number)) None) place
      ∙ ap (λ (c : Bool). cond c (Some (n + spot.number)) None) led));
}

router_total : (lsas : List Lsa) (router : ℕ) (leads : Body → Bool) →
    vertex_back (0 + 0) (named Router router) leads (filter (is_kind Router) lsas) ≡ router_vertex_back lsas router leads
router_total lsas router leads = ap (λ (test : Lsa → Bool). vertex_back 0 test leads (routers_among lsas)) (λ i lsa. named_router router lsa i)

network_total : (lsas : List Lsa) (id : ℕ) (leads : Body → Bool) →
    vertex_back (length (routers_among lsas) + 0) (named Network id) leads (filter (is_kind Network) lsas)
    ≡ network_vertex_back lsas id leads
network_total lsas id leads =
    ap (λ (n : ℕ). vertex_back n (named Network id) leads (networks_among lsas)) (add-zero (length (routers_among lsas)))
    ∙ ap (λ (test : Lsa → Bool). vertex_back (length (routers_among lsas)) test leads (networks_among lsas)) (λ i lsa. named_network id lsa i)

-- of a router that is found, and of one that isn't
pub router_found : (lsas self : List Lsa) (found : Found) (router : ℕ) (leads : Body → Bool) (spot : Spot) →
    HasFound Router lsas found → lsas ≡ self → Some spot ≡ get nat_cmp found.by_name router →
    Returns lsas leads 0 (router_vertex_back self router leads) spot
router_found lsas self found router leads spot has same is =
    let at = subst (λ (o : Option Spot).
    MatchOption o (vertex_back (0 + 0) (named Router router) leads (filter (is_kind Router) lsas) ≡ None)
    (LeadsAt leads 0 0 0 lsas (vertex_back (0 + 0) (named Router router) leads (filter (is_kind Router) lsas))))
    (sym (is ∙ has.spots router)) (spot_back Router router leads 0 0 0 lsas) in
    returns_at lsas leads 0 (router_vertex_back self router leads) spot
    (subst (λ (total : Option ℕ). LeadsAt leads 0 0 0 lsas total spot) (router_total lsas router leads
    ∙ ap (λ (ls : List Lsa). router_vertex_back ls router leads) same) at)

pub router_unfound : (lsas self : List Lsa) (found : Found) (router : ℕ) (leads : Body → Bool) →
    HasFound Router lsas found → lsas ≡ self → None ≡ get nat_cmp found.by_name router →
    None ≡ router_vertex_back self router leads
router_unfound lsas self found router leads has same is =
    let none = subst (λ (o : Option Spot).
    MatchOption o (vertex_back (0 + 0) (named Router router) leads (filter (is_kind Router) lsas) ≡ None)
    (LeadsAt leads 0 0 0 lsas (vertex_back (0 + 0) (named Router router) leads (filter (is_kind Router) lsas))))
    (sym (is ∙ has.spots router)) (spot_back Router router leads 0 0 0 lsas) in
    sym none ∙ router_total lsas router leads ∙ ap (λ (ls : List Lsa). router_vertex_back ls router leads) same

pub network_found : (lsas self : List Lsa) (found : Found) (id : ℕ) (leads : Body → Bool) (spot : Spot) →
    HasFound Network lsas found → lsas ≡ self → Some spot ≡ get nat_cmp found.by_name id →
    Returns lsas leads (length (routers_among lsas)) (network_vertex_back self id leads) spot
network_found lsas self found id leads spot has same is =
    let n = length (routers_among lsas) in
    let at = subst (λ (o : Option Spot).
    MatchOption o (vertex_back (n + 0) (named Network id) leads (filter (is_kind Network) lsas) ≡ None)
    (LeadsAt leads n 0 0 lsas (vertex_back (n + 0) (named Network id) leads (filter (is_kind Network) lsas))))
    (sym (is ∙ has.spots id)) (spot_back Network id leads n 0 0 lsas) in
    returns_at lsas leads n (network_vertex_back self id leads) spot
    (subst (λ (total : Option ℕ). LeadsAt leads n 0 0 lsas total spot) (network_total lsas id leads
    ∙ ap (λ (ls : List Lsa). network_vertex_back ls id leads) same) at)

pub network_unfound : (lsas self : List Lsa) (found : Found) (id : ℕ) (leads : Body → Bool) →
    HasFound Network lsas found → lsas ≡ self → None ≡ get nat_cmp found.by_name id → None ≡ network_vertex_back self id leads
network_unfound lsas self found id leads has same is =
    let n = length (routers_among lsas) in
    let none = subst (λ (o : Option Spot).
    MatchOption o (vertex_back (n + 0) (named Network id) leads (filter (is_kind Network) lsas) ≡ None)
    (LeadsAt leads n 0 0 lsas (vertex_back (n + 0) (named Network id) leads (filter (is_kind Network) lsas))))
    (sym (is ∙ has.spots id)) (spot_back Network id leads n 0 0 lsas) in
    sym none ∙ network_total lsas id leads ∙ ap (λ (ls : List Lsa). network_vertex_back ls id leads) same

-- as many are found as there are of the kind
pub router_count : (lsas self : List Lsa) (found : Found) → HasFound Router lsas found → lsas ≡ self → found.count ≡ length (routers_among self)
router_count lsas self found has same = has.count ∙ sym (length-filter is_router_lsa lsas) ∙ ap (λ (ls : List Lsa). length (routers_among ls)) same

pub network_count : (lsas self : List Lsa) (found : Found) → HasFound Network lsas found → lsas ≡ self → found.count ≡ length (networks_among self)
network_count lsas self found has same = has.count ∙ sym (length-filter is_network_lsa lsas) ∙ ap (λ (ls : List Lsa). length (networks_among ls)) same
