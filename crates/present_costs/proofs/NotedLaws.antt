-- What is noted of the variables, link by link, is the present cost of each.
use Rattle.std.proofs.Common.{◌≡◌, ℕ, zero, suc, ◌+◌, ◌<◌, ◌≤◌, inl, inr, refl, sym, ◌∙◌, ap, List, [], ◌∷◌, ◌++◌, length, map, drop, get_or, set, arith, zero-add, Bool, true, false, cond, Some, None, drop-cons}
use Rattle.std.specs.Prelude.{slice_get, slice_index, if◌then◌else◌, ◌&&◌, ◌==◌}
use Rattle.std.specs.List.{list_all}
use Rattle.std.proofs.lemmas.Bool.{cases_Bool, eqb-true, eqb-false, ne_eqb}
use Rattle.std.proofs.lemmas.List.{length-set, get_or-set_other, same_lists}
use Rattle.std.proofs.lemmas.Grind.{get_or-set_at}
use Rattle.cost_base.specs.Lists.{numbers_from}
use Rattle.cost_base.proofs.ListLemmas.{map-numbers_from-agree, length-map-numbers_from, get_or-map-numbers_from}
use Rattle.area_graph.specs.declared.Price.{Price}
use Rattle.area_graph.specs.declared.Price.TheVariants.{Var}
use Rattle.area_graph.specs.declared.Edge.{Edge}
use Rattle.area_graph.specs.Area.{edge_at, no_edge}
use Rattle.design_problem.specs.Rows.{is_var}
use Rattle.lsdb_build.specs.declared.Linked.{Linked}
use Rattle.lsdb_build.specs.Graphs.{Database, link_edges, subnet_edges}
use Rattle.request_reader.specs.Asked.{Asked}
use Rattle.path_requests.specs.declared.ranges.Range.{Range}
use Rattle.path_requests.specs.declared.ranges.Range.TheVariants.{Within, AsItIs}
use Rattle.path_requests.specs.Meaning.{range_of, is_free, variable_of, present_cost, price_of, prices_from, problem_of}
use Rattle.present_costs.specs.declared.variables.Noted.{Noted}
use Rattle.present_costs.specs.declared.variables.Noted.TheVariants.{Nothing, One, Several}
use Rattle.present_costs.specs.PresentCosts.{costs_of_variable, common_cost, if_within, present_of_variable, present_of_variables}
use Rattle.present_costs.specs.Noted.{noted_with, noted_after, one_noted, noted_within}

-- The price of a link in the problem's graph.

price_there : (a : Asked) (d : Database) (routers l : ℕ) (links : List Linked) (more : List Edge) (k : ℕ) (link : Linked) →
    slice_get links k ≡ Some link →
    (get_or (link_edges routers links (prices_from a d l links) ++ more) k no_edge).price ≡ price_of a d (l + k) link (range_of a d link)
price_there a d routers l [] more k link there = absurd (cc)
price_there a d routers l (first ∷ links) more zero link there =
    let same : first ≡ link = cc in
    let place : l ≡ l + 0 = omega arith in
    ap (λ (i : Linked). price_of a d l i (range_of a d i)) same ∙ ap (λ (n : ℕ). price_of a d n link (range_of a d link)) place
price_there a d routers l (first ∷ links) more (suc k) link there =
    let place : l + 1 + k ≡ l + suc k = omega arith in
    price_there a d routers (l + 1) links more k link there ∙ ap (λ (n : ℕ). price_of a d n link (range_of a d link)) place

pub price_of_link : (a : Asked) (d : Database) (k : ℕ) (link : Linked) → slice_get d.links k ≡ Some link →
    (edge_at (problem_of a d).graph k).price ≡ price_of a d k link (range_of a d link)
price_of_link a d k link there =
    let place : 0 + k ≡ k = omega arith in
    price_there a d (length d.routers) 0 d.links (subnet_edges d.links (length d.routers) d.subnets) k link there
    ∙ ap (λ (n : ℕ). price_of a d n link (range_of a d link)) place

-- One link after another.

-- so far each variable is noted so; with the links from number i on that comes to what all links come to
pub record AreNoted (a : Asked) (d : Database) (n i : ℕ) (noted : List Noted) : Type 0 where
  pub so_far : ℕ → Noted
  pub items : noted ≡ map so_far (numbers_from 0 n)
  pub goes : (k : ℕ) → noted_after (so_far k) (costs_of_variable a d k i (drop i d.links)) ≡ noted_after Nothing (costs_of_variable a d k 0 d.links)

-- what is noted of a variable with a link of this price more
abbrev pub noted_by : (ℕ → Noted) → Price → ℕ → ℕ → Noted
noted_by f price cost k = if is_var k price then noted_with (f k) cost else f k

-- the place of the variable is written
pub noted_there : (f : ℕ → Noted) (n v cost : ℕ) (olds : List Noted) (value none : Noted) → olds ≡ map f (numbers_from 0 n) → v < length olds →
    value ≡ noted_with (get_or olds v none) cost → set olds v value ≡ map (noted_by f (Var v) cost) (numbers_from 0 n)
noted_there f n v cost olds value none are within is =
    same_lists (set olds v value) (map (noted_by f (Var v) cost) (numbers_from 0 n))
    (length-set olds v value ∙ count ∙ sym (length-map-numbers_from (noted_by f (Var v) cost) 0 n))
    (λ k d inside. at k d (omega (arith, inside, length-set olds v value, count)))
  where
    count : length olds ≡ n
    count = ap length are ∙ length-map-numbers_from f 0 n

    was : (k : ℕ) (d : Noted) → k < n → get_or olds k d ≡ f k
    was k d below = ap (λ (ns : List Noted). get_or ns k d) are ∙ get_or-map-numbers_from f 0 n k d below ∙ ap f (zero-add k)

    new : (k : ℕ) (d : Noted) → k < n → get_or (map (noted_by f (Var v) cost) (numbers_from 0 n)) k d ≡ noted_by f (Var v) cost k
    new k d below = get_or-map-numbers_from (noted_by f (Var v) cost) 0 n k d below ∙ ap (noted_by f (Var v) cost) (zero-add k)

    at : (k : ℕ) (d : Noted) → k < n → get_or (set olds v value) k d ≡ get_or (map (noted_by f (Var v) cost) (numbers_from 0 n)) k d
    at k d below =
        elim (cases_Bool (v == k)) [
          | inl passes ↦
              let same : v ≡ k = eqb-true v k passes in
              get_or-set_at olds v k value d (sym same) within ∙ is
              ∙ ap (λ noted. noted_with noted cost) (was v none (omega (arith, within, count)) ∙ ap f same)
              ∙ sym (new k d below ∙ rw passes refl)
          | inr fails ↦
              get_or-set_other olds v k value d (λ same. eqb-false v k fails (sym same)) ∙ was k d below
              ∙ sym (new k d below ∙ rw fails refl)
        ]

-- a place that there isn't is none of a variable
pub noted_nowhere : (f : ℕ → Noted) (n v cost : ℕ) (olds : List Noted) → olds ≡ map f (numbers_from 0 n) → length olds ≤ v →
    olds ≡ map (noted_by f (Var v) cost) (numbers_from 0 n)
noted_nowhere f n v cost olds are past =
    are ∙ map-numbers_from-agree f (noted_by f (Var v) cost) 0 n
    (λ k above below.
    let count : length olds ≡ n = ap length are ∙ length-map-numbers_from f 0 n in
    let fails : (v == k) ≡ false = ne_eqb v k (λ same. absurd (omega (arith, same, past, count, below))) in
    rw fails refl)

is_its : (a : Asked) (d : Database) (l : ℕ) (link : Linked) (range : Range) (k : ℕ) →
    is_var k (price_of a d l link range) ≡ (is_free range && variable_of a d l == k)
is_its a d l link (Within lo hi) k = refl
is_its a d l link AsItIs k = refl

one_more : (b : Bool) (noted : Noted) (cost : ℕ) (rest : List ℕ) →
    noted_after (cond b (noted_with noted cost) noted) rest ≡ noted_after noted (cond b (cost ∷ []) [] ++ rest)
one_more true noted cost rest = refl
one_more false noted cost rest = refl

pub noted_step : (a : Asked) (d : Database) (n i : ℕ) (link : Linked) (price : Price) (cost : ℕ) (olds news : List Noted) →
    i < length d.links → link ≡ get_or d.links i link → price ≡ price_of a d i link (range_of a d link) → cost ≡ present_cost a link →
    (was : AreNoted a d n i olds) → news ≡ map (noted_by was.so_far price cost) (numbers_from 0 n) →
    AreNoted a d n (i + 1) news
noted_step a d n i link price cost olds news within is priced costs was are = record {
  so_far = noted_by was.so_far price cost;
  items = are;
  goes = λ k.
      let next : i + 1 ≡ suc i = omega arith in
      let rest = costs_of_variable a d k (i + 1) (drop (suc i) d.links) in
      let first : drop i d.links ≡ link ∷ drop (suc i) d.links
      = drop-cons d.links i link within ∙ ap (λ (x : Linked). x ∷ drop (suc i) d.links) (sym is) in
      let test : is_var k price ≡ (is_free (range_of a d link) && variable_of a d i == k)
      = ap (λ (p : Price). is_var k p) priced ∙ is_its a d i link (range_of a d link) k in
      let noted : noted_by was.so_far price cost k
      ≡ (if is_free (range_of a d link) && variable_of a d i == k then noted_with (was.so_far k) (present_cost a link) else was.so_far k)
      = rw (test, costs) refl in
      ap (λ (m : ℕ). noted_after (noted_by was.so_far price cost k) (costs_of_variable a d k (i + 1) (drop m d.links))) next
      ∙ ap (λ (n : Noted). noted_after n rest) noted
      ∙ one_more (is_free (range_of a d link) && variable_of a d i == k) (was.so_far k) (present_cost a link) rest
      ∙ ap (λ (links : List Linked). noted_after (was.so_far k) (costs_of_variable a d k i links)) (sym first)
      ∙ was.goes k;
}

-- The one cost that is noted.

several : (costs : List ℕ) → noted_after Several costs ≡ Several
several [] = refl
several (cost ∷ costs) = several costs

one_by : (cost : ℕ) (costs : List ℕ) → one_noted (noted_after (One cost) costs) ≡ (if list_all (λ other. other == cost) costs then Some cost else None)
one_by cost [] = refl
one_by cost (other ∷ costs) = by_test (other == cost) (one_by cost costs)
  where
    by_test : (b : Bool) → one_noted (noted_after (One cost) costs) ≡ (if list_all (λ o. o == cost) costs then Some cost else None) →
        one_noted (noted_after (cond b (One cost) Several) costs) ≡ (if b && list_all (λ o. o == cost) costs then Some cost else None)
    by_test true rest = rest
    by_test false rest = ap one_noted (several costs)

-- it is the one that all costs are
pub one_noted_is : (costs : List ℕ) → one_noted (noted_after Nothing costs) ≡ common_cost costs
one_noted_is [] = refl
one_noted_is (cost ∷ costs) = one_by cost costs

-- The present cost of each variable.

pub present_is : (a : Asked) (d : Database) (low high : List ℕ) (noted : List Noted) → low ≡ (problem_of a d).low → high ≡ (problem_of a d).high →
    noted ≡ map (λ k. noted_after Nothing (costs_of_variable a d k 0 d.links)) (numbers_from 0 (length low)) →
    map (noted_within low high noted) (numbers_from 0 (length low)) ≡ present_of_variables a d
present_is a d low high noted lows highs are =
    map-numbers_from-agree (noted_within low high noted) (present_of_variable a d) 0 (length low) (λ k above below. at k (omega (arith, below)))
    ∙ ap (λ (bounds : List ℕ). map (present_of_variable a d) (numbers_from 0 (length bounds))) lows
  where
    at : (k : ℕ) → k < length low → noted_within low high noted k ≡ present_of_variable a d k
    at k below =
        let here : get_or noted k Nothing ≡ noted_after Nothing (costs_of_variable a d k 0 d.links)
        = ap (λ (ns : List Noted). get_or ns k Nothing) are
        ∙ get_or-map-numbers_from (λ j. noted_after Nothing (costs_of_variable a d j 0 d.links)) 0 (length low) k Nothing below
        ∙ ap (λ j. noted_after Nothing (costs_of_variable a d j 0 d.links)) (zero-add k) in
        ap (λ (o : Noted). if_within (slice_index low k) (slice_index high k) (one_noted o)) here
        ∙ ap (if_within (slice_index low k) (slice_index high k)) (one_noted_is (costs_of_variable a d k 0 d.links))
        ∙ ap (λ (l : List ℕ). if_within (slice_index l k) (slice_index high k) (common_cost (costs_of_variable a d k 0 d.links))) lows
        ∙ ap (λ (h : List ℕ). if_within (slice_index (problem_of a d).low k) (slice_index h k) (common_cost (costs_of_variable a d k 0 d.links))) highs
