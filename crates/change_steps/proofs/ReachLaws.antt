-- What paths cost at least in every state, and what a step leaves that takes nothing from a path.
use Rattle.std.proofs.Common.{◌≡◌, ℕ, ◌+◌, ◌*◌, ◌<◌, ◌≤◌, refl, sym, ◌∙◌, ap, subst, List, [], ◌∷◌, ◌++◌, All, length, get_or, inl, inr, arith, Bool, true, false, cond, ltb, lt-ltb, le-ltb, zero-add, Option, Some, None}
use Rattle.std.proofs.lemmas.Bool.{both_ways, cases_Bool, cases_lt, cond-false, cond-true}
use Rattle.std.proofs.lemmas.List.{get_or_append_left, get_or_at, get_or_default, get_or_past, length_push}
use Rattle.cost_base.specs.Lists.{Has}
use Rattle.cost_base.proofs.ListLemmas.{all_kept, get_or-map-numbers_from, kept_all, length-map-numbers_from, all_has}
use Rattle.cost_base.specs.Marks.{is_marked, is_one_of}
use Rattle.cost_base.proofs.MarkLaws.{has_one_of, one_of_has}
use Rattle.area_graph.specs.declared.Edge.{Edge}
use Rattle.area_graph.specs.declared.Point.{Point}
use Rattle.area_graph.specs.declared.Price.TheVariants.{Var}
use Rattle.area_graph.specs.Area.{Area, HasMetrics, edge_at, no_edge}
use Rattle.area_graph.specs.Paths.{Ends, IsPathOf}
use Rattle.area_graph.specs.Costs.{FitsPoint, IsPriced, at_costs, cost, price_at}
use Rattle.area_graph.proofs.Bounds.{price-le}
use Rattle.area_graph.proofs.Visits.{joined_known}
use Rattle.design_problem.specs.Problems.{request_at, request_ends}
use Rattle.spf_ties.specs.Distances.{IsLeastCost}
use Rattle.change_steps.specs.declared.reach.Reach.{Reach}
use Rattle.change_steps.specs.Rollouts.{CostMoves, IsInterfaceCost, IsRollout, Rollout, variables_of_step, step_count}
use Rattle.change_steps.specs.Orders.{IsOnlyIn, costs_in, is_changed}
use Rattle.change_steps.specs.Search.{HasMore}
use Rattle.change_steps.specs.Reaches.{AreLeastToEach, AreDearerOver, AreLeastTo, IsHarmless, IsReach, least_from_to, edges_of_step, has_price, least_cost, least_costs, price_rises}
use Rattle.change_steps.proofs.Keeping.{only_unless, paid, pays_more}
use Rattle.change_steps.proofs.Passages.{costs_over}
use Rattle.change_steps.proofs.StateCosts.{changed_if, cost_at, cost_changed, cost_left, costs_le, price_le}
use Rattle.change_steps.proofs.KindLaws.{between_costs, same_change}
use Rattle.change_steps.proofs.StateLaws.{point_fits}

-- The least costs.

lesser : (a b : ℕ) → (cond (ltb a b) a b ≤ a) × (cond (ltb a b) a b ≤ b)
lesser a b = elim (cases_lt a b) [
  | inl less ↦ let same = cond-true (ltb a b) a b (lt-ltb a b less) in (omega (arith, same), omega (arith, same, less))
  | inr most ↦ let same = cond-false (ltb a b) a b (le-ltb a b most) in (omega (arith, same, most), omega (arith, same))
]

length-least_costs : (m : CostMoves) → length (least_costs m) ≡ length m.present
unfolding least_costs
length-least_costs m = length-map-numbers_from (least_cost m) 0 (length m.present)

least_at : (m : CostMoves) (v : ℕ) → v < length m.present → get_or (least_costs m) v 0 ≡ least_cost m v
unfolding least_costs
least_at m v within = get_or-map-numbers_from (least_cost m) 0 (length m.present) v 0 within ∙ ap (least_cost m) (zero-add v)

-- no state has less
least_below : (m : CostMoves) (done : ℕ → Bool) (v : ℕ) → get_or (least_costs m) v 0 ≤ get_or (costs_in m done) v 0
least_below m done v = elim (cases_lt v (length m.present)) [
  | inl within ↦
      let mine = least_at m v within in
      let theirs = cost_at m done v within in
      let both = lesser (get_or m.present v 0) (get_or m.wanted v 0) in
      elim (cases_Bool (is_changed m done v)) [
        | inl changed ↦ let is = cost_changed m done v changed in let less = both.1 in omega (arith, mine, theirs, is, less)
        | inr left ↦ let is = cost_left m done v left in let less = both.0 in omega (arith, mine, theirs, is, less)
      ]
  | inr past ↦
      let mine = get_or_past (least_costs m) v 0 (let count = length-least_costs m in omega (arith, count, past)) in
      omega (arith, mine)
]

one_of_both : (P : ℕ → Type 0) (a b : ℕ) → P a → P b → P (cond (ltb a b) a b)
one_of_both P a b first second = elim (cases_lt a b) [
  | inl less ↦ subst P (sym (cond-true (ltb a b) a b (lt-ltb a b less))) first
  | inr most ↦ subst P (sym (cond-false (ltb a b) a b (le-ltb a b most))) second
]

-- the least costs are a point for the graph
pub least_fits : (r : Rollout) → IsRollout r → FitsPoint r.graph (at_costs (least_costs r.moves))
least_fits r is = record {
  scale = omega arith;
  scale_below = omega arith;
  priced = subst (λ (n : ℕ). All (λ edge. IsPriced n edge.price) r.graph.edges) (sym (length-least_costs r.moves)) is.priced;
  least = λ v d within. (bounds v d within).0;
  most = λ v d within. let most = (bounds v d within).1 in omega (arith, most);
}
  where
    bounds : (v d : ℕ) → v < length (least_costs r.moves) → IsInterfaceCost (get_or (least_costs r.moves) v d)
    bounds v d within =
        let near : v < length r.moves.present = let count = length-least_costs r.moves in omega (arith, count, within) in
        subst IsInterfaceCost (sym (get_or_default (least_costs r.moves) v d 0 within ∙ least_at r.moves v near))
        (one_of_both IsInterfaceCost (get_or r.moves.present v 0) (get_or r.moves.wanted v 0) (is.moves.present v 0 near)
        (is.moves.wanted v 0 (let count = is.moves.count in omega (arith, count, near))))

-- at them a path costs no more than in a state
least_paid : (r : Rollout) (done : ℕ → Bool) (es : List ℕ) → cost r.graph (at_costs (least_costs r.moves)) es ≤ cost r.graph (at_costs (costs_in r.moves done))
    es
least_paid r done es = pays_more r.graph (at_costs (least_costs r.moves)) (at_costs (costs_in r.moves done)) es
    (λ e. price_le (least_costs r.moves) (costs_in r.moves done) (edge_at r.graph e).price (λ v price. least_below r.moves done v))

-- What paths cost at least, vertex by vertex.

pub least_none : (g : Area) (p : Point) (target : ℕ) → AreLeastTo g p target []
least_none g p target = λ v path way. let nothing = get_or_past {X = ℕ} [] v 0 (omega arith) in omega (arith, nothing)

found_least : (g : Area) (p : Point) (ends : Ends) (x : ℕ) (found : Option ℕ) → IsLeastCost g p ends found → ((least : ℕ) → found ≡ Some least → x ≤ least) →
    (path : List ℕ) → IsPathOf g ends path → x ≤ cost g p path
found_least g p ends x (Some least) is below path way = let first = below least refl in let then = is.none_less path way in omega (arith, first, then)
found_least g p ends x None is below path way = absurd (is path way)

pub least_more : (g : Area) (p : Point) (target x : ℕ) (least : List ℕ) (n : ℕ) (found : Option ℕ) → length least ≡ n → AreLeastTo g p target least →
    IsLeastCost g p (record { start = n; end = target; excluded = [] }) found → ((cost : ℕ) → found ≡ Some cost → x ≤ cost) →
    AreLeastTo g p target (least ++ x ∷ [])
least_more g p target x least n found count are is below = λ v path way. elim (cases_lt v n) [
  | inl before ↦
      let same = get_or_append_left least (x ∷ []) 0 v (omega (arith, before, count)) in
      let old = are v path way in
      omega (arith, same, old)
  | inr not_before ↦ elim (cases_lt n v) [
    | inl past ↦
        let nothing = get_or_past (least ++ x ∷ []) v 0 (let more = length_push least x in omega (arith, more, count, past)) in
        omega (arith, nothing)
    | inr not_past ↦
        let here : n ≡ v = omega (arith, not_before, not_past) in
        let same = get_or_at least x [] 0 v (count ∙ here) in
        let low = found_least g p (record { start = n; end = target; excluded = [] }) x found is below path
        (subst (λ (s : ℕ). IsPathOf g (record { start = s; end = target; excluded = [] }) path) (sym here) way) in
        omega (arith, same, low)
  ]
]

pub at_least_none : (g : Area) (p : Point) → AreLeastToEach g p []
at_least_none g p = λ target. subst (AreLeastTo g p target) (sym (get_or_past {X = List ℕ} [] target [] (omega arith))) (least_none g p target)

pub at_least_more : (g : Area) (p : Point) (n : ℕ) (least : List (List ℕ)) (row : List ℕ) → length least ≡ n → AreLeastToEach g p least → AreLeastTo g p n row →
    AreLeastToEach g p (least ++ row ∷ [])
at_least_more g p n least row count are is = λ target. elim (cases_lt target n) [
  | inl before ↦ subst (AreLeastTo g p target) (sym (get_or_append_left least (row ∷ []) [] target (omega (arith, before, count)))) (are target)
  | inr not_before ↦ elim (cases_lt n target) [
    | inl past ↦ subst (AreLeastTo g p target)
        (sym (get_or_past (least ++ row ∷ []) target [] (let more = length_push least row in omega (arith, more, count, past)))) (least_none g p target)
    | inr not_past ↦
        let here : n ≡ target = omega (arith, not_before, not_past) in
        subst (AreLeastTo g p target) (sym (get_or_at least row [] [] target (count ∙ here))) (subst (λ (t : ℕ). AreLeastTo g p t row) here is)
  ]
]

-- Edges of a step.

pub step_edges_known : (r : Rollout) (step : ℕ) → All (λ e. e < length r.graph.edges) (edges_of_step r step)
unfolding edges_of_step
step_edges_known r step = all_kept (λ e. e < length r.graph.edges) (λ e. has_price (variables_of_step r.moves step) (edge_at r.graph e).price) 0
    (length r.graph.edges)
    (λ e above below has. omega (arith, below))

pub step_edges : (r : Rollout) (reach : Reach) (step : ℕ) → IsReach r reach → step < step_count r → get_or reach.edges step [] ≡ edges_of_step r step
step_edges r reach step is known = ap (λ (lists : List (List ℕ)). get_or lists step []) is.edges
    ∙ get_or-map-numbers_from (edges_of_step r) 0 (step_count r) step [] known ∙ ap (edges_of_step r) (zero-add step)

pub step_within : (r : Rollout) (reach : Reach) (step : ℕ) → IsReach r reach → step < step_count r → step < length reach.edges
step_within r reach step is known = let count = ap length is.edges ∙ length-map-numbers_from (edges_of_step r) 0 (step_count r) in omega (arith, count, known)

-- a price in a state is an interface cost
pub price_below : (r : Rollout) (g : Area) (marks : List Bool) (p : Point) (e : ℕ) (edge : Edge) → IsRollout r → HasMetrics g → g ≡ r.graph →
    p ≡ at_costs (costs_in r.moves (is_marked marks)) → e < length r.graph.edges → edge ≡ edge_at g e → price_at p edge.price ≤ 65535
price_below r g marks p e edge is metrics graph same known edge_is =
    let fits = point_fits r g marks p is graph same in
    let within : e < length g.edges = subst (λ (h : Area). e < length h.edges) (sym graph) known in
    let most = price-le g p (edge_at g e).price fits (metrics e no_edge within) (fits.priced e no_edge within) in
    let one : p.scale ≡ 1 = ap (λ (q : Point). q.scale) same in
    let here = ap (λ (x : Edge). price_at p x.price) edge_is in
    omega (arith, most, here, mul_one p.scale one)
  where
    mul_one : (s : ℕ) → s ≡ 1 → 65535 * s ≡ 65535
    mul_one s one = ap (λ (n : ℕ). 65535 * n) one

pub least_point_fits : (r : Rollout) (g : Area) (p : Point) → IsRollout r → g ≡ r.graph → p ≡ at_costs (least_costs r.moves) → FitsPoint g p
least_point_fits r g p is graph same =
    subst (λ (h : Area). FitsPoint h p) (sym graph) (subst (λ (q : Point). FitsPoint r.graph q) (sym same) (least_fits r is))

-- rivals over an edge are dearer than a path that costs less than they do at least
pub dearer_over : (r : Rollout) (done : ℕ → Bool) (least : List (List ℕ)) (k e mine : ℕ) → IsRollout r →
    AreLeastToEach r.graph (at_costs (least_costs r.moves)) least →
    mine ≡ cost r.graph (at_costs (costs_in r.moves done)) (request_at r.requests k).path.edges →
    mine < least_from_to least (request_at r.requests k).path.start (edge_at r.graph e).from
    + (paid r.graph (at_costs (costs_in r.moves done)) e + least_from_to least (edge_at r.graph e).to (request_at r.requests k).end) →
    AreDearerOver r done k e
dearer_over r done least k e mine is are same less = λ other path has.
    let over = costs_over r.graph (at_costs (costs_in r.moves done)) (request_ends (request_at r.requests k)) e
    (least_from_to least (request_at r.requests k).path.start (edge_at r.graph e).from) (least_from_to least (edge_at r.graph e).to
    (request_at r.requests k).end)
    other is.graph path has
    (λ way is_way. let low = are (edge_at r.graph e).from (request_at r.requests k).path.start way is_way in let up = least_paid r done way in
    omega (arith, low, up))
    (λ way is_way. let low = are (request_at r.requests k).end (edge_at r.graph e).to way is_way in let up = least_paid r done way in omega (arith, low, up)) in
    omega (arith, over, less, same)

-- a path that a step takes nothing from stays the only cheapest after it
pub harmless_only : (r : Rollout) (f g : ℕ → Bool) (step k : ℕ) → IsRollout r → HasMore r f g step →
    All (IsHarmless r g k) (edges_of_step r step) → IsOnlyIn r f k → IsOnlyIn r g k
unfolding edges_of_step
harmless_only r f g step k is more harmless only =
    only_unless r.graph (at_costs (costs_in r.moves f)) (at_costs (costs_in r.moves g)) (request_ends (request_at r.requests k))
    (request_at r.requests k).path.edges only
    (λ e has. price_le (costs_in r.moves g) (costs_in r.moves f) (edge_at r.graph e).price
    (λ v price. costs_le r.moves g f v (elim (cases_Bool (has_price (variables_of_step r.moves step) (edge_at r.graph e).price)) [
      | inl in' ↦ between_costs r.moves g f v
          (λ g_is f_not. ap (price_rises r.moves) (sym price) ∙ (at e (known e has) in').on has)
          (λ g_not f_is. absurd (both_ways (is_changed r.moves g v) g_not (changed e v price in')))
      | inr out ↦
          let same = unchanged e v price out in
          between_costs r.moves g f v (λ g_is f_not. absurd (both_ways (is_changed r.moves f v) f_not (same ∙ g_is)))
          (λ g_not f_is. absurd (both_ways (is_changed r.moves f v) (same ∙ g_not) f_is))
    ])))
    (λ e within away. elim (cases_Bool (has_price (variables_of_step r.moves step) (edge_at r.graph e).price)) [
      | inl in' ↦ elim ((at e within in').off away) [
        | inl rise ↦ inl (price_le (costs_in r.moves f) (costs_in r.moves g) (edge_at r.graph e).price
            (λ v price. costs_le r.moves f g v (between_costs r.moves f g v
            (λ f_is g_not. absurd (both_ways (is_changed r.moves g v) g_not (changed e v price in')))
            (λ f_not g_is. ap (price_rises r.moves) (sym price) ∙ rise))))
        | inr dearer ↦ inr dearer
      ]
      | inr out ↦ inl (price_le (costs_in r.moves f) (costs_in r.moves g) (edge_at r.graph e).price
          (λ v price. costs_le r.moves f g v (
          let same = unchanged e v price out in
          between_costs r.moves f g v (λ f_is g_not. absurd (both_ways (is_changed r.moves f v) (same ∙ g_not) f_is))
          (λ f_not g_is. absurd (both_ways (is_changed r.moves f v) f_not (same ∙ g_is))))))
    ])
  where
    known : (e : ℕ) → Has (request_at r.requests k).path.edges e → e < length r.graph.edges
    known e has = all_has (λ i. i < length r.graph.edges) (request_at r.requests k).path.edges e
        (joined_known r.graph (request_ends (request_at r.requests k)).start (request_at r.requests k).path.edges (request_ends (request_at r.requests k)).end
        only.path.simple.joins) has

    at : (e : ℕ) → e < length r.graph.edges → has_price (variables_of_step r.moves step) (edge_at r.graph e).price ≡ true → IsHarmless r g k e
    at e within in' = kept_all (IsHarmless r g k) (λ x. has_price (variables_of_step r.moves step) (edge_at r.graph x).price) 0 (length r.graph.edges) harmless
        e
        (omega arith) (omega (arith, within)) in'

    changed : (e v : ℕ) → (edge_at r.graph e).price ≡ Var v → has_price (variables_of_step r.moves step) (edge_at r.graph e).price ≡ true →
        is_changed r.moves g v ≡ true
    changed e v price in' = changed_if r.moves g v step more.known more.done
        (one_of_has (variables_of_step r.moves step) v (ap (has_price (variables_of_step r.moves step)) (sym price) ∙ in'))

    unchanged : (e v : ℕ) → (edge_at r.graph e).price ≡ Var v → has_price (variables_of_step r.moves step) (edge_at r.graph e).price ≡ false →
        is_changed r.moves f v ≡ is_changed r.moves g v
    unchanged e v price out = same_change r f g step v more (λ has. both_ways (is_one_of (variables_of_step r.moves step) v)
        (ap (has_price (variables_of_step r.moves step)) (sym price) ∙ out) (has_one_of (variables_of_step r.moves step) v has))
