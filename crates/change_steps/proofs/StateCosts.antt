-- The costs in a state, by the steps that are done.
use Rattle.std.proofs.Common.{◌≡◌, ℕ, ◌<◌, ◌≤◌, refl, sym, ◌∙◌, ap, subst, List, [], ◌∷◌, length, get_or, inl, inr, arith, All, Bool, true, false, cond, ◌&&◌, ◌==◌, eq-eqb, eqb-true, zero-add}
use Rattle.std.specs.List.{list_any}
use Rattle.std.proofs.lemmas.Bool.{and_from, and_parts, cases_Bool, cond-true, cond-false, cases_lt, or_cases, or_left, or_right, false≢true}
use Rattle.std.proofs.lemmas.List.{get_or_default, get_or_past}
use Rattle.std.proofs.lemmas.List.Folds.{Any-from_list_any, list_any_at}
use Rattle.cost_base.specs.Lists.{Has, numbers_from}
use Rattle.cost_base.proofs.ListLemmas.{get_or-map-numbers_from, get_or-numbers_from, length-map-numbers_from, length-numbers_from, map-numbers_from-agree, same_test}
use Rattle.cost_base.specs.Marks.{is_one_of}
use Rattle.cost_base.proofs.MarkLaws.{has_one_of, one_of_has}
use Rattle.area_graph.specs.declared.Price.{Price}
use Rattle.area_graph.specs.declared.Price.TheVariants.{Fixed, Var, Zero}
use Rattle.area_graph.specs.Area.{Area, edge_at}
use Rattle.area_graph.specs.Costs.{FitsPoint, IsOnlyCheapest, IsPriced, at_costs, price_at}
use Rattle.design_problem.specs.Problems.{request_at, request_ends}
use Rattle.design_problem.specs.Rows.{is_var}
use Rattle.change_steps.specs.Rollouts.{AreMoves, CostMoves, IsInterfaceCost, IsRollout, Rollout, variables_of_step}
use Rattle.change_steps.specs.Orders.{IsOnlyIn, IsSafe, cost_in, costs_in, is_changed}
use Rattle.change_steps.specs.Kinds.{goes_over}
use Rattle.change_steps.proofs.Keeping.{only_kept}

-- Tests and what they tell.

-- a test that some number below n passes
pub passed_below : (p : ℕ → Bool) (n : ℕ) → list_any p (numbers_from 0 n) ≡ true → (k : ℕ) × (k < n) × (p k ≡ true)
passed_below p n passes =
    let any = Any-from_list_any p (numbers_from 0 n) passes in
    let within : any.0 < n = let count = length-numbers_from 0 n in let near = any.2 in omega (arith, count, near) in
    let same : any.0 ≡ any.1 = sym (zero-add any.0) ∙ sym (get_or-numbers_from 0 n any.0 any.1 within) ∙ any.3 in
    (any.0, within, subst (λ k. p k ≡ true) (sym same) any.4)

pub passes_below : (p : ℕ → Bool) (n k : ℕ) → k < n → p k ≡ true → list_any p (numbers_from 0 n) ≡ true
passes_below p n k within passes =
    list_any_at p (numbers_from 0 n) k 0 (let count = length-numbers_from 0 n in omega (arith, count, within))
    (ap p (get_or-numbers_from 0 n k 0 within ∙ zero-add k) ∙ passes)

-- a variable is changed exactly where a step that is done has it
pub changed_by : (m : CostMoves) (done : ℕ → Bool) (v : ℕ) → is_changed m done v ≡ true →
    (k : ℕ) × (k < length m.steps) × (done k ≡ true) × Has (variables_of_step m k) v
unfolding is_changed
changed_by m done v changed =
    let by = passed_below (λ k. done k && is_one_of (variables_of_step m k) v) (length m.steps) changed in
    let parts = and_parts (done by.0) (is_one_of (variables_of_step m by.0) v) by.2 in
    (by.0, by.1, parts.0, one_of_has (variables_of_step m by.0) v parts.1)

pub changed_if : (m : CostMoves) (done : ℕ → Bool) (v k : ℕ) → k < length m.steps → done k ≡ true → Has (variables_of_step m k) v →
    is_changed m done v ≡ true
unfolding is_changed
changed_if m done v k within is has =
    passes_below (λ i. done i && is_one_of (variables_of_step m i) v) (length m.steps) k within
    (and_from (done k) (is_one_of (variables_of_step m k) v) is (has_one_of (variables_of_step m k) v has))

-- a state that has each step of another one changes what that changes
pub changes_more : (m : CostMoves) (f g : ℕ → Bool) (v : ℕ) →
    ((k : ℕ) → k < length m.steps → f k ≡ true → Has (variables_of_step m k) v → g k ≡ true) → is_changed m f v ≡ true → is_changed m g v ≡ true
changes_more m f g v more changed =
    let by = changed_by m f v changed in
    changed_if m g v by.0 by.1 (more by.0 by.1 by.2 by.3) by.3

-- Costs.

pub length-costs_in : (m : CostMoves) (done : ℕ → Bool) → length (costs_in m done) ≡ length m.present
unfolding costs_in
length-costs_in m done = length-map-numbers_from (cost_in m done) 0 (length m.present)

pub cost_at : (m : CostMoves) (done : ℕ → Bool) (v : ℕ) → v < length m.present → get_or (costs_in m done) v 0 ≡ cost_in m done v
unfolding costs_in
cost_at m done v within = get_or-map-numbers_from (cost_in m done) 0 (length m.present) v 0 within ∙ ap (cost_in m done) (zero-add v)

pub cost_changed : (m : CostMoves) (done : ℕ → Bool) (v : ℕ) → is_changed m done v ≡ true → cost_in m done v ≡ get_or m.wanted v 0
unfolding cost_in
cost_changed m done v changed = cond-true (is_changed m done v) (get_or m.wanted v 0) (get_or m.present v 0) changed

pub cost_left : (m : CostMoves) (done : ℕ → Bool) (v : ℕ) → is_changed m done v ≡ false → cost_in m done v ≡ get_or m.present v 0
unfolding cost_in
cost_left m done v left = cond-false (is_changed m done v) (get_or m.wanted v 0) (get_or m.present v 0) left

-- states that change the same give the same costs
pub costs_alike : (m : CostMoves) (f g : ℕ → Bool) → ((v : ℕ) → is_changed m f v ≡ is_changed m g v) → costs_in m f ≡ costs_in m g
unfolding costs_in cost_in
costs_alike m f g same = map-numbers_from-agree (cost_in m f) (cost_in m g) 0 (length m.present)
    (λ v above below. ap (λ (b : Bool). cond b (get_or m.wanted v 0) (get_or m.present v 0)) (same v))

-- states that agree on the steps
pub costs_agree : (m : CostMoves) (f g : ℕ → Bool) → ((k : ℕ) → k < length m.steps → f k ≡ g k) → costs_in m f ≡ costs_in m g
costs_agree m f g agree = costs_alike m f g (λ v. same_test (is_changed m f v) (is_changed m g v)
    (changes_more m f g v (λ k within is has. sym (agree k within) ∙ is))
    (changes_more m g f v (λ k within is has. agree k within ∙ is)))

pub only_agree : (r : Rollout) (f g : ℕ → Bool) (k : ℕ) → ((i : ℕ) → i < length r.moves.steps → f i ≡ g i) → IsOnlyIn r f k → IsOnlyIn r g k
only_agree r f g k agree only = subst (λ (ws : List ℕ).
    IsOnlyCheapest r.graph (at_costs ws) (request_ends (request_at r.requests k)) (request_at r.requests k).path.edges)
    (costs_agree r.moves f g agree) only

pub safe_agree : (r : Rollout) (held : List ℕ) (f g : ℕ → Bool) → ((i : ℕ) → i < length r.moves.steps → f i ≡ g i) →
    IsSafe r held f → IsSafe r held g
safe_agree r held f g agree safe = λ i d within. only_agree r f g (get_or held i d) agree (safe i d within)

-- an interface cost in each state
pub cost_bounds : (m : CostMoves) (done : ℕ → Bool) (v : ℕ) → AreMoves m → v < length m.present → IsInterfaceCost (cost_in m done v)
cost_bounds m done v are within = elim (cases_Bool (is_changed m done v)) [
  | inl changed ↦ subst IsInterfaceCost (sym (cost_changed m done v changed)) (are.wanted v 0 (let count = are.count in omega (arith, count, within)))
  | inr left ↦ subst IsInterfaceCost (sym (cost_left m done v left)) (are.present v 0 within)
]

-- the costs of a state are a point for the graph
pub state_fits : (r : Rollout) (done : ℕ → Bool) → IsRollout r → FitsPoint r.graph (at_costs (costs_in r.moves done))
state_fits r done is = record {
  scale = omega arith;
  scale_below = omega arith;
  priced = subst (λ (n : ℕ). All (λ edge. IsPriced n edge.price) r.graph.edges) (sym (length-costs_in r.moves done)) is.priced;
  least = λ v d within. (bounds v d within).0;
  most = λ v d within. let most = (bounds v d within).1 in omega (arith, most);
}
  where
    bounds : (v d : ℕ) → v < length (costs_in r.moves done) → IsInterfaceCost (get_or (costs_in r.moves done) v d)
    bounds v d within =
        let near : v < length r.moves.present = let count = length-costs_in r.moves done in omega (arith, count, within) in
        subst IsInterfaceCost (sym (get_or_default (costs_in r.moves done) v d 0 within ∙ cost_at r.moves done v near))
        (cost_bounds r.moves done v is.moves near)

-- Prices.

-- a price compares as the cost of its variable does
pub price_le : (ws vs : List ℕ) (price : Price) → ((v : ℕ) → price ≡ Var v → get_or ws v 0 ≤ get_or vs v 0) →
    price_at (at_costs ws) price ≤ price_at (at_costs vs) price
price_le ws vs (Fixed c) each = omega arith
price_le ws vs (Var v) each = each v refl
price_le ws vs Zero each = omega arith

is_var_of : (v : ℕ) (price : Price) → price ≡ Var v → is_var v price ≡ true
is_var_of v price is = ap (is_var v) is ∙ eq-eqb v v refl

var_is : (v : ℕ) (price : Price) → is_var v price ≡ true → price ≡ Var v
var_is v (Fixed c) is = absurd (false≢true is)
var_is v (Var u) is = ap Var (eqb-true u v is)
var_is v Zero is = absurd (false≢true is)

-- a path goes over a variable exactly where an edge of it has that price
pub goes_if : (g : Area) (es : List ℕ) (e v : ℕ) → Has es e → (edge_at g e).price ≡ Var v → goes_over g es v ≡ true
unfolding goes_over
goes_if g [] e v has price = absurd has
goes_if g (x ∷ xs) e v has price = elim has [
  | inl same ↦ or_left (is_var v (edge_at g x).price) (goes_over g xs v)
      (is_var_of v (edge_at g x).price (ap (λ (i : ℕ). (edge_at g i).price) (sym same) ∙ price))
  | inr later ↦ or_right (is_var v (edge_at g x).price) (goes_over g xs v) (goes_if g xs e v later price)
]

pub goes_by : (g : Area) (es : List ℕ) (v : ℕ) → goes_over g es v ≡ true → (e : ℕ) × Has es e × ((edge_at g e).price ≡ Var v)
unfolding goes_over
goes_by g [] v goes = absurd (false≢true goes)
goes_by g (x ∷ xs) v goes = elim (or_cases (is_var v (edge_at g x).price) (goes_over g xs v) goes) [
  | inl here ↦ (x, inl refl, var_is v (edge_at g x).price here)
  | inr later ↦ let by = goes_by g xs v later in (by.0, inr by.1, by.2)
]

-- the costs of two states compare as those of each variable
pub costs_le : (m : CostMoves) (f g : ℕ → Bool) (v : ℕ) → cost_in m f v ≤ cost_in m g v → get_or (costs_in m f) v 0 ≤ get_or (costs_in m g) v 0
costs_le m f g v less = elim (cases_lt v (length m.present)) [
  | inl within ↦ let mine = cost_at m f v within in let theirs = cost_at m g v within in omega (arith, mine, theirs, less)
  | inr past ↦
      let mine = get_or_past (costs_in m f) v 0 (let count = length-costs_in m f in omega (arith, count, past)) in
      let theirs = get_or_past (costs_in m g) v 0 (let count = length-costs_in m g in omega (arith, count, past)) in
      omega (arith, mine, theirs)
]

-- in another state the path of a request stays the only cheapest where the costs of its variables don't rise, and those
-- of edges off it don't fall
pub only_by_costs : (r : Rollout) (f g : ℕ → Bool) (k : ℕ) → IsRollout r → IsOnlyIn r f k →
    ((v : ℕ) → goes_over r.graph (request_at r.requests k).path.edges v ≡ true → cost_in r.moves g v ≤ cost_in r.moves f v) →
    ((e v : ℕ) → e < length r.graph.edges → (Has (request_at r.requests k).path.edges e → ⊥) → (edge_at r.graph e).price ≡ Var v →
    cost_in r.moves f v ≤ cost_in r.moves g v) → IsOnlyIn r g k
only_by_costs r f g k is only on off =
    only_kept r.graph (at_costs (costs_in r.moves f)) (at_costs (costs_in r.moves g)) (request_ends (request_at r.requests k))
    (request_at r.requests k).path.edges only
    (λ e has. price_le (costs_in r.moves g) (costs_in r.moves f) (edge_at r.graph e).price
    (λ v price. costs_le r.moves g f v (on v (goes_if r.graph (request_at r.requests k).path.edges e v has price))))
    (λ e known away. price_le (costs_in r.moves f) (costs_in r.moves g) (edge_at r.graph e).price
    (λ v price. costs_le r.moves f g v (off e v known away price)))
