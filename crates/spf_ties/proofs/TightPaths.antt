-- A simple path has least cost exactly where each of its edges is tight.
use Rattle.std.proofs.Common.{◌≡◌, ◌↔◌, ℕ, ◌+◌, ◌<◌, sym, ◌∙◌, ap, List, length, get_or, map, inl, inr, arith, Some, None, Bool, true, false, cond, ◌∷◌, []}
use Rattle.std.proofs.Math.Dec.{ltb}
use Rattle.std.proofs.lemmas.Bool.{cases_lt, lt-ltb, eqb-true, eq-eqb}
use Rattle.std.proofs.lemmas.List.{get_or-map}
use Rattle.std.proofs.lemmas.List.Sums.{sum_by-cons}
use Rattle.area_graph.specs.declared.Point.{Point}
use Rattle.area_graph.specs.Area.{Area, edge_at, no_edge, FitsGraph, FitsEdge, HasMetrics}
use Rattle.area_graph.specs.Paths.{IsPathOf, Joins, Avoids}
use Rattle.area_graph.specs.Costs.{cost, price_at, FitsPoint}
use Rattle.area_graph.specs.Distances.{AreReached, SettledBelow}
use Rattle.area_graph.proofs.Walks.{potential-le}
use Rattle.area_graph.proofs.Bounds.{cost_below as bounded_cost}
use Rattle.spf_ties.specs.Distances.{Findings, cost_below, adds_up, is_tight, AreTight, distance_at}
use Rattle.spf_ties.proofs.LeastCosts.{IsNear}

-- a number below the bound is known
known : (bound a : ℕ) → a < bound → cost_below bound a ≡ Some a
known bound a near = ap (λ (b : Bool). cond b (Some a) None) (lt-ltb a bound near)

-- what is known is the number
same_number : (bound a c : ℕ) → cost_below bound a ≡ Some c → a ≡ c
same_number bound a c = by_test (ltb a bound)
  where
    by_test : (b : Bool) → cond b (Some a) None ≡ Some c → a ≡ c
    by_test true same = cc
    by_test false same = absurd (clash same)
      where
        clash : None ≡ Some c → ⊥
        clash h = cc

-- numbers that add up as distances add up
sum_of : (bound a b price : ℕ) → adds_up (cost_below bound a) price (cost_below bound b) ≡ true → a ≡ price + b
sum_of bound a b price = by_tests (ltb a bound) (ltb b bound)
  where
    clash : false ≡ true → ⊥
    clash h = cc

    by_tests : (x y : Bool) → adds_up (cond x (Some a) None) price (cond y (Some b) None) ≡ true → a ≡ price + b
    by_tests true true h = eqb-true a (price + b) h
    by_tests true false h = absurd (clash h)
    by_tests false true h = absurd (clash h)
    by_tests false false h = absurd (clash h)

of_sum : (bound a b price : ℕ) → a < bound → b < bound → a ≡ price + b → adds_up (cost_below bound a) price (cost_below bound b) ≡ true
of_sum bound a b price near_a near_b sums =
    ap (λ x. adds_up x price (cost_below bound b)) (known bound a near_a)
    ∙ ap (λ y. adds_up (Some a) price y) (known bound b near_b) ∙ eq-eqb a (price + b) sums

-- a room with such numbers
abbrev room_of : List Bool → List ℕ → ℕ → List ℕ → Findings
room_of marks path bound d = record { costs = map (cost_below bound) d; marks = marks; path = path }

-- an edge is tight by the numbers of its ends
tight_numbers : (g : Area) (p : Point) (bound e : ℕ) (m : List Bool) (w d : List ℕ) → FitsGraph g →
    length d ≡ length g.vertices → e < length g.edges →
    is_tight g p (room_of m w bound d) e ≡ adds_up (cost_below bound (get_or d (edge_at g e).from 0))
    (price_at p (edge_at g e).price) (cost_below bound (get_or d (edge_at g e).to 0))
tight_numbers g p bound e m w d graph count inside =
    let edge : FitsEdge g (edge_at g e) = graph.edges e no_edge inside in
    ap (λ x. adds_up x (price_at p (edge_at g e).price) (distance_at (room_of m w bound d) (edge_at g e).to))
    (get_or-map (cost_below bound) d (edge_at g e).from 0 None (omega (arith, edge.from, count))) ∙
    ap (λ y. adds_up (cost_below bound (get_or d (edge_at g e).from 0)) (price_at p (edge_at g e).price) y)
    (get_or-map (cost_below bound) d (edge_at g e).to 0 None (omega (arith, edge.to, count)))

-- each edge of a path that costs its start's number is tight
tight_if_least : (g : Area) (p : Point) (excluded : List ℕ) (bound t : ℕ) (m : List Bool) (w d : List ℕ) → FitsGraph g →
    length d ≡ length g.vertices → SettledBelow (length g.edges) g p excluded d → get_or d t 0 ≡ 0 → (s : ℕ) (es : List ℕ) →
    Joins g s es t → Avoids excluded es → cost g p es < bound → get_or d s 0 ≡ cost g p es →
    AreTight g p (room_of m w bound d) es
tight_if_least g p excluded bound t m w d graph count settled target s [] joins kept near least = tt
tight_if_least g p excluded bound t m w d graph count settled target s (e ∷ es) joins kept near least =
    let rest = potential-le g p excluded (λ u. get_or d u 0) (λ i inside lacks. settled i inside lacks) (edge_at g e).to es t joins.2 kept.1 in
    let step = settled e joins.0 kept.0 in
    let start = ap (λ (u : ℕ). get_or d u 0) joins.1 in
    let longer = sum_by-cons (λ i. price_at p (edge_at g i).price) e es in (
      tight_numbers g p bound e m w d graph count joins.0
          ∙ of_sum bound (get_or d (edge_at g e).from 0) (get_or d (edge_at g e).to 0) (price_at p (edge_at g e).price)
          (omega arith) (omega arith) (omega arith),
      tight_if_least g p excluded bound t m w d graph count settled target (edge_at g e).to es joins.2 kept.1 (omega (arith, longer, near)) (omega arith),
    )

-- a path with tight edges costs its start's number
least_if_tight : (g : Area) (p : Point) (bound t : ℕ) (m : List Bool) (w d : List ℕ) → FitsGraph g →
    length d ≡ length g.vertices → get_or d t 0 ≡ 0 → (s : ℕ) (es : List ℕ) → Joins g s es t →
    AreTight g p (room_of m w bound d) es → get_or d s 0 ≡ cost g p es
least_if_tight g p bound t m w d graph count target s [] joins tight = ap (λ (u : ℕ). get_or d u 0) joins ∙ target
least_if_tight g p bound t m w d graph count target s (e ∷ es) joins tight =
    let rest = least_if_tight g p bound t m w d graph count target (edge_at g e).to es joins.2 tight.1 in
    let step = sum_of bound (get_or d (edge_at g e).from 0) (get_or d (edge_at g e).to 0)
    (price_at p (edge_at g e).price) (sym (tight_numbers g p bound e m w d graph count joins.0) ∙ tight.0) in
    let start = ap (λ (u : ℕ). get_or d u 0) joins.1 in
    let longer = sum_by-cons (λ i. price_at p (edge_at g i).price) e es in
    omega arith

-- a simple path that costs less than the limit has least cost exactly where each of its edges is tight
pub tight_paths : (g : Area) (p : Point) (excluded : List ℕ) (t limit near : ℕ) (m : List Bool) (w d : List ℕ) →
    FitsGraph g → HasMetrics g → FitsPoint g p → IsNear p limit near → length d ≡ length g.vertices →
    AreReached g p excluded t near d → SettledBelow (length g.edges) g p excluded d → (s : ℕ) (es : List ℕ) →
    IsPathOf g (record { start = s; end = t; excluded = excluded }) es → cost g p es < limit →
    (distance_at (room_of m w near d) s ≡ Some (cost g p es)) ↔ AreTight g p (room_of m w near d) es
tight_paths g p excluded t limit near m w d graph metrics fits is_near count reached settled s es path less = (
  λ least. tight_if_least g p excluded near t m w d graph count settled reached.target s es path.simple.joins path.kept
      below (same_number near (get_or d s 0) (cost g p es) (sym value ∙ least)),
  λ tight. let same = least_if_tight g p near t m w d graph count reached.target s es path.simple.joins tight in
      value ∙ ap (cost_below near) same ∙ known near (cost g p es) below,
)
  where
    below : cost g p es < near
    below = elim (cases_lt near limit) [
      | inl short ↦
          let most = bounded_cost g p s es t graph metrics fits path.simple.joins path.simple.none_twice in
          let whole = is_near.whole short in
          omega (arith, most, whole)
      | inr whole ↦ omega (arith, less, whole)
    ]

    value : distance_at (room_of m w near d) s ≡ cost_below near (get_or d s 0)
    value = get_or-map (cost_below near) d s 0 None (let start = path.simple.start in omega (arith, start, count))
