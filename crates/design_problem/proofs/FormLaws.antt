-- A row's form is the rival's cost less the wanted path's, less the scale.
use Rattle.std.proofs.Common.{◌≡◌, ◌≢◌, ℕ, zero, suc, ◌+◌, ◌*◌, ◌<◌, ◌≤◌, refl, sym, ◌∙◌, ap, subst, get_or, List, [], ◌∷◌, map, length, arith, Bool}
use Rattle.std.specs.Prelude.{pos, ◌+ℤ◌, ◌-ℤ◌, ◌*ℤ◌, ◌↔◌, slice_index, cond, ◌==◌, All}
use Rattle.std.proofs.lemmas.Int.{ints}
use Rattle.std.proofs.lemmas.List.Sums.{sum_by-cons}
use Rattle.std.proofs.lemmas.Bool.Decides.{nat_tests}
use Rattle.std.proofs.lemmas.Bool.{cases_lt}
use Rattle.std.proofs.lemmas.List.{get_or_past}
use Rattle.std.proofs.Common.{inl, inr}
use Rattle.whole_numbers.proofs.Ring.{var, num, ◌⊕◌, ◌⊖◌, ◌⊗◌, ring}
use Rattle.cost_base.specs.Lists.{numbers_from}
use Rattle.area_graph.specs.declared.Price.{Price}
use Rattle.area_graph.specs.declared.Price.TheVariants.{Fixed, Var, Zero}
use Rattle.area_graph.specs.declared.Edge.{Edge}
use Rattle.area_graph.specs.declared.Point.{Point}
use Rattle.area_graph.specs.Area.{Area, no_edge, edge_at}
use Rattle.area_graph.specs.Costs.{price_at, cost, at_costs, IsPriced}
use Rattle.design_problem.specs.Forms.{dot, value_at}
use Rattle.design_problem.specs.Rows.{is_var, fixed_price, uses, fixed_cost, form_between, IsFit}
use Rattle.design_problem.specs.Laws.{IsMet, MeetsBoundsAndRows}
use Rattle.design_problem.specs.Problems.{DesignProblem, IsProblem}
use Rattle.design_problem.proofs.AtCosts.{value_at_costs}

-- the sum of f over the places from k on, each times the number there
abbrev pub weigh : (ℕ → ℕ) → ℕ → List ℕ → ℕ
weigh f k [] = 0
weigh f k (x ∷ xs) = f k * x + weigh f (k + 1) xs

-- a sum of products with 0
pub weigh-zero : (f : ℕ → ℕ) (k : ℕ) (xs : List ℕ) → ((j : ℕ) → k ≤ j → f j ≡ 0) → weigh f k xs ≡ 0
weigh-zero f k [] none = refl
weigh-zero f k (x ∷ xs) none =
    let rest = weigh-zero f (k + 1) xs (λ j j_from. none j (omega arith)) in
    rw (none k (omega arith)) (omega arith)

-- a sum of two functions weighs as both
pub weigh-sum : (f g h : ℕ → ℕ) (k : ℕ) (xs : List ℕ) → ((j : ℕ) → f j ≡ g j + h j) → weigh f k xs ≡ weigh g k xs + weigh h k xs
weigh-sum f g h k [] split = refl
weigh-sum f g h k (x ∷ xs) split =
    let rest = weigh-sum f g h (k + 1) xs split in
    rw (split k) (omega arith)

abbrev pub one_if : Bool → ℕ
one_if b = cond b 1 0

pub one_if-same : (u v : ℕ) → u ≡ v → one_if (u == v) ≡ 1
one_if-same u v e = grind (arith, nat_tests)

pub one_if-other : (u v : ℕ) → u ≢ v → one_if (u == v) ≡ 0
one_if-other u v e = grind (arith, nat_tests)

-- one place alone counts its number
pub weigh-one : (u k i : ℕ) (xs : List ℕ) → u ≡ k + i → i < length xs → weigh (λ v. one_if (u == v)) k xs ≡ slice_index xs i
weigh-one u k i [] e i_in = absurd (omega arith)
weigh-one u k zero (x ∷ xs) e i_in =
    let rest = weigh-zero (λ v. one_if (u == v)) (k + 1) xs (λ j j_from. one_if-other u j (omega arith)) in
    rw (one_if-same u k (omega arith)) (omega arith)
weigh-one u k (suc i) (x ∷ xs) e i_in =
    let rest = weigh-one u (k + 1) i xs (omega arith) (omega arith) in
    rw (one_if-other u k (omega arith)) (omega arith)

price-split : (p : Point) (price : Price) → IsPriced (length p.values) price →
    price_at p price ≡ fixed_price price * p.scale + weigh (λ v. one_if (is_var v price)) 0 p.values
price-split p (Fixed c) priced =
    let none = weigh-zero (λ v. 0) 0 p.values (λ j j_from. refl) in
    omega arith
price-split p (Var u) priced =
    let one = weigh-one u 0 u p.values (omega arith) priced in
    omega arith
price-split p Zero priced =
    let none = weigh-zero (λ v. 0) 0 p.values (λ j j_from. refl) in
    omega arith

-- every edge's price has a place, also past the end
pub priced_at : (g : Area) (n e : ℕ) → All (λ edge. IsPriced n edge.price) g.edges → IsPriced n (edge_at g e).price
priced_at g n e priced =
    elim (cases_lt e (length g.edges)) [
      | inl e_in ↦ priced e no_edge e_in
      | inr past ↦ subst (λ (edge : Edge). IsPriced n edge.price) (sym (get_or_past g.edges e no_edge past)) tt
    ]

split_sum : (c d f h a b r s : ℕ) → c ≡ f * s + a → d ≡ h * s + b → r ≡ a + b → c + d ≡ (f + h) * s + r
split_sum c d f h a b r s first rest joined = rw (first, rest, joined) (omega arith)

pub cost-split : (g : Area) (p : Point) (es : List ℕ) → All (λ edge. IsPriced (length p.values) edge.price) g.edges →
    cost g p es ≡ fixed_cost g es * p.scale + weigh (uses g es) 0 p.values
cost-split g p [] priced =
    let none = weigh-zero (λ v. 0) 0 p.values (λ j j_from. refl) in
    omega arith
cost-split g p (e ∷ es) priced =
    rw (sum_by-cons (λ x. price_at p (edge_at g x).price) e es, sum_by-cons (λ x. fixed_price (edge_at g x).price) e es)
    (split_sum (price_at p (edge_at g e).price) (cost g p es) (fixed_price (edge_at g e).price) (fixed_cost g es)
    (weigh (λ v. one_if (is_var v (edge_at g e).price)) 0 p.values) (weigh (uses g es) 0 p.values) (weigh (uses g (e ∷ es)) 0 p.values) p.scale
    (price-split p (edge_at g e).price (priced_at g (length p.values) e priced))
    (cost-split g p es priced)
    (weigh-sum (uses g (e ∷ es)) (λ v. one_if (is_var v (edge_at g e).price)) (uses g es) 0 p.values
    (λ v. sum_by-cons (λ x. cond (is_var v (edge_at g x).price) 1 0) e es)))

-- the coefficients of a difference
pub dot-differences : (a b : ℕ → ℕ) (k n : ℕ) (xs : List ℕ) → length xs ≡ n →
    dot (map (λ v. pos (a v) -ℤ pos (b v)) (numbers_from k n)) xs ≡ (pos (weigh a k xs) -ℤ pos (weigh b k xs))
dot-differences a b k zero [] same = refl
dot-differences a b k zero (x ∷ xs) same = absurd (omega arith)
dot-differences a b k (suc n) [] same = absurd (omega arith)
dot-differences a b k (suc n) (x ∷ xs) same =
    ap (λ z. ((pos (a k) -ℤ pos (b k)) *ℤ pos x) +ℤ z) (dot-differences a b (k + 1) n xs (omega arith))
    ∙ ring (pos (a k) ∷ pos (b k) ∷ pos x ∷ pos (weigh a (k + 1) xs) ∷ pos (weigh b (k + 1) xs) ∷ [])
    ((var 0 ⊖ var 1) ⊗ var 2 ⊕ (var 3 ⊖ var 4)) ((var 0 ⊗ var 2 ⊕ var 3) ⊖ (var 1 ⊗ var 2 ⊕ var 4)) refl

-- the value of a row's form at a point
pub value-form_between : (g : Area) (p : Point) (wanted rival : List ℕ) →
    All (λ edge. IsPriced (length p.values) edge.price) g.edges →
    value_at (form_between g (length p.values) wanted rival) p
    ≡ ((pos (cost g p rival) -ℤ pos (cost g p wanted)) -ℤ pos p.scale)
value-form_between g p wanted rival priced =
    rw (cost-split g p rival priced, cost-split g p wanted priced)
    (ap (λ z. (((pos (fixed_cost g rival) -ℤ pos (fixed_cost g wanted)) -ℤ pos 1) *ℤ pos p.scale) +ℤ z)
    (dot-differences (uses g rival) (uses g wanted) 0 (length p.values) p.values refl)
    ∙ ring (pos (fixed_cost g rival) ∷ pos (fixed_cost g wanted) ∷ pos p.scale ∷ pos (weigh (uses g rival) 0 p.values)
    ∷ pos (weigh (uses g wanted) 0 p.values) ∷ [])
    (((var 0 ⊖ var 1) ⊖ num (pos 1)) ⊗ var 2 ⊕ (var 3 ⊖ var 4))
    (((var 0 ⊗ var 2 ⊕ var 3) ⊖ (var 1 ⊗ var 2 ⊕ var 4)) ⊖ var 2) refl)

abbrev Priced : Area → ℕ → Type 0
Priced g n = All (λ edge. IsPriced n edge.price) g.edges

-- a form's value at costs is at least 0 exactly where the rival costs more
met-iff : (g : Area) (w wanted rival : List ℕ) → Priced g (length w) → IsMet g w wanted rival ↔ (cost g (at_costs w) wanted < cost g (at_costs w) rival)
met-iff g w wanted rival priced =
    let e = sym (value_at_costs (form_between g (length w) wanted rival) w) ∙ value-form_between g (at_costs w) wanted rival priced in (
      λ met. let moved = rw e at met in omega (arith, ints),
      λ more. rw e (omega (arith, ints)),
    )

-- costs are fit exactly where the forms of all rows are at least 0
pub fit-iff : (p : DesignProblem) (w : List ℕ) → IsProblem p → IsFit p w ↔ MeetsBoundsAndRows p w
fit-iff p w kept = (
  λ fit. record {
    within = fit.within;
    rows = λ k d k_in rival path other.
        (met-iff p.graph w (get_or p.requests k d).path.edges rival
        (λ i e i_in. subst (λ (n : ℕ). IsPriced n (get_or p.graph.edges i e).price) fit.within.low_count
        (kept.priced i e i_in))).1 ((fit.only k d k_in).others rival path other);
  },
  λ meets. record {
    within = meets.within;
    only = λ k d k_in. record {
      path = kept.requests k d k_in;
      others = λ rival path other. (met-iff p.graph w (get_or p.requests k d).path.edges rival
          (λ i e i_in. subst (λ (n : ℕ). IsPriced n (get_or p.graph.edges i e).price) meets.within.low_count
          (kept.priced i e i_in))).0 (meets.rows k d k_in rival path other);
    };
  },
)
