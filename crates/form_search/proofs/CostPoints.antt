-- Points of a box of costs, least points, and forms that fit a tableau.
use Rattle.std.proofs.Common.{◌≡◌, ℕ, zero, suc, ◌+◌, ◌*◌, ◌^◌, ◌<◌, ◌≤◌, refl, sym, ◌∙◌, ap, subst, inl, inr, List, [], ◌∷◌, length, map, arith}
use Rattle.std.specs.Prelude.{ℤ, pos, negsuc, ◌+ℤ◌, ◌*ℤ◌, ◌<ℤ◌, ◌≤ℤ◌, All, slice_index}
use Rattle.std.proofs.Math.Nat.{mul-le-mul_left}
use Rattle.std.proofs.lemmas.Int.{ints}
use Rattle.std.proofs.lemmas.Bool.{cases_lt}
use Rattle.std.proofs.lemmas.List.{length-map}
use lib.IntN.{+ℤ_idr}
use Rattle.area_graph.specs.declared.Point.{Point}
use Rattle.area_graph.specs.Costs.{at_costs}
use Rattle.design_problem.specs.Forms.{Form, AreMet}
use Rattle.design_problem.specs.declared.boxes.CostBox.{CostBox}
use Rattle.design_problem.specs.Forms.{added, dot, form_at, value_at, weighted}
use Rattle.design_problem.specs.Boxes.{IsBox, IsInBox, IsPointOf, Refutes, greatest, upper_term, upper_sum}
use Rattle.design_problem.specs.Trees.{CutsAt}
use Rattle.design_problem.specs.Earnest.{IsLeastPoint, LexLess, SplitsFraction}
use Rattle.design_problem.proofs.AtCosts.{value_at_costs}
use Rattle.cut_advisors.specs.declared.candidate.Candidate.{Candidate}
use Rattle.form_search.specs.Sources.{IsCostPoint, scaled}
use Rattle.form_search.specs.Points.{AreCostsOf, IsCostsBox, IsFractional}

low_first : (n : ℕ) (box : CostBox) → IsCostsBox n box → (k : ℕ) → k < n → 1 ≤ slice_index box.low k
low_first n box kept k k_in = kept.lows k 0 (omega (arith, kept.is_box.low_count))

high_last : (n : ℕ) (box : CostBox) → IsCostsBox n box → (k : ℕ) → k < n → slice_index box.high k ≤ 65535
high_last n box kept k k_in = kept.highs k 0 (omega (arith, kept.is_box.high_count))

scaled_least : (low x scale : ℕ) → 1 ≤ low → low * scale ≤ x → scale ≤ x
scaled_least (suc low) x scale some above = omega arith
scaled_least zero x scale some above = absurd (omega arith)

scaled_most : (high x scale : ℕ) → high ≤ 65535 → x ≤ high * scale → x ≤ 65535 * scale
scaled_most high x scale few below =
    let more : scale * high ≤ scale * 65535 = mul-le-mul_left scale few in
    omega arith

pub each_at : (P : ℕ → Type 0) (xs : List ℕ) → ((k : ℕ) → k < length xs → P (slice_index xs k)) → All P xs
each_at P [] each k d k_in = absurd (omega arith)
each_at P (x ∷ xs) each zero d k_in = each 0 (omega arith)
each_at P (x ∷ xs) each (suc k) d k_in = each_at P xs (λ i i_in. each (suc i) (omega arith)) k d (omega arith)

-- a point of a box of costs
pub cost_point : (n : ℕ) (box : CostBox) (point : Point) → IsCostsBox n box → IsPointOf box point → point.scale < 2 ^ 100 → IsCostPoint n point
cost_point n box point kept inside small =
    let count : length point.values ≡ n = sym inside.low_count ∙ kept.is_box.low_count in
    record {
      count = count;
      scale = inside.scale;
      scale_below = small;
      least = each_at (λ x. point.scale ≤ x) point.values
          (λ k k_in. scaled_least (slice_index box.low k) (slice_index point.values k) point.scale
          (low_first n box kept k (omega arith)) (inside.above k k_in));
      most = each_at (λ x. x ≤ 65535 * point.scale) point.values
          (λ k k_in. scaled_most (slice_index box.high k) (slice_index point.values k) point.scale
          (high_last n box kept k (omega arith)) (inside.below k k_in));
    }

-- each of its values is small
pub value_most : (n : ℕ) (box : CostBox) (point : Point) (k : ℕ) → IsCostsBox n box → IsPointOf box point → k < length point.values →
    slice_index point.values k ≤ 65535 * point.scale
value_most n box point k kept inside k_in =
    scaled_most (slice_index box.high k) (slice_index point.values k) point.scale
    (high_last n box kept k (omega (arith, k_in, inside.low_count, kept.is_box.low_count))) (inside.below k k_in)

-- the low corner of a box as costs
pub low_values : (n : ℕ) (box : CostBox) → IsCostsBox n box → All (λ x. (1 ≤ x) × (x ≤ 65535)) box.low
low_values n box kept = each_at (λ x. (1 ≤ x) × (x ≤ 65535)) box.low (λ k k_in.
    let known : k < n = omega (arith, kept.is_box.low_count) in
    (low_first n box kept k known, (let a = kept.is_box.ordered k known in let b = high_last n box kept k known in omega arith)))

-- a candidate cuts its variable's range
pub candidate_cuts : (n : ℕ) (box : CostBox) (point : Point) (candidate : Candidate) → IsBox n box →
    IsPointOf box point → IsFractional box point candidate → CutsAt box candidate.var candidate.floor
candidate_cuts n box point candidate kept inside fractional = record {
  var_known = omega (arith, fractional.known, inside.low_count);
  above =
      elim (cases_lt candidate.floor (slice_index box.low candidate.var)) [
        | inl less ↦
            let more : point.scale * (candidate.floor + 1) ≤ point.scale * slice_index box.low candidate.var =
            mul-le-mul_left point.scale (let e : candidate.floor + 1 ≤ slice_index box.low candidate.var =
            omega arith in e) in
            let at_least = inside.above candidate.var fractional.known in
            let below = fractional.below in
            absurd (omega arith)
        | inr not ↦ not
      ];
  below =
      elim (cases_lt candidate.floor (slice_index box.high candidate.var)) [
        | inl less ↦ less
        | inr not ↦
            let more : point.scale * slice_index box.high candidate.var ≤ point.scale * candidate.floor = mul-le-mul_left point.scale not in
            let at_most = inside.below candidate.var fractional.known in
            let above = fractional.above in
            absurd (omega arith)
      ];
}

-- and the least accepted point is fractional there
pub candidate_splits : (accepted : Point → Type 0) (box : CostBox) (point : Point) (candidate : Candidate) →
    IsLeastPoint accepted box point → IsFractional box point candidate →
    SplitsFraction accepted box candidate.var candidate.floor
candidate_splits accepted box point candidate least fractional = record { point = point; least = least; above = fractional.above; below = fractional.below }

-- costs of a box are at most 65,535
pub inside_most : (n : ℕ) (box : CostBox) (w : List ℕ) → IsCostsBox n box → IsInBox box w → All (λ x. x ≤ 65535) w
inside_most n box w kept inside = each_at (λ x. x ≤ 65535) w (λ k k_in.
    let below = inside.below k k_in in
    let most = high_last n box kept k (omega (arith, inside.low_count, kept.is_box.low_count)) in
    omega arith)

-- the value of a variable at multiples of costs
pub scaled_at : (w : List ℕ) (scale k : ℕ) → slice_index (map (λ x. x * scale) w) k ≡ slice_index w k * scale
scaled_at [] scale k = omega arith
scaled_at (x ∷ w) scale zero = refl
scaled_at (x ∷ w) scale (suc k) = scaled_at w scale k

-- whole costs whose point lies in a box lie in it
unscaled : (a b scale : ℕ) → 0 < scale → a * scale ≤ b * scale → a ≤ b
unscaled a b scale some less =
    elim (cases_lt b a) [
      | inl before ↦
          let more : scale * (b + 1) ≤ scale * a = mul-le-mul_left scale (let e : b + 1 ≤ a = omega arith in e) in
          absurd (omega (arith, some, less))
      | inr not ↦ omega (arith, not)
    ]

pub scaled_inside : (box : CostBox) (point : Point) (w : List ℕ) → IsPointOf box point → scaled w point.scale ≡ point → IsInBox box w
scaled_inside box point w inside same =
    let there : IsPointOf box (scaled w point.scale) = subst (IsPointOf box) (sym same) inside in
    let count : length (map (λ x. x * point.scale) w) ≡ length w = length-map w (λ x. x * point.scale) in
    record {
      low_count = there.low_count ∙ count;
      high_count = there.high_count ∙ count;
      above = λ k k_in. unscaled (slice_index box.low k) (slice_index w k) point.scale inside.scale
          (subst (λ (x : ℕ). slice_index box.low k * point.scale ≤ x) (scaled_at w point.scale k) (there.above k (omega (arith, k_in, count))));
      below = λ k k_in. unscaled (slice_index w k) (slice_index box.high k) point.scale inside.scale
          (subst (λ (x : ℕ). x ≤ slice_index box.high k * point.scale) (scaled_at w point.scale k) (there.below k (omega (arith, k_in, count))));
    }

-- a point of a box of costs whose values themselves are at most the upper bounds: they lie in the box
pub values_inside : (n : ℕ) (box : CostBox) (point : Point) → IsPointOf box point →
    ((k : ℕ) → k < length box.high → slice_index point.values k ≤ slice_index box.high k) → IsInBox box point.values
values_inside n box point inside within = record {
  low_count = inside.low_count;
  high_count = inside.high_count;
  above = λ k k_in. unscaled_low (slice_index box.low k) point.scale (slice_index point.values k) inside.scale (inside.above k k_in);
  below = λ k k_in. within k (omega (arith, k_in, inside.high_count));
}
  where
    unscaled_low : (a scale x : ℕ) → 0 < scale → a * scale ≤ x → a ≤ x
    unscaled_low a scale x some less = let more : a * 1 ≤ a * scale = mul-le-mul_left a some in omega arith

-- and they are a point of costs
pub values_point : (n : ℕ) (box : CostBox) (w : List ℕ) → IsCostsBox n box → IsInBox box w → IsCostPoint n (record { scale = 1; values = w })
values_point n box w kept inside = record {
  count = sym inside.low_count ∙ kept.is_box.low_count;
  scale = omega arith;
  scale_below = omega arith;
  least = each_at (λ x. 1 ≤ x) w (λ k k_in.
      let low = low_first n box kept k (omega (arith, k_in, inside.low_count, kept.is_box.low_count)) in
      let above = inside.above k k_in in
      omega (arith, low, above));
  most = each_at (λ x. x ≤ 65535 * 1) w (λ k k_in.
      let high = high_last n box kept k (omega (arith, k_in, inside.low_count, kept.is_box.low_count)) in
      let below = inside.below k k_in in
      omega (arith, high, below));
}

-- at a box of one point the greatest value is the value there
one_term : (c : ℤ) (x : ℕ) → upper_term c x x ≡ (c *ℤ pos x)
one_term (pos c) x = refl
one_term (negsuc c) x = refl

one_sum : (cs : List ℤ) (xs : List ℕ) → upper_sum cs xs xs ≡ dot cs xs
one_sum [] xs = refl
one_sum (c ∷ cs) [] = refl
one_sum (c ∷ cs) (x ∷ xs) = cc (one_term c x, one_sum cs xs)

pub one_value : (f : Form) (box : CostBox) → box.low ≡ box.high → greatest f box ≡ value_at f (at_costs box.low)
one_value f box one =
    ap (λ (hs : List ℕ). f.constant +ℤ upper_sum f.coefficients box.low hs) (sym one)
    ∙ ap (λ (z : ℤ). f.constant +ℤ z) (one_sum f.coefficients box.low)
    ∙ sym (value_at_costs f box.low)

pub one_met : (forms : List Form) (box : CostBox) → box.low ≡ box.high → All (λ f. pos 0 ≤ℤ greatest f box) forms → AreMet forms (at_costs box.low)
one_met forms box one met k d k_in = subst (λ (z : ℤ). pos 0 ≤ℤ z) (one_value (slice_at forms k d) box one) (met k d k_in)
  where
    slice_at : List Form → ℕ → Form → Form
    slice_at fs k d = Rattle.std.proofs.Common.get_or fs k d

-- the sum of one form is that form
one_product : (c : ℤ) → (pos 1 *ℤ c) ≡ c
one_product (pos n) = omega (arith, ints)
one_product (negsuc n) = omega (arith, ints)

one_products : (cs : List ℤ) → added (map (λ c. pos 1 *ℤ c) cs) [] ≡ cs
one_products [] = refl
one_products (c ∷ cs) = go (map (λ d. pos 1 *ℤ d) cs) (one_list cs)
  where
    one_list : (ds : List ℤ) → map (λ d. pos 1 *ℤ d) ds ≡ ds
    one_list [] = refl
    one_list (d ∷ ds) = cc (one_product d, one_list ds)

    go : (ds : List ℤ) → ds ≡ cs → ((pos 1 *ℤ c) ∷ ds) ≡ (c ∷ cs)
    go ds same = cc (one_product c, same)

pub weighted_one : (forms : List Form) (row : ℕ) → weighted forms ((row, 1) ∷ []) ≡ form_at forms row
weighted_one forms row = λ i. record {
  constant = (+ℤ_idr (pos 1 *ℤ (form_at forms row).constant) ∙ one_product (form_at forms row).constant) i;
  coefficients = one_products (form_at forms row).coefficients i;
}

-- one form that is negative all over a box refutes it
pub refutes_one : (forms : List Form) (row : ℕ) (box : CostBox) → row < length forms →
    greatest (form_at forms row) box <ℤ pos 0 → Refutes forms ((row, 1) ∷ []) box
refutes_one forms row box row_in negative = record {
  rows = one_all (λ part. part.0 < length forms) row_in;
  positive = one_all (λ part. 0 < part.1) (omega arith);
  sum = omega arith;
  negative = subst (λ (f : Form). greatest f box <ℤ pos 0) (sym (weighted_one forms row)) negative;
}
  where
    one_all : (P : ℕ × ℕ → Type 0) → P (row, 1) → All P ((row, 1) ∷ [])
    one_all P p zero d k_in = p
    one_all P p (suc k) d k_in = absurd (omega arith)

-- numbers none of which is less don't come before
never_before : (f g : ℕ → ℕ) (xs ys : List ℕ) → ((k : ℕ) → k < length xs → g (slice_index ys k) ≤ f (slice_index xs k)) →
    LexLess (map f xs) (map g ys) → ⊥
never_before f g [] ys each less = less
never_before f g (x ∷ xs) [] each less = less
never_before f g (x ∷ xs) (y ∷ ys) each (inl less) = let first = each 0 (omega arith) in omega (arith, first, less)
never_before f g (x ∷ xs) (y ∷ ys) each (inr more) = never_before f g xs ys (λ k k_in. each (suc k) (omega (arith, k_in))) more.1

-- the one point of a box is its least accepted one, where it is accepted
pub one_least : (accepted : Point → Type 0) (box : CostBox) → box.low ≡ box.high → accepted (at_costs box.low) →
    IsLeastPoint accepted box (at_costs box.low)
one_least accepted box one taken = record {
  inside = record {
    scale = omega arith;
    low_count = refl;
    high_count = ap length (sym one);
    above = λ k k_in. omega arith;
    below = λ k k_in. let same : slice_index box.low k ≡ slice_index box.high k = ap (λ xs. slice_index xs k) one in omega (arith, same);
  };
  accepted = taken;
  least = λ q inside there before. never_before (λ x. x * 1) (λ y. y * q.scale) q.values box.low
      (λ k k_in. omega (arith, inside.above k k_in)) before;
}

-- and over its scale of 1 it gives these costs
pub one_costs : (box : CostBox) → AreCostsOf (at_costs box.low) box.low
one_costs box = inl (ap at_costs (times_one box.low))
  where
    times_one : (xs : List ℕ) → map (λ x. x * 1) xs ≡ xs
    times_one [] = refl
    times_one (x ∷ xs) = let same : x * 1 ≡ x = omega arith in cc (same, times_one xs)

-- and one of its costs
pub one_inside : (box : CostBox) → box.low ≡ box.high → IsInBox box box.low
one_inside box one = record {
  low_count = refl;
  high_count = ap length (sym one);
  above = λ k k_in. omega arith;
  below = λ k k_in. let same : slice_index box.low k ≡ slice_index box.high k = ap (λ xs. slice_index xs k) one in omega (arith, same);
}
