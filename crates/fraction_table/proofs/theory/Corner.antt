-- What a table shows: a form that no point of the box meets, and the least corner.
use Rattle.std.proofs.Common.{◌≡◌, ℕ, suc, ◌<◌, refl, sym, ap, List, [], ◌∷◌, map, length, inl, inr, arith, drop}
use Rattle.std.specs.Prelude.{ℤ, pos, negsuc, ◌+ℤ◌, ◌-ℤ◌, ◌*ℤ◌, ◌<ℤ◌, ◌≤ℤ◌}
use Rattle.std.specs.List.{AllByRecursion}
use Rattle.std.proofs.lemmas.Int.{ints}
use Rattle.std.proofs.lemmas.List.Elements.{All-tail}
use Rattle.whole_numbers.proofs.Orders.{negative_factor, negative_product, opposite_product}
use Rattle.whole_numbers.proofs.Ring.{var, num, ◌⊕◌, ◌⊗◌, ring}
use Rattle.area_graph.specs.declared.Point.{Point}
use Rattle.whole_numbers.specs.Lists.{number_at}
use Rattle.design_problem.specs.declared.form.Form.{Form}
use Rattle.design_problem.specs.Forms.{AreMet, value_at}
use Rattle.design_problem.specs.Basis.{one_form, IsMixture, LeadsPositive}
use Rattle.design_problem.specs.Earnest.{LexLess}
use Rattle.fraction_table.specs.Pivots.{LeadsNoNegative}
use Rattle.fraction_table.proofs.theory.Points.{mixed_at, equation_at}
use Rattle.fraction_table.proofs.theory.Lex.{summed, scaled, weaker, scaled_follows, sum_follows}

abbrev pub NotAbove : List ℤ → Type 0
NotAbove zs = AllByRecursion (λ z. z ≤ℤ pos 0) zs

pub sum_low : (a b : ℤ) → a ≤ℤ pos 0 → b ≤ℤ pos 0 → (a +ℤ b) ≤ℤ pos 0
sum_low a b first second = omega (arith, ints)

pub sum_negative : (a b : ℤ) → a <ℤ pos 0 → b ≤ℤ pos 0 → (a +ℤ b) <ℤ pos 0
sum_negative a b first second = omega (arith, ints)

mixed_low : (ms : List ℤ) (fs : List Form) (p : Point) → NotAbove ms → AreMet fs p → mixed_at ms fs p ≤ℤ pos 0
mixed_low [] fs p low met = omega (arith, ints)
mixed_low (m ∷ ms) [] p low met = omega (arith, ints)
mixed_low (m ∷ ms) (f ∷ fs) p low met =
    sum_low (m *ℤ value_at f p) (mixed_at ms fs p) (opposite_product m (value_at f p) low.0 (met 0 f (omega arith)))
    (mixed_low ms fs p low.1 (All-tail (λ g. pos 0 ≤ℤ value_at g p) f fs met))

pub one_value : (p : Point) → value_at one_form p ≡ pos p.scale
one_value p = ring (pos p.scale ∷ []) (num (pos 1) ⊗ var 0 ⊕ num (pos 0)) (var 0) refl

-- A form whose constant is negative and none of whose other entries is positive is negative wherever the basis is met.
pub refuting_negative : (r : Form) (basis : List Form) (D : ℕ) (m : ℤ) (ms : List ℤ) (p : Point) →
    IsMixture r basis D (m ∷ ms) → m <ℤ pos 0 → NotAbove ms → AreMet basis p → 0 < p.scale → value_at r p <ℤ pos 0
refuting_negative r basis D m ms p is below low met scale_positive =
    negative_factor D (value_at r p)
    (rw (equation_at r basis D (m ∷ ms) p is)
    (rw (one_value p)
    (sum_negative (m *ℤ pos p.scale) (mixed_at ms basis p) (negative_product m p.scale below scale_positive) (mixed_low ms basis p low met))))

-- the sum of a line's numbers, each times the one at its place
abbrev pub row_sum : List ℤ → List ℕ → ℤ
row_sum [] us = pos 0
row_sum (t ∷ ts) [] = pos 0
row_sum (t ∷ ts) (u ∷ us) = (pos u *ℤ t) +ℤ row_sum ts us

rest_at : (ts : List ℤ) (k : ℕ) → number_at (drop 1 ts) k ≡ number_at ts (suc k)
rest_at [] k = refl
rest_at (t ∷ ts) k = refl

zero-row_sum : (ts : List ℤ) → row_sum ts [] ≡ pos 0
zero-row_sum [] = refl
zero-row_sum (t ∷ ts) = refl

row_sum_step : (ts : List ℤ) (u : ℕ) (us : List ℕ) → row_sum ts (u ∷ us) ≡ ((pos u *ℤ number_at ts 0) +ℤ row_sum (drop 1 ts) us)
row_sum_step [] u us = sym (ap (λ z. z +ℤ pos 0) (lib.IntN.*ℤ-zero (pos u)))
row_sum_step (t ∷ ts) u us = refl

zeros_follow : (rows : List (List ℤ)) → LeadsNoNegative (map (λ ts. row_sum ts []) rows)
zeros_follow [] = tt
zeros_follow (ts ∷ rows) = rw (zero-row_sum ts) (zeros_follow rows)

column_step : (rows : List (List ℤ)) (u : ℕ) (us : List ℕ) →
    map (λ ts. row_sum ts (u ∷ us)) rows ≡ summed (scaled u (map (λ ts. number_at ts 0) rows))
    (map (λ ts. row_sum ts us) (map (drop 1) rows))
column_step [] u us = refl
column_step (ts ∷ rows) u us = cc (row_sum_step ts u us, column_step rows u us)

pub rest_columns : (rows : List (List ℤ)) (k : ℕ) → map (λ ts. number_at ts k) (map (drop 1) rows) ≡ map (λ ts. number_at ts (suc k)) rows
rest_columns [] k = refl
rest_columns (ts ∷ rows) k = cc (rest_at ts k, rest_columns rows k)

same_lengths : (u : ℕ) (rows : List (List ℤ)) (us : List ℕ) →
    length (scaled u (map (λ ts. number_at ts 0) rows)) ≡ length (map (λ ts. row_sum ts us) (map (drop 1) rows))
same_lengths u [] us = refl
same_lengths u (ts ∷ rows) us = ap suc (same_lengths u rows us)

-- Columns that lead with a positive number, each times a whole number, add up to a column that doesn't lead with a
-- negative one.
pub columns_follow : (rows : List (List ℤ)) (us : List ℕ) →
    ((k : ℕ) → k < length us → LeadsPositive (map (λ ts. number_at ts k) rows)) →
    LeadsNoNegative (map (λ ts. row_sum ts us) rows)
columns_follow rows [] lead = zeros_follow rows
columns_follow rows (u ∷ us) lead =
    rw (column_step rows u us)
    (sum_follows (scaled u (map (λ ts. number_at ts 0) rows)) (map (λ ts. row_sum ts us) (map (drop 1) rows)) (same_lengths u rows us)
    (scaled_follows u (map (λ ts. number_at ts 0) rows) (weaker (map (λ ts. number_at ts 0) rows) (lead 0 (omega arith))))
    (columns_follow (map (drop 1) rows) us (λ k k_in. rw (rest_columns rows k) (lead (suc k) (omega arith)))))

-- the differences of two lists of numbers
abbrev pub differences : List ℕ → List ℕ → List ℤ
differences [] ys = []
differences (x ∷ xs) [] = []
differences (x ∷ xs) (y ∷ ys) = (pos x -ℤ pos y) ∷ differences xs ys

pub leads_negative : (z : ℤ) (zs : List ℤ) → z <ℤ pos 0 → LeadsNoNegative (z ∷ zs) → ⊥
leads_negative (pos n) zs low h = absurd (omega (arith, ints))
leads_negative (negsuc n) zs low h = h

pub leads_zero : (z : ℤ) (zs : List ℤ) → z ≡ pos 0 → LeadsNoNegative (z ∷ zs) → LeadsNoNegative zs
leads_zero z zs e h = rw e at h

-- the lesser of two lists differs from the other by a list that leads with a negative number
pub less_leads : (xs ys : List ℕ) → LexLess xs ys → LeadsNoNegative (differences xs ys) → ⊥
less_leads [] ys less leads = less
less_leads (x ∷ xs) [] less leads = less
less_leads (x ∷ xs) (y ∷ ys) less leads =
    elim less [
      | inl lower ↦ leads_negative (pos x -ℤ pos y) (differences xs ys) (omega (arith, ints)) leads
      | inr same ↦ less_leads xs ys same.1 (leads_zero (pos x -ℤ pos y) (differences xs ys) (omega (arith, ints)) leads)
    ]
