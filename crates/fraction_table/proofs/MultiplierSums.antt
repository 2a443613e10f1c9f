-- The rows of a refuting form, each times its multiplier, have a negative sum over the box.
use Rattle.std.proofs.Common.{◌≡◌, ℕ, zero, suc, ◌<◌, refl, sym, ◌∙◌, ap, subst, List, [], ◌∷◌, ◌++◌, map, arith}
use Rattle.std.specs.Prelude.{ℤ, pos, negsuc, ◌+ℤ◌, ◌*ℤ◌, neg_ℤ, ◌<ℤ◌, ◌≤ℤ◌}
use Rattle.std.specs.List.{AllByRecursion}
use Rattle.std.proofs.lemmas.Int.{ints}
use Rattle.std.proofs.lemmas.List.{map-append}
use Rattle.whole_numbers.specs.Fractions.{Fraction, negated, whole}
use Rattle.whole_numbers.proofs.Ring.{var, num, ◌⊕◌, ◌⊗◌, neg, ring, ring_by, nothing, using}
use Rattle.whole_numbers.proofs.Orders.{negative_factor, negative_product, opposite_product}
use Rattle.design_problem.specs.declared.form.Form.{Form}
use Rattle.design_problem.specs.declared.tree.Member.{Member}
use Rattle.design_problem.specs.declared.tree.Member.TheVariants.{Low, High, Row}
use Rattle.design_problem.specs.Forms.{form_at, value_for_costs, weighted}
use Rattle.design_problem.specs.Basis.{member_form}
use Rattle.design_problem.specs.Steps.{unless_zero}
use Rattle.design_problem.proofs.Weighted.{value-weighted}
use Rattle.fraction_table.specs.Multipliers.{columns_numbered, numbered, whole_multiplier}
use Rattle.fraction_table.proofs.theory.Corner.{sum_low, sum_negative}

-- the values of members' forms at costs, each times its number
abbrev pub member_sum : ℕ → List Form → List ℕ → List ℤ → List Member → ℤ
member_sum n rows w [] members = pos 0
member_sum n rows w (m ∷ ms) [] = pos 0
member_sum n rows w (m ∷ ms) (member ∷ members) = (m *ℤ value_for_costs (member_form n rows member) w) +ℤ member_sum n rows w ms members

-- a bound's form isn't negative at the costs
abbrev pub IsHigh : ℕ → List ℕ → Member → Type 0
IsHigh n w (Low v bound) = pos 0 ≤ℤ value_for_costs (member_form n [] (Low v bound)) w
IsHigh n w (High v bound) = pos 0 ≤ℤ value_for_costs (member_form n [] (High v bound)) w
IsHigh n w (Row row) = Unit {0}

abbrev pub AllHigh : ℕ → List ℕ → List Member → Type 0
AllHigh n w members = AllByRecursion (IsHigh n w) members

-- What a column's entry q, which stands for m over D, is made to: a number whose D-fold is -m times the multiple.
pub record IsEntry (D multiple : ℕ) (member : Member) (q : Fraction) (m : ℤ) : Type 0 where
  pub none : q.numerator ≡ pos 0 → m ≡ pos 0
  pub low : m ≤ℤ pos 0
  pub made : AllByRecursion (λ part. (pos D *ℤ pos (whole_multiplier multiple part).1) ≡ neg_ℤ (m *ℤ pos multiple))
      (numbered member (unless_zero q.numerator q))

abbrev pub AreMade : ℕ → ℕ → List Member → List Fraction → List ℤ → Type 0
AreMade D multiple [] qs ms = Unit {0}
AreMade D multiple (member ∷ members) [] ms = ⊥
AreMade D multiple (member ∷ members) (q ∷ qs) [] = ⊥
AreMade D multiple (member ∷ members) (q ∷ qs) (m ∷ ms) = IsEntry D multiple member q m × AreMade D multiple members qs ms

-- a product with a natural number
low_times : (a : ℕ) (z : ℤ) → z ≤ℤ pos 0 → (pos a *ℤ z) ≤ℤ pos 0
low_times a (pos zero) low = subst (λ (z : ℤ). z ≤ℤ pos 0) (ring (pos a ∷ []) (num (pos 0)) (var 0 ⊗ num (pos 0)) refl) (omega (arith, ints))
low_times a (pos (suc i)) low = absurd (omega (arith, ints))
low_times a (negsuc i) low = omega (arith, ints)

-- a column more, by what it gives to the sum of the rows and to that of all members
bound_more : (D L : ℕ) (s m v r : ℤ) → m ≤ℤ pos 0 → pos 0 ≤ℤ v → ((pos D *ℤ s) +ℤ (pos L *ℤ r)) ≤ℤ pos 0 → ((pos D *ℤ s) +ℤ (pos L *ℤ ((m *ℤ v) +ℤ r))) ≤ℤ pos 0
bound_more D L s m v r m_low v_high rest =
    subst (λ (z : ℤ). z ≤ℤ pos 0)
    (ring (pos D ∷ s ∷ pos L ∷ m ∷ v ∷ r ∷ []) (var 2 ⊗ (var 3 ⊗ var 4) ⊕ (var 0 ⊗ var 1 ⊕ var 2 ⊗ var 5))
    (var 0 ⊗ var 1 ⊕ var 2 ⊗ (var 3 ⊗ var 4 ⊕ var 5)) refl)
    (sum_low _ _ (low_times L (m *ℤ v) (opposite_product m v m_low v_high)) rest)

row_more : (D L : ℕ) (p s m v r : ℤ) → (pos D *ℤ p) ≡ neg_ℤ (m *ℤ pos L) → ((pos D *ℤ s) +ℤ (pos L *ℤ r)) ≤ℤ pos 0 →
    ((pos D *ℤ ((p *ℤ v) +ℤ s)) +ℤ (pos L *ℤ ((m *ℤ v) +ℤ r))) ≤ℤ pos 0
row_more D L p s m v r made rest =
    subst (λ (z : ℤ). z ≤ℤ pos 0)
    (ring_by (pos D ∷ p ∷ s ∷ m ∷ v ∷ r ∷ pos L ∷ [])
    (var 0 ⊗ var 2 ⊕ var 6 ⊗ var 5) (var 0 ⊗ (var 1 ⊗ var 4 ⊕ var 2) ⊕ var 6 ⊗ (var 3 ⊗ var 4 ⊕ var 5))
    (using (neg (var 4)) (var 0 ⊗ var 1) (neg (var 3 ⊗ var 6)) made nothing) refl)
    rest

zero_more : (D L : ℕ) (s m v r : ℤ) → m ≡ pos 0 → ((pos D *ℤ s) +ℤ (pos L *ℤ r)) ≤ℤ pos 0 → ((pos D *ℤ s) +ℤ (pos L *ℤ ((m *ℤ v) +ℤ r))) ≤ℤ pos 0
zero_more D L s m v r none rest =
    subst (λ (z : ℤ). z ≤ℤ pos 0)
    (ring_by (pos D ∷ s ∷ pos L ∷ m ∷ v ∷ r ∷ []) (var 0 ⊗ var 1 ⊕ var 2 ⊗ var 5) (var 0 ⊗ var 1 ⊕ var 2 ⊗ (var 3 ⊗ var 4 ⊕ var 5))
    (using (neg (var 2 ⊗ var 4)) (var 3) (num (pos 0)) none nothing) refl)
    rest

-- a row's column, by the numerator of its entry
row_column : (D L row : ℕ) (rows : List Form) (w : List ℕ) (z : ℤ) (q : Fraction) (m : ℤ) (rest : List (ℕ × ℕ)) (r : ℤ) → (z ≡ pos 0 → m ≡ pos 0) →
    AllByRecursion (λ part. (pos D *ℤ pos (whole_multiplier L part).1) ≡ neg_ℤ (m *ℤ pos L)) (numbered (Row row) (unless_zero z q)) →
    ((pos D *ℤ value_for_costs (weighted rows rest) w) +ℤ (pos L *ℤ r)) ≤ℤ pos 0 →
    ((pos D *ℤ value_for_costs (weighted rows (map (whole_multiplier L) (numbered (Row row) (unless_zero z q)) ++ rest)) w)
    +ℤ (pos L *ℤ ((m *ℤ value_for_costs (form_at rows row) w) +ℤ r))) ≤ℤ pos 0
row_column D L row rows w (pos zero) q m rest r none made below =
    zero_more D L (value_for_costs (weighted rows rest) w) m (value_for_costs (form_at rows row) w) r (none refl) below
row_column D L row rows w (pos (suc k)) q m rest r none made below =
    subst (λ (z : ℤ). ((pos D *ℤ z) +ℤ (pos L *ℤ ((m *ℤ value_for_costs (form_at rows row) w) +ℤ r))) ≤ℤ pos 0)
    (sym (value-weighted rows (whole_multiplier L (row, negated q)) rest w))
    (row_more D L (pos (whole_multiplier L (row, negated q)).1) (value_for_costs (weighted rows rest) w) m (value_for_costs (form_at rows row) w) r made.0
    below)
row_column D L row rows w (negsuc k) q m rest r none made below =
    subst (λ (z : ℤ). ((pos D *ℤ z) +ℤ (pos L *ℤ ((m *ℤ value_for_costs (form_at rows row) w) +ℤ r))) ≤ℤ pos 0)
    (sym (value-weighted rows (whole_multiplier L (row, negated q)) rest w))
    (row_more D L (pos (whole_multiplier L (row, negated q)).1) (value_for_costs (weighted rows rest) w) m (value_for_costs (form_at rows row) w) r made.0
    below)

-- The rows' sum, D-fold, and that of all members, times the multiple, are together at most 0.
pub columns_sum : (D L n : ℕ) (rows : List Form) (w : List ℕ) (members : List Member) (qs : List Fraction)
    (ms : List ℤ) → AllHigh n w members → AreMade D L members qs ms →
    ((pos D *ℤ value_for_costs (weighted rows (map (whole_multiplier L) (columns_numbered members qs))) w) +ℤ (pos L *ℤ member_sum n rows w ms members)) ≤ℤ pos
    0
columns_sum D L n rows w [] qs [] high made = omega (arith, ints)
columns_sum D L n rows w [] qs (m ∷ ms) high made = omega (arith, ints)
columns_sum D L n rows w (member ∷ members) [] ms high made = absurd made
columns_sum D L n rows w (member ∷ members) (q ∷ qs) [] high made = absurd made
columns_sum D L n rows w (Low v bound ∷ members) (q ∷ qs) (m ∷ ms) high made =
    bound_more D L (value_for_costs (weighted rows (map (whole_multiplier L) (columns_numbered members qs))) w) m
    (value_for_costs (member_form n rows (Low v bound)) w) (member_sum n rows w ms members) made.0.low high.0
    (columns_sum D L n rows w members qs ms high.1 made.1)
columns_sum D L n rows w (High v bound ∷ members) (q ∷ qs) (m ∷ ms) high made =
    bound_more D L (value_for_costs (weighted rows (map (whole_multiplier L) (columns_numbered members qs))) w) m
    (value_for_costs (member_form n rows (High v bound)) w) (member_sum n rows w ms members) made.0.low high.0
    (columns_sum D L n rows w members qs ms high.1 made.1)
columns_sum D L n rows w (Row row ∷ members) (q ∷ qs) (m ∷ ms) high made =
    subst (λ (ps : List (ℕ × ℕ)). ((pos D *ℤ value_for_costs (weighted rows ps) w)
    +ℤ (pos L *ℤ ((m *ℤ value_for_costs (form_at rows row) w) +ℤ member_sum n rows w ms members))) ≤ℤ pos 0)
    (sym (map-append (whole_multiplier L) (numbered (Row row) (unless_zero q.numerator q)) (columns_numbered members qs)))
    (row_column D L row rows w q.numerator q m (map (whole_multiplier L) (columns_numbered members qs)) (member_sum n rows w ms members) made.0.none made.0.made
    (columns_sum D L n rows w members qs ms high.1 made.1))

-- the form's own part, and the equation of the form at the costs: where it is a row, and where it is a bound
row_negative : (D L : ℕ) (v s m r : ℤ) → 0 < L → m <ℤ pos 0 → (pos D *ℤ v) ≡ (m +ℤ r) → ((pos D *ℤ s) +ℤ (pos L *ℤ r)) ≤ℤ pos 0 → ((pos L *ℤ v) +ℤ s) <ℤ pos 0
row_negative D L v s m r L_positive below equation rest =
    negative_factor D ((pos L *ℤ v) +ℤ s)
    (subst (λ (z : ℤ). z <ℤ pos 0)
    (ring_by (pos D ∷ pos L ∷ v ∷ s ∷ m ∷ r ∷ []) (var 4 ⊗ var 1 ⊕ (var 0 ⊗ var 3 ⊕ var 1 ⊗ var 5)) (var 0 ⊗ (var 1 ⊗ var 2 ⊕ var 3))
    (using (neg (var 1)) (var 0 ⊗ var 2) (var 4 ⊕ var 5) equation nothing) refl)
    (sum_negative _ _ (negative_product m L below L_positive) rest))

bound_negative : (D L : ℕ) (v s m r : ℤ) → 0 < L → m <ℤ pos 0 → pos 0 ≤ℤ v → (pos D *ℤ v) ≡ (m +ℤ r) → ((pos D *ℤ s) +ℤ (pos L *ℤ r)) ≤ℤ pos 0 → s <ℤ pos 0
bound_negative D L v s m r L_positive below high equation rest =
    negative_factor D s
    (both (m *ℤ pos L) ((pos D *ℤ s) +ℤ (pos L *ℤ r)) (pos L *ℤ (pos D *ℤ v)) (pos D *ℤ s)
    (negative_product m L below L_positive) rest (high_product L D v high)
    (ring_by (pos D ∷ pos L ∷ v ∷ s ∷ m ∷ r ∷ []) (var 0 ⊗ var 3 ⊕ var 1 ⊗ (var 0 ⊗ var 2)) (var 4 ⊗ var 1 ⊕ (var 0 ⊗ var 3 ⊕ var 1 ⊗ var 5))
    (using (var 1) (var 0 ⊗ var 2) (var 4 ⊕ var 5) equation nothing) refl))
  where
    high_product : (a b : ℕ) (z : ℤ) → pos 0 ≤ℤ z → pos 0 ≤ℤ (pos a *ℤ (pos b *ℤ z))
    high_product a b (pos k) up = omega (arith, ints)
    high_product a b (negsuc k) up = absurd (omega (arith, ints))

    both : (a b c d : ℤ) → a <ℤ pos 0 → b ≤ℤ pos 0 → pos 0 ≤ℤ c → (d +ℤ c) ≡ (a +ℤ b) → d <ℤ pos 0
    both a b c d first second third same = omega (arith, ints)

-- All parts of a refuting form have a negative sum, whether it is a row or a bound.
pub parts_negative : (D L n : ℕ) (rows : List Form) (w : List ℕ) (r : Member) (basis : List Member) (qs : List Fraction)
    (m : ℤ) (ms : List ℤ) → 0 < L → m <ℤ pos 0 → IsHigh n w r → AllHigh n w basis → AreMade D L basis qs ms →
    AllByRecursion (λ part. pos (whole_multiplier L part).1 ≡ pos L) (numbered r (whole (pos 1) ∷ [])) →
    (pos D *ℤ value_for_costs (member_form n rows r) w) ≡ (m +ℤ member_sum n rows w ms basis) →
    value_for_costs (weighted rows (map (whole_multiplier L) (numbered r (whole (pos 1) ∷ []) ++ columns_numbered basis qs))) w <ℤ pos 0
parts_negative D L n rows w (Low v bound) basis qs m ms L_positive below high all_high made own equation =
    bound_negative D L (value_for_costs (member_form n rows (Low v bound)) w)
    (value_for_costs (weighted rows (map (whole_multiplier L) (columns_numbered basis qs))) w) m (member_sum n rows w ms basis)
    L_positive below high equation
    (columns_sum D L n rows w basis qs ms all_high made)
parts_negative D L n rows w (High v bound) basis qs m ms L_positive below high all_high made own equation =
    bound_negative D L (value_for_costs (member_form n rows (High v bound)) w)
    (value_for_costs (weighted rows (map (whole_multiplier L) (columns_numbered basis qs))) w) m (member_sum n rows w ms basis)
    L_positive below high equation
    (columns_sum D L n rows w basis qs ms all_high made)
parts_negative D L n rows w (Row row) basis qs m ms L_positive below high all_high made own equation =
    let rest = map (whole_multiplier L) (columns_numbered basis qs) in
    subst (λ (z : ℤ). z <ℤ pos 0)
    (sym (value-weighted rows (whole_multiplier L (row, whole (pos 1))) rest w
    ∙ ap (λ (z : ℤ). (z *ℤ value_for_costs (form_at rows row) w) +ℤ value_for_costs (weighted rows rest) w) own.0))
    (row_negative D L (value_for_costs (form_at rows row) w) (value_for_costs (weighted rows rest) w) m (member_sum n rows w ms basis) L_positive below equation
    (columns_sum D L n rows w basis qs ms all_high made))
