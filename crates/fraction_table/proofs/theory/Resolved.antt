-- Every form is its value at the low corner plus the sum of the forms x - low, each times its coefficient; so the
-- entries of every form are known from those of the forms x - low.
use Rattle.std.proofs.Common.{◌≡◌, ◌≢◌, ℕ, zero, suc, ◌+◌, ◌<◌, ◌≤◌, cond, refl, sym, ◌∙◌, ap, subst, List, [], ◌∷◌, length, arith, inl, inr, zero-add}
use Rattle.std.specs.Prelude.{ℤ, pos, ◌+ℤ◌, ◌*ℤ◌, neg_ℤ, ◌==◌, slice_index_or, All}
use Rattle.std.proofs.lemmas.Bool.{cases_lt, eq-eqb, ne_eqb}
use Rattle.std.proofs.lemmas.List.{get_or_past}
use Rattle.cost_base.proofs.ListLemmas.{length-map-numbers_from, get_or-map-numbers_from}
use Rattle.whole_numbers.specs.Fractions.{Fraction, IsLowest}
use Rattle.whole_numbers.proofs.Ring.{var, num, ◌⊕◌, ◌⊗◌, neg, ring}
use Rattle.design_problem.specs.declared.form.Form.{Form}
use Rattle.design_problem.specs.Forms.{dot, value_for_costs}
use Rattle.design_problem.specs.Basis.{AreEntries, coordinate, mixture, one_form, unit}
use Rattle.fraction_lines.specs.TableLines.{AreTableNumbers}
use Rattle.fraction_table.specs.ValidTables.{number_of_form, numbers_of_form, AllLong, AreMixtures, low_forms, Stand}
use Rattle.fraction_table.proofs.theory.Blends.{form_mixture}

unit_at : (n own u : ℕ) → u < n → slice_index_or (unit n own (pos 1)) u (pos 0) ≡ cond (u == own) (pos 1) (pos 0)
unit_at n own u u_in =
    get_or-map-numbers_from (λ k. cond (k == own) (pos 1) (pos 0)) 0 n u (pos 0) u_in ∙ ap (λ k. cond (k == own) (pos 1) (pos 0)) (zero-add u)

unit_past : (n own u : ℕ) → n ≤ u → slice_index_or (unit n own (pos 1)) u (pos 0) ≡ pos 0
unit_past n own u past =
    let counted = length-map-numbers_from (λ k. cond (k == own) (pos 1) (pos 0)) 0 n in
    get_or_past (unit n own (pos 1)) u (pos 0) (omega arith)

pub unit_same : (n own : ℕ) → own < n → slice_index_or (unit n own (pos 1)) own (pos 0) ≡ pos 1
unit_same n own var_in = unit_at n own own var_in ∙ ap (λ b. cond b (pos 1) (pos 0)) (eq-eqb own own refl)

pub unit_other : (n own u : ℕ) → u ≢ own → slice_index_or (unit n own (pos 1)) u (pos 0) ≡ pos 0
unit_other n own u other =
    elim (cases_lt u n) [
      | inl within ↦ unit_at n own u within ∙ ap (λ b. cond b (pos 1) (pos 0)) (ne_eqb u own other)
      | inr past ↦ unit_past n own u past
    ]

blend_constant : (n a : ℕ) (cs : List ℤ) (ls : List ℕ) → mixture cs (low_forms n a ls) 0 ≡ neg_ℤ (dot cs ls)
blend_constant n a [] ls = refl
blend_constant n a (c ∷ cs) [] = refl
blend_constant n a (c ∷ cs) (l ∷ ls) =
    ap (λ z. (c *ℤ neg_ℤ (pos l)) +ℤ z) (blend_constant n (a + 1) cs ls)
    ∙ ring (c ∷ pos l ∷ dot cs ls ∷ []) (var 0 ⊗ neg (var 1) ⊕ neg (var 2)) (neg (var 0 ⊗ var 1 ⊕ var 2)) refl

no_term : (c z : ℤ) → z ≡ pos 0 → ((c *ℤ z) +ℤ pos 0) ≡ pos 0
no_term c z e = ap (λ w. (c *ℤ w) +ℤ pos 0) e ∙ ring (c ∷ []) (var 0 ⊗ num (pos 0) ⊕ num (pos 0)) (num (pos 0)) refl

blend_before : (n a u : ℕ) (cs : List ℤ) (ls : List ℕ) → u < a → mixture cs (low_forms n a ls) (suc u) ≡ pos 0
blend_before n a u [] ls before = refl
blend_before n a u (c ∷ cs) [] before = refl
blend_before n a u (c ∷ cs) (l ∷ ls) before =
    ap (λ z. (c *ℤ slice_index_or (unit n a (pos 1)) u (pos 0)) +ℤ z) (blend_before n (a + 1) u cs ls (omega arith))
    ∙ no_term c (slice_index_or (unit n a (pos 1)) u (pos 0)) (unit_other n a u (apart before))
  where
    apart : u < a → u ≢ a
    apart h = omega arith

-- at a variable the blend has that variable's coefficient
blend_there : (n a k u : ℕ) (cs : List ℤ) (ls : List ℕ) → length cs ≡ length ls → a + length cs ≤ n → u ≡ a + k →
    mixture cs (low_forms n a ls) (suc u) ≡ slice_index_or cs k (pos 0)
blend_there n a k u [] ls same fits there = refl
blend_there n a k u (c ∷ cs) [] same fits there = absurd (omega arith)
blend_there n a zero u (c ∷ cs) (l ∷ ls) same fits there =
    let here : a ≡ u = omega arith in
    ap (λ z. (c *ℤ slice_index_or (unit n a (pos 1)) u (pos 0)) +ℤ z) (blend_before n (a + 1) u cs ls (omega arith))
    ∙ ap (λ z. (c *ℤ z) +ℤ pos 0) (subst (λ (m : ℕ). slice_index_or (unit n a (pos 1)) m (pos 0) ≡ pos 1) here (unit_same n a (omega arith)))
    ∙ ring (c ∷ []) (var 0 ⊗ num (pos 1) ⊕ num (pos 0)) (var 0) refl
blend_there n a (suc k) u (c ∷ cs) (l ∷ ls) same fits there =
    ap (λ z. (c *ℤ slice_index_or (unit n a (pos 1)) u (pos 0)) +ℤ z) (blend_there n (a + 1) k u cs ls (omega arith) (omega arith) (omega arith))
    ∙ ap (λ z. (c *ℤ z) +ℤ slice_index_or cs k (pos 0)) (unit_other n a u (apart there))
    ∙ ring (c ∷ slice_index_or cs k (pos 0) ∷ []) (var 0 ⊗ num (pos 0) ⊕ var 1) (var 1) refl
  where
    apart : u ≡ a + suc k → u ≢ a
    apart h = omega arith

-- a form at each coordinate: its value at the low corner, and the blend of the forms x - low
pub resolved : (low : List ℕ) (f : Form) → length f.coefficients ≡ length low → (i : ℕ) →
    coordinate f i ≡ ((value_for_costs f low *ℤ coordinate one_form i) +ℤ mixture f.coefficients
    (low_forms (length low) 0 low) i)
resolved low f same zero =
    ring (f.constant ∷ dot f.coefficients low ∷ []) (var 0) ((var 0 ⊕ var 1) ⊗ num (pos 1) ⊕ neg (var 1)) refl
    ∙ ap (λ z. (value_for_costs f low *ℤ pos 1) +ℤ z) (sym (blend_constant (length low) 0 f.coefficients low))
resolved low f same (suc u) =
    ring (slice_index_or f.coefficients u (pos 0) ∷ value_for_costs f low ∷ []) (var 0) (var 1 ⊗ num (pos 0) ⊕ var 0) refl
    ∙ ap (λ z. (value_for_costs f low *ℤ pos 0) +ℤ z) (sym (blend_there (length low) 0 u u f.coefficients low same (omega arith) (sym (zero-add u))))

pub stand_length : (D : ℕ) (qs : List Fraction) (ms : List ℤ) → Stand D qs ms → length qs ≡ length ms
stand_length D [] [] stand = refl
stand_length D [] (m ∷ ms) stand = absurd stand
stand_length D (q ∷ qs) [] stand = absurd stand
stand_length D (q ∷ qs) (m ∷ ms) stand = ap suc (stand_length D qs ms stand.1)

pub all_lowest : (top : ℕ) (qs : List Fraction) → AreTableNumbers top qs → All IsLowest qs
all_lowest top [] numbers k d k_in = absurd (omega arith)
all_lowest top (q ∷ qs) numbers zero d k_in = numbers.0.lowest
all_lowest top (q ∷ qs) numbers (suc k) d k_in = all_lowest top qs numbers.1 k d (omega arith)

-- Fractions that stand for a form's numbers are its entries over the basis.
pub are_entries : (top D : ℕ) (low : List ℕ) (rows : List (List ℤ)) (basis : List Form) (f : Form)
    (entries : List Fraction) → 0 < D → length basis ≡ length low → length f.coefficients ≡ length low →
    AllLong (suc (length low)) rows → AreMixtures D basis (low_forms (length low) 0 low) rows → AreTableNumbers top entries →
    Stand D entries (numbers_of_form (length low) D low rows f) → AreEntries basis f entries
are_entries top D low rows basis f entries positive as_many same long are numbers stand =
    record {
      count = stand_length D entries (numbers_of_form (length low) D low rows f) stand
          ∙ ap suc (length-map-numbers_from (number_of_form D low rows f) 1 (length low) ∙ sym as_many);
      lowest = all_lowest top entries numbers;
      common = D;
      positive = positive;
      numbers = numbers_of_form (length low) D low rows f;
      stand = stand;
      equation = form_mixture D (length low) low (low_forms (length low) 0 low) rows basis f long are (resolved low f same);
    }
