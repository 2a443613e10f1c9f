-- Forms with one coefficient: x - low and high - x. Their sums are that coefficient times what stands at its place.
use Rattle.std.proofs.Common.{◌≡◌, ◌≢◌, ℕ, zero, suc, ◌+◌, ◌<◌, cond, refl, sym, ◌∙◌, ap, List, [], ◌∷◌, map, length, arith}
use Rattle.std.specs.Prelude.{ℤ, pos, negsuc, ◌+ℤ◌, ◌-ℤ◌, ◌*ℤ◌, ◌==◌, neg_ℤ, slice_index, slice_index_or}
use Rattle.std.proofs.lemmas.List.{get_or-map}
use Rattle.std.proofs.lemmas.Bool.{eq-eqb, ne_eqb}
use Rattle.cost_base.specs.Lists.{numbers_from}
use Rattle.cost_base.proofs.ListLemmas.{map-numbers_from-agree, all_from_each}
use Rattle.whole_numbers.proofs.Ring.{var, num, ◌⊕◌, ◌⊖◌, ◌⊗◌, neg, ring}
use Rattle.whole_numbers.specs.Lists.{number_at}
use Rattle.design_problem.specs.declared.form.Form.{Form}
use Rattle.design_problem.specs.declared.tree.Member.TheVariants.{Low, High}
use Rattle.design_problem.specs.Forms.{dot, value_for_costs}
use Rattle.design_problem.specs.Basis.{member_form, unit}
use Rattle.fraction_table.specs.ValidTables.{AllLong, from_lows, number_of_form, numbers_of_form}
use Rattle.fraction_table.proofs.theory.Blends.{listed_at}

-- the coefficients from a on
abbrev units : ℕ → ℤ → ℕ → ℕ → List ℤ
units v c a m = map (λ k. cond (k == v) c (pos 0)) (numbers_from a m)

no_units : (v a m place : ℕ) (c : ℤ) (lows : List (List ℤ)) → v < a → from_lows (units v c a m) lows place ≡ pos 0
no_units v a zero place c lows before = refl
no_units v a (suc m) place c [] before = refl
no_units v a (suc m) place c (ts ∷ lows) before =
    ap (λ b. (cond b c (pos 0) *ℤ number_at ts place) +ℤ from_lows (units v c (a + 1) m) lows place) (ne_eqb a v (apart before))
    ∙ ap (λ z. (pos 0 *ℤ number_at ts place) +ℤ z) (no_units v (a + 1) m place c lows (omega arith))
    ∙ ring (number_at ts place ∷ []) (num (pos 0) ⊗ var 0 ⊕ num (pos 0)) (num (pos 0)) refl
  where
    apart : v < a → a ≢ v
    apart h = omega arith

units_from_lows : (v a i m place : ℕ) (c : ℤ) (lows : List (List ℤ)) → v ≡ a + i → i < m → m ≡ length lows →
    from_lows (units v c a m) lows place ≡ (c *ℤ number_at (slice_index_or lows i []) place)
units_from_lows v a i zero place c lows there i_in counted = absurd (omega arith)
units_from_lows v a i (suc m) place c [] there i_in counted = absurd (omega arith)
units_from_lows v a zero (suc m) place c (ts ∷ lows) there i_in counted =
    ap (λ b. (cond b c (pos 0) *ℤ number_at ts place) +ℤ from_lows (units v c (a + 1) m) lows place) (eq-eqb a v (omega arith))
    ∙ ap (λ z. (c *ℤ number_at ts place) +ℤ z) (no_units v (a + 1) m place c lows (omega arith))
    ∙ ring (c ∷ number_at ts place ∷ []) (var 0 ⊗ var 1 ⊕ num (pos 0)) (var 0 ⊗ var 1) refl
units_from_lows v a (suc i) (suc m) place c (ts ∷ lows) there i_in counted =
    ap (λ b. (cond b c (pos 0) *ℤ number_at ts place) +ℤ from_lows (units v c (a + 1) m) lows place) (ne_eqb a v (apart there))
    ∙ ap (λ z. (pos 0 *ℤ number_at ts place) +ℤ z) (units_from_lows v (a + 1) i m place c lows (omega arith) (omega arith) (omega arith))
    ∙ ring (c ∷ number_at ts place ∷ number_at (slice_index_or lows i []) place ∷ []) (num (pos 0) ⊗ var 1 ⊕ var 0 ⊗ var 2) (var 0 ⊗ var 2) refl
  where
    apart : v ≡ a + suc i → a ≢ v
    apart h = omega arith

pub unit_from_lows : (n v place : ℕ) (c : ℤ) (lows : List (List ℤ)) → v < n → n ≡ length lows →
    from_lows (unit n v c) lows place ≡ (c *ℤ number_at (slice_index_or lows v []) place)
unit_from_lows n v place c lows v_in counted = units_from_lows v 0 v n place c lows (omega arith) v_in counted

-- a sum of products is one of rows of one number each
dot_rows : (cs : List ℤ) (xs : List ℕ) → dot cs xs ≡ from_lows cs (map (λ x. pos x ∷ []) xs) 0
dot_rows [] xs = refl
dot_rows (c ∷ cs) [] = refl
dot_rows (c ∷ cs) (x ∷ xs) = ap (λ z. (c *ℤ pos x) +ℤ z) (dot_rows cs xs)

length-rows : (xs : List ℕ) → length (map (λ x. pos x ∷ []) xs) ≡ length xs
length-rows [] = refl
length-rows (x ∷ xs) = ap suc (length-rows xs)

pub unit_dot : (v : ℕ) (c : ℤ) (xs : List ℕ) → v < length xs → dot (unit (length xs) v c) xs ≡ (c *ℤ pos (slice_index xs v))
unit_dot v c xs v_in =
    dot_rows (unit (length xs) v c) xs
    ∙ unit_from_lows (length xs) v 0 c (map (λ x. pos x ∷ []) xs) v_in (sym (length-rows xs))
    ∙ ap (λ (ts : List ℤ). c *ℤ number_at ts 0) (get_or-map (λ (x : ℕ). pos x ∷ []) xs v 0 [] v_in)

-- x - low is 0 at the low corner, and high - x is high - low there
pub low_value : (low : List ℕ) (rows : List Form) (v : ℕ) → v < length low →
    value_for_costs (member_form (length low) rows (Low v (slice_index low v))) low ≡ pos 0
low_value low rows v v_in =
    ap (λ z. neg_ℤ (pos (slice_index low v)) +ℤ z) (unit_dot v (pos 1) low v_in)
    ∙ ring (pos (slice_index low v) ∷ []) (neg (var 0) ⊕ num (pos 1) ⊗ var 0) (num (pos 0)) refl

pub high_value : (low : List ℕ) (rows : List Form) (v bound : ℕ) → v < length low →
    value_for_costs (member_form (length low) rows (High v bound)) low ≡ (pos bound -ℤ pos (slice_index low v))
high_value low rows v bound v_in =
    ap (λ z. pos bound +ℤ z) (unit_dot v (negsuc 0) low v_in)
    ∙ ring (pos bound ∷ pos (slice_index low v) ∷ []) (var 0 ⊕ num (negsuc 0) ⊗ var 1) (var 0 ⊖ var 1) refl

pub long_at : (n : ℕ) (lows : List (List ℤ)) (v : ℕ) → AllLong n lows → v < length lows → length (slice_index_or lows v []) ≡ n
long_at n lows v long v_in = all_from_each (λ (ts : List ℤ). length ts ≡ n) lows long v [] v_in

-- the numbers of x - low are those of its line
pub low_numbers : (D : ℕ) (low : List ℕ) (lows : List (List ℤ)) (rows : List Form) (v : ℕ) → length low ≡ length lows →
    AllLong (suc (length low)) lows → v < length low →
    numbers_of_form (length low) D low lows (member_form (length low) rows (Low v (slice_index low v)))
    ≡ slice_index_or lows v []
low_numbers D low lows rows v counted long v_in =
    let n = length low in
    let f = member_form n rows (Low v (slice_index low v)) in
    let ts = slice_index_or lows v [] in
    let own : (place : ℕ) → from_lows f.coefficients lows place ≡ number_at ts place =
    λ place. unit_from_lows n v place (pos 1) lows v_in counted ∙ ring (number_at ts place ∷ []) (num (pos 1) ⊗ var 0) (var 0) refl in
    map-numbers_from-agree (number_of_form D low lows f) (number_at ts) 0 (suc n) (λ place from place_in. here f ts (low_value low rows v v_in) own place)
    ∙ ap (λ m. map (number_at ts) (numbers_from 0 m)) (sym (long_at (suc n) lows v long (omega (arith, counted))))
    ∙ listed_at ts
  where
    here : (f : Form) (ts : List ℤ) → value_for_costs f low ≡ pos 0 →
        ((place : ℕ) → from_lows f.coefficients lows place ≡ number_at ts place) → (place : ℕ) →
        number_of_form D low lows f place ≡ number_at ts place
    here f ts none own zero =
        ap (λ z. (pos D *ℤ z) +ℤ from_lows f.coefficients lows 0) none
        ∙ ap (λ z. (pos D *ℤ pos 0) +ℤ z) (own 0)
        ∙ ring (pos D ∷ number_at ts 0 ∷ []) (var 0 ⊗ num (pos 0) ⊕ var 1) (var 1) refl
    here f ts none own (suc k) = own (suc k)
