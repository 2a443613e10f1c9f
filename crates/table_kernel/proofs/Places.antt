-- The constants of all forms of a box and of rows, told by their places.
use Rattle.std.proofs.Common.{◌≡◌, ℕ, ◌+◌, ◌-◌, ◌<◌, [], ◌∷◌, map, refl, inl, inr, sym, ◌∙◌, ap, subst, List, length, arith, get_or-set_same, get_or-set_other}
use Rattle.std.specs.Prelude.{◌⊎◌, ℤ, pos, negsuc, ◌+ℤ◌, ◌-ℤ◌, ◌*ℤ◌, slice_index, slice_index_or, slice_set}
use Rattle.std.proofs.lemmas.Bool.{cases_eq, cases_lt}
use Rattle.whole_numbers.proofs.Ring.{var, num, ◌⊕◌, ◌⊖◌, ◌⊗◌, ring}
use Rattle.whole_numbers.specs.Lists.{number_at}
use Rattle.design_problem.specs.declared.form.Form.{Form}
use Rattle.design_problem.specs.declared.boxes.CostBox.{CostBox}
use Rattle.design_problem.specs.declared.tree.Member.{Member}
use Rattle.design_problem.specs.declared.tree.Member.TheVariants.{High, Low}
use Rattle.design_problem.specs.Forms.{no_form, value_for_costs}
use Rattle.design_problem.specs.Basis.{member_form}
use Rattle.fraction_table.specs.ValidTables.{members_of_box, number_of_form}
use Rattle.fraction_table.proofs.Bases.{members_begin}
use Rattle.fraction_table.proofs.Pivots.{high_place, row_place}
use Rattle.fraction_table.proofs.theory.Units.{high_value, low_value}
use Rattle.integer_pivots.specs.Numbers.{product_sum}
use Rattle.integer_pivots.proofs.WrittenPlaces.{written_more}
use Rattle.table_kernel.specs.Constants.{AreConstants}
use Rattle.table_kernel.proofs.Columns.{from_lows_at, unit_sum}

-- places are those of x - low, of high - x, or of rows
pub place_cases : (n r i : ℕ) → i < n + n + r → (i < n) ⊎ ((j : ℕ) × (j < n) × (n + j ≡ i)) ⊎ ((j : ℕ) × (j < r) × (n + n + j ≡ i))
place_cases n r i i_in =
    elim (cases_lt i n) [
      | inl low ↦ inl low
      | inr past ↦ elim (cases_lt i (n + n)) [
        | inl high ↦ inr (inl (i - n, omega (arith, past, high), omega (arith, past)))
        | inr late ↦ inr (inr (i - (n + n), omega (arith, past, late, i_in), omega (arith, late)))
      ]
    ]

-- the constants of the forms of a variable and of a row, by those of x - low, which zs has
module _ (costs : CostBox) (rows : List Form) (D : ℕ) (lows : List (List ℤ)) (zs : List ℤ) (zs_are : zs ≡ map (λ ts. number_at ts 0) lows)
    (zs_long : length zs ≡ length costs.low) where
  total_is : (f : Form) → number_of_form D costs.low lows f 0 ≡ ((pos D *ℤ value_for_costs f costs.low) +ℤ product_sum f.coefficients zs)
  total_is f =
      ap (λ z. (pos D *ℤ value_for_costs f costs.low) +ℤ z) (from_lows_at f.coefficients lows 0 ∙ ap (product_sum f.coefficients) (sym zs_are))

  pub low_total : (v : ℕ) → v < length costs.low → number_of_form D costs.low lows (member_form (length costs.low) rows (Low v (slice_index costs.low v))) 0 ≡
      number_at zs v
  low_total v v_in =
      total_is (member_form (length costs.low) rows (Low v (slice_index costs.low v)))
      ∙ ap (λ z. (pos D *ℤ z) +ℤ product_sum (member_form (length costs.low) rows (Low v (slice_index costs.low v))).coefficients zs)
      (low_value costs.low rows v v_in)
      ∙ ap (λ z. (pos D *ℤ pos 0) +ℤ z) (unit_sum (length costs.low) v (pos 1) zs v_in (sym zs_long))
      ∙ ring (pos D ∷ number_at zs v ∷ []) ((var 0 ⊗ num (pos 0)) ⊕ num (pos 1) ⊗ var 1) (var 1) refl

  pub high_total : (v : ℕ) → v < length costs.low → number_of_form D costs.low lows (member_form (length costs.low) rows (High v (slice_index costs.high v))) 0
      ≡ ((pos D *ℤ (pos (slice_index costs.high v) -ℤ pos (slice_index costs.low v))) -ℤ number_at zs v)
  high_total v v_in =
      total_is (member_form (length costs.low) rows (High v (slice_index costs.high v)))
      ∙ ap (λ z. (pos D *ℤ z) +ℤ product_sum (member_form (length costs.low) rows (High v (slice_index costs.high v))).coefficients zs)
      (high_value costs.low rows v (slice_index costs.high v) v_in)
      ∙ ap (λ z. (pos D *ℤ (pos (slice_index costs.high v) -ℤ pos (slice_index costs.low v))) +ℤ z)
      (unit_sum (length costs.low) v (negsuc 0) zs v_in (sym zs_long))
      ∙ ring (pos D ∷ (pos (slice_index costs.high v) -ℤ pos (slice_index costs.low v)) ∷ number_at zs v ∷ [])
      ((var 0 ⊗ var 1) ⊕ num (negsuc 0) ⊗ var 2) ((var 0 ⊗ var 1) ⊖ var 2) refl

  -- constants that are these at their places
  pub constants_are : (new : List ℤ) → length new ≡ length costs.low + length costs.low + length rows →
      ((v : ℕ) → v < length costs.low → number_at new v ≡ number_at zs v) →
      ((v : ℕ) → v < length costs.low → number_at new (length costs.low + v)
      ≡ ((pos D *ℤ (pos (slice_index costs.high v) -ℤ pos (slice_index costs.low v))) -ℤ number_at zs v)) →
      ((row : ℕ) → row < length rows → number_at new (length costs.low + length costs.low + row)
      ≡ ((pos D *ℤ value_for_costs (slice_index_or rows row no_form) costs.low) +ℤ product_sum (slice_index_or rows row no_form).coefficients zs)) →
      AreConstants costs rows D lows new
  constants_are new long low high row_is place place_in =
      let n = length costs.low in
      let many = length rows in
      let members = members_of_box costs many in
      let at : Member → ℤ = λ member. number_of_form D costs.low lows (member_form n rows member) 0 in
      elim (place_cases n many place (omega (arith, place_in, long))) [
        | inl first ↦ low place first ∙ sym (low_total place first) ∙ ap at (sym (members_begin costs many place (Low 0 0) first))
        | inr (inl second) ↦
            ap (number_at new) (sym second.2)
            ∙ high second.0 second.1
            ∙ sym (high_total second.0 second.1)
            ∙ ap at (sym (high_place costs many second.0 (Low 0 0) second.1))
            ∙ ap (λ (p : ℕ). at (slice_index_or members p (Low 0 0))) second.2
        | inr (inr third) ↦
            ap (number_at new) (sym third.2)
            ∙ row_is third.0 third.1
            ∙ sym (total_is (slice_index_or rows third.0 no_form))
            ∙ ap at (sym (row_place costs many third.0 (Low 0 0) third.1))
            ∙ ap (λ (p : ℕ). at (slice_index_or members p (Low 0 0))) third.2
      ]

-- what is written at places behind n so far, and one more
pub behind_more : (P : ℕ → ℤ → Type 0) (n i : ℕ) (xs : List ℤ) (x : ℤ) → n + i < length xs →
    ((v : ℕ) → v < i → P v (number_at xs (n + v))) → P i x → (v : ℕ) → v < i + 1 → P v (number_at (slice_set xs (n + i) x) (n + v))
behind_more P n i xs x inside before here v v_in =
    elim (cases_eq v i) [
      | inl same ↦
          subst (λ (k : ℕ). P k (number_at (slice_set xs (n + i) x) (n + k))) (sym same)
          (subst (P i) (sym (get_or-set_same xs (n + i) x (pos 0) inside)) here)
      | inr other ↦
          subst (P v) (sym (get_or-set_other xs (n + i) (n + v) x (pos 0) (λ same. other (omega (arith, same)))))
          (before v (omega (arith, v_in, other)))
    ]

-- the first places, once one more is written there and one behind n
pub first_more : (P : ℕ → ℤ → Type 0) (n i : ℕ) (xs : List ℤ) (x y : ℤ) → i < n → n + i < length xs →
    ((v : ℕ) → v < i → P v (number_at xs v)) → P i x → (v : ℕ) → v < i + 1 →
    P v (number_at (slice_set (slice_set xs i x) (n + i) y) v)
first_more P n i xs x y i_in inside before here v v_in =
    subst (P v) (sym (get_or-set_other (slice_set xs i x) (n + i) v y (pos 0) (λ same. omega (arith, same, v_in, i_in))))
    (written_more P (pos 0) xs i x (omega (arith, i_in, inside)) before here v v_in)

-- and those behind n
pub second_more : (P : ℕ → ℤ → Type 0) (n i : ℕ) (xs : List ℤ) (x y : ℤ) → i < n → n + i < length (slice_set xs i x) →
    ((v : ℕ) → v < i → P v (number_at xs (n + v))) → P i y → (v : ℕ) → v < i + 1 →
    P v (number_at (slice_set (slice_set xs i x) (n + i) y) (n + v))
second_more P n i xs x y i_in inside before here =
    behind_more P n i (slice_set xs i x) y inside
    (λ v v_in. subst (P v) (sym (get_or-set_other xs i (n + v) x (pos 0) (λ same. omega (arith, same, i_in)))) (before v v_in)) here
