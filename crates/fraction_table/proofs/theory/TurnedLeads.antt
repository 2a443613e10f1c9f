-- The columns of x - low lead positive after a pivot whose column was chosen as the least.
use Rattle.std.proofs.Common.{◌≡◌, ◌≢◌, ℕ, zero, suc, ◌*◌, ◌<◌, ◌⊎◌, refl, sym, ◌∙◌, ap, subst, List, [], ◌∷◌, length, arith, inl, inr}
use Rattle.std.specs.Prelude.{ℤ, pos, negsuc, ◌+ℤ◌, ◌-ℤ◌, ◌*ℤ◌, ◌<ℤ◌}
use Rattle.std.specs.List.{AllByRecursion}
use Rattle.std.proofs.Math.Nat.{suc_inj}
use Rattle.std.proofs.lemmas.Bool.{cases_eq}
use Rattle.std.proofs.lemmas.Int.{ints}
use Rattle.whole_numbers.proofs.Ring.{var, num, ◌⊕◌, ◌⊖◌, ◌⊗◌, ring, ring_by, using, nothing}
use Rattle.whole_numbers.specs.Lists.{number_at}
use Rattle.design_problem.specs.Basis.{LeadsPositive}
use Rattle.fraction_table.specs.ValidTables.{AllLong, from_lows}
use Rattle.fraction_table.specs.Pivots.{LeadsNoNegative, turned_column, numbers_in_column, IsLeastColumn}
use Rattle.fraction_table.proofs.theory.Lex.{scaled, scaled_leads}
use Rattle.fraction_table.proofs.theory.Rise.{turned_leads}
use Rattle.fraction_table.proofs.theory.Pivot.{turned}
use Rattle.fraction_table.proofs.theory.Turns.{turned_rows, turned_other, turned_same}

pub column_other : (a D : ℕ) (lows : List (List ℤ)) (rs : List ℤ) (j place : ℕ) → AllLong (length rs) lows →
    number_at rs j ≡ pos a → place ≢ j → place < length rs →
    numbers_in_column place (turned_rows lows rs j D) ≡ turned_column a (numbers_in_column place lows) (number_at rs place)
    (numbers_in_column j lows)
column_other a D [] rs j place long at_j other place_in = refl
column_other a D (ts ∷ lows) rs j place long at_j other place_in =
    cc (first, column_other a D lows rs j place long.1 at_j other place_in)
  where
    first : number_at (turned ts rs j D) place ≡ ((pos a *ℤ number_at ts place) -ℤ (number_at rs place *ℤ number_at ts j))
    first =
        turned_other ts rs j D place long.0 other (omega (arith, long.0))
        ∙ ap (λ z. (number_at ts place *ℤ z) -ℤ (number_at ts j *ℤ number_at rs place)) at_j
        ∙ ring (number_at ts place ∷ pos a ∷ number_at ts j ∷ number_at rs place ∷ [])
        ((var 0 ⊗ var 1) ⊖ (var 2 ⊗ var 3)) ((var 1 ⊗ var 0) ⊖ (var 3 ⊗ var 2)) refl

column_same : (D : ℕ) (lows : List (List ℤ)) (rs : List ℤ) (j : ℕ) → AllLong (length rs) lows → j < length rs →
    numbers_in_column j (turned_rows lows rs j D) ≡ scaled D (numbers_in_column j lows)
column_same D [] rs j long j_in = refl
column_same D (ts ∷ lows) rs j long j_in =
    cc (first, column_same D lows rs j long.1 j_in)
  where
    first : number_at (turned ts rs j D) j ≡ (pos D *ℤ number_at ts j)
    first =
        turned_same ts rs j D long.0 (omega (arith, long.0))
        ∙ ring (number_at ts j ∷ pos D ∷ []) (var 0 ⊗ var 1) (var 1 ⊗ var 0) refl

abbrev AllZero : List ℤ → Type 0
AllZero zs = AllByRecursion (λ z. z ≡ pos 0) zs

leads_or_zero : (zs : List ℤ) → LeadsNoNegative zs → LeadsPositive zs ⊎ AllZero zs
leads_or_zero [] leads = inr tt
leads_or_zero (pos zero ∷ zs) leads =
    elim (leads_or_zero zs leads) [
      | inl positive ↦ inl positive
      | inr zeros ↦ inr (refl, zeros)
    ]
leads_or_zero (pos (suc n) ∷ zs) leads = inl tt
leads_or_zero (negsuc n ∷ zs) leads = absurd leads

-- columns that are multiples of one another are so in every form
multiples_from_lows : (a : ℕ) (b : ℤ) (k j : ℕ) (cs : List ℤ) (lows : List (List ℤ)) →
    AllZero (turned_column a (numbers_in_column k lows) b (numbers_in_column j lows)) →
    (pos a *ℤ from_lows cs lows k) ≡ (b *ℤ from_lows cs lows j)
multiples_from_lows a b k j [] lows zeros = ring (pos a ∷ b ∷ []) (var 0 ⊗ num (pos 0)) (var 1 ⊗ num (pos 0)) refl
multiples_from_lows a b k j (c ∷ cs) [] zeros = ring (pos a ∷ b ∷ []) (var 0 ⊗ num (pos 0)) (var 1 ⊗ num (pos 0)) refl
multiples_from_lows a b k j (c ∷ cs) (ts ∷ lows) zeros =
    ring_by (pos a ∷ b ∷ c ∷ number_at ts k ∷ number_at ts j ∷ from_lows cs lows k ∷ from_lows cs lows j ∷ [])
    (var 0 ⊗ (var 2 ⊗ var 3 ⊕ var 5)) (var 1 ⊗ (var 2 ⊗ var 4 ⊕ var 6))
    (using (var 2) ((var 0 ⊗ var 3) ⊖ (var 1 ⊗ var 4)) (num (pos 0)) zeros.0
    (using (num (pos 1)) (var 0 ⊗ var 5) (var 1 ⊗ var 6) (multiples_from_lows a b k j cs lows zeros.1) nothing)) refl

positive_product : (b : ℤ) (D : ℕ) → pos 0 <ℤ b → 0 < D → (b *ℤ pos D) ≡ pos 0 → ⊥
positive_product (pos zero) D b_positive D_positive h = absurd (omega (arith, ints))
positive_product (pos (suc n)) D b_positive D_positive h =
    let product : 0 < suc n * D = grind arith in
    absurd (omega (arith, ints))
positive_product (negsuc n) D b_positive D_positive h = absurd (omega (arith, ints))

-- A form that has D at the one column and 0 at the other tells the two apart, so the least column is less.
pub least_leads : (a D : ℕ) (b : ℤ) (k j : ℕ) (cs : List ℤ) (lows : List (List ℤ)) → 0 < D → pos 0 <ℤ b →
    from_lows cs lows j ≡ pos D → from_lows cs lows k ≡ pos 0 →
    LeadsNoNegative (turned_column a (numbers_in_column k lows) b (numbers_in_column j lows)) →
    LeadsPositive (turned_column a (numbers_in_column k lows) b (numbers_in_column j lows))
least_leads a D b k j cs lows D_positive b_positive at_j at_k leads =
    elim (leads_or_zero (turned_column a (numbers_in_column k lows) b (numbers_in_column j lows)) leads) [
      | inl positive ↦ positive
      | inr zeros ↦
          absurd (positive_product b D b_positive D_positive
          (ap (λ z. b *ℤ z) (sym at_j) ∙ sym (multiples_from_lows a b k j cs lows zeros) ∙ ap (λ z. pos a *ℤ z) at_k ∙ lib.IntN.*ℤ-zero (pos a)))
    ]

pub length-numbers_in : (place : ℕ) (lows : List (List ℤ)) → (other : ℕ) → length (numbers_in_column place lows) ≡ length (numbers_in_column other lows)
length-numbers_in place [] other = refl
length-numbers_in place (ts ∷ lows) other = ap suc (length-numbers_in place lows other)

by_sign : (b : ℤ) (P : Type 0) → ((u : ℕ) → (b +ℤ pos u) ≡ pos 0 → P) → (pos 0 <ℤ b → P) → P
by_sign (pos zero) P low high = low 0 refl
by_sign (pos (suc n)) P low high = high (omega (arith, ints))
by_sign (negsuc n) P low high = low (suc n) (omega (arith, ints))

-- each column leads positive after the pivot
pub leads_turned : (n a D : ℕ) (lows : List (List ℤ)) (rs cs : List ℤ) (j : ℕ) → length rs ≡ suc n →
    AllLong (length rs) lows → number_at rs (suc j) ≡ pos a → 0 < a → 0 < D → j < n →
    from_lows cs lows (suc j) ≡ pos D → ((k : ℕ) → k < n → k ≢ j → from_lows cs lows (suc k) ≡ pos 0) →
    IsLeastColumn n lows rs j → ((k : ℕ) → k < n → LeadsPositive (numbers_in_column (suc k) lows)) → (k : ℕ) → k < n →
    LeadsPositive (numbers_in_column (suc k) (turned_rows lows rs (suc j) D))
leads_turned n a D lows rs cs j counted long at_j a_positive D_positive j_in own elsewhere least lead k k_in =
    elim (cases_eq k j) [
      | inl same ↦
          subst (λ (i : ℕ). LeadsPositive (numbers_in_column (suc i) (turned_rows lows rs (suc j) D))) (sym same)
          (subst LeadsPositive (sym (column_same D lows rs (suc j) long (omega (arith, counted))))
          (scaled_leads D (numbers_in_column (suc j) lows) D_positive (lead j j_in)))
      | inr other ↦
          subst LeadsPositive (sym (column_other a D lows rs (suc j) (suc k) long at_j (λ h. other (suc_inj h)) (omega (arith, counted))))
          (by_sign (number_at rs (suc k)) (LeadsPositive (turned_column a (numbers_in_column (suc k) lows) (number_at rs (suc k))
          (numbers_in_column (suc j) lows)))
          (λ u low. turned_leads a (numbers_in_column (suc k) lows) u (number_at rs (suc k)) (numbers_in_column (suc j) lows)
          a_positive low (length-numbers_in (suc k) lows (suc j)) (lead k k_in) (lead j j_in))
          (λ high. least_leads a D (number_at rs (suc k)) (suc k) (suc j) cs lows D_positive high own
          (elsewhere k k_in other) (least k k_in other a at_j high)))
    ]
