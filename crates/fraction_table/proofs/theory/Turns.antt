-- A pivot of a whole table: the numbers of every form turn as those of x - low do, and the forms of the new basis have
-- the common denominator at their own place and 0 elsewhere.
use Rattle.std.proofs.Common.{◌≡◌, ◌≢◌, ℕ, zero, suc, ◌*◌, ◌<◌, refl, ◌∙◌, ap, List, [], ◌∷◌, map, length, arith, get_or-set_same, get_or-set_other}
use Rattle.std.specs.Prelude.{ℤ, pos, ◌+ℤ◌, ◌-ℤ◌, ◌*ℤ◌}
use Rattle.whole_numbers.proofs.Ring.{var, num, ◌⊕◌, ◌⊖◌, ◌⊗◌, ring}
use Rattle.whole_numbers.specs.Lists.{number_at}
use Rattle.design_problem.specs.declared.form.Form.{Form}
use Rattle.design_problem.specs.Forms.{value_for_costs}
use Rattle.fraction_table.specs.ValidTables.{from_lows, number_of_form, AllLong}
use Rattle.fraction_table.proofs.theory.Pivot.{crossed, turned, length-crossed, crossed_at}

pub turned_other : (fs rs : List ℤ) (j D place : ℕ) → length fs ≡ length rs → place ≢ j → place < length fs →
    number_at (turned fs rs j D) place
    ≡ ((number_at fs place *ℤ number_at rs j) -ℤ (number_at fs j *ℤ number_at rs place))
turned_other fs rs j D place same other place_in =
    get_or-set_other (crossed (number_at rs j) (number_at fs j) fs rs) j place (number_at fs j *ℤ pos D) (pos 0) other
    ∙ crossed_at (number_at rs j) (number_at fs j) fs rs place same place_in

pub turned_same : (fs rs : List ℤ) (j D : ℕ) → length fs ≡ length rs → j < length fs → number_at (turned fs rs j D) j ≡ (number_at fs j *ℤ pos D)
turned_same fs rs j D same j_in =
    let counted = length-crossed (number_at rs j) (number_at fs j) fs rs same in
    get_or-set_same (crossed (number_at rs j) (number_at fs j) fs rs) j (number_at fs j *ℤ pos D) (pos 0) (omega arith)

-- the table of x - low after the pivot
abbrev pub turned_rows : List (List ℤ) → List ℤ → ℕ → ℕ → List (List ℤ)
turned_rows rows rs j D = map (λ ts. turned ts rs j D) rows

lows_other : (cs : List ℤ) (rows : List (List ℤ)) (rs : List ℤ) (j D place : ℕ) → AllLong (length rs) rows → place ≢ j →
    place < length rs → from_lows cs (turned_rows rows rs j D) place
    ≡ ((from_lows cs rows place *ℤ number_at rs j) -ℤ (from_lows cs rows j *ℤ number_at rs place))
lows_other [] rows rs j D place long other place_in =
    ring (number_at rs j ∷ number_at rs place ∷ []) (num (pos 0)) ((num (pos 0) ⊗ var 0) ⊖ (num (pos 0) ⊗ var 1)) refl
lows_other (c ∷ cs) [] rs j D place long other place_in =
    ring (number_at rs j ∷ number_at rs place ∷ []) (num (pos 0)) ((num (pos 0) ⊗ var 0) ⊖ (num (pos 0) ⊗ var 1)) refl
lows_other (c ∷ cs) (ts ∷ rows) rs j D place long other place_in =
    ap (λ z. (c *ℤ z) +ℤ from_lows cs (turned_rows rows rs j D) place) (turned_other ts rs j D place long.0 other (omega (arith, long.0)))
    ∙ ap (λ z. (c *ℤ ((number_at ts place *ℤ number_at rs j) -ℤ (number_at ts j *ℤ number_at rs place))) +ℤ z)
    (lows_other cs rows rs j D place long.1 other place_in)
    ∙ ring (c ∷ number_at ts place ∷ number_at rs j ∷ number_at ts j ∷ number_at rs place ∷ from_lows cs rows place ∷ from_lows cs rows j ∷ [])
    (var 0 ⊗ ((var 1 ⊗ var 2) ⊖ (var 3 ⊗ var 4)) ⊕ ((var 5 ⊗ var 2) ⊖ (var 6 ⊗ var 4)))
    (((var 0 ⊗ var 1 ⊕ var 5) ⊗ var 2) ⊖ ((var 0 ⊗ var 3 ⊕ var 6) ⊗ var 4)) refl

lows_same : (cs : List ℤ) (rows : List (List ℤ)) (rs : List ℤ) (j D : ℕ) → AllLong (length rs) rows → j < length rs →
    from_lows cs (turned_rows rows rs j D) j ≡ (from_lows cs rows j *ℤ pos D)
lows_same [] rows rs j D long j_in = ring (pos D ∷ []) (num (pos 0)) (num (pos 0) ⊗ var 0) refl
lows_same (c ∷ cs) [] rs j D long j_in = ring (pos D ∷ []) (num (pos 0)) (num (pos 0) ⊗ var 0) refl
lows_same (c ∷ cs) (ts ∷ rows) rs j D long j_in =
    ap (λ z. (c *ℤ z) +ℤ from_lows cs (turned_rows rows rs j D) j) (turned_same ts rs j D long.0 (omega (arith, long.0)))
    ∙ ap (λ z. (c *ℤ (number_at ts j *ℤ pos D)) +ℤ z) (lows_same cs rows rs j D long.1 j_in)
    ∙ ring (c ∷ number_at ts j ∷ pos D ∷ from_lows cs rows j ∷ []) (var 0 ⊗ (var 1 ⊗ var 2) ⊕ (var 3 ⊗ var 2)) ((var 0 ⊗ var 1 ⊕ var 3) ⊗ var 2) refl

-- the numbers of any form after the pivot on the column j + 1 with the number a there
pub number_other : (D a : ℕ) (low : List ℕ) (rows : List (List ℤ)) (f : Form) (rs : List ℤ) (j place : ℕ) →
    AllLong (length rs) rows → number_at rs (suc j) ≡ pos a → place ≢ suc j → place < length rs →
    number_of_form (D * a) low (turned_rows rows rs (suc j) D) f place
    ≡ ((number_of_form D low rows f place *ℤ pos a) -ℤ (number_of_form D low rows f (suc j) *ℤ number_at rs place))
number_other D a low rows f rs j zero long at_j other place_in =
    ap (λ z. (pos (D * a) *ℤ value_for_costs f low) +ℤ z) (lows_other f.coefficients rows rs (suc j) D zero long other place_in)
    ∙ ap (λ z. (pos (D * a) *ℤ value_for_costs f low) +ℤ ((from_lows f.coefficients rows 0 *ℤ z) -ℤ (from_lows f.coefficients rows (suc j) *ℤ number_at rs 0)))
    at_j
    ∙ ring (pos D ∷ pos a ∷ value_for_costs f low ∷ from_lows f.coefficients rows 0 ∷ from_lows f.coefficients rows (suc j) ∷ number_at rs 0 ∷ [])
    ((var 0 ⊗ var 1) ⊗ var 2 ⊕ ((var 3 ⊗ var 1) ⊖ (var 4 ⊗ var 5)))
    (((var 0 ⊗ var 2 ⊕ var 3) ⊗ var 1) ⊖ (var 4 ⊗ var 5)) refl
number_other D a low rows f rs j (suc k) long at_j other place_in =
    lows_other f.coefficients rows rs (suc j) D (suc k) long other place_in
    ∙ ap (λ z. (from_lows f.coefficients rows (suc k) *ℤ z) -ℤ (from_lows f.coefficients rows (suc j) *ℤ number_at rs (suc k))) at_j

pub number_same : (D a : ℕ) (low : List ℕ) (rows : List (List ℤ)) (f : Form) (rs : List ℤ) (j : ℕ) →
    AllLong (length rs) rows → suc j < length rs → number_of_form (D * a) low (turned_rows rows rs (suc j) D) f (suc j)
    ≡ (number_of_form D low rows f (suc j) *ℤ pos D)
number_same D a low rows f rs j long j_in = lows_same f.coefficients rows rs (suc j) D long j_in

-- a form with 0 at the pivot's column keeps its entries: its numbers are multiplied by a, as D is
pub stays : (D a : ℕ) (low : List ℕ) (rows : List (List ℤ)) (f : Form) (rs : List ℤ) (j place : ℕ) →
    AllLong (length rs) rows → number_at rs (suc j) ≡ pos a → place ≢ suc j → place < length rs →
    number_of_form D low rows f (suc j) ≡ pos 0 → number_of_form (D * a) low (turned_rows rows rs (suc j) D) f place
    ≡ (number_of_form D low rows f place *ℤ pos a)
stays D a low rows f rs j place long at_j other place_in none =
    number_other D a low rows f rs j place long at_j other place_in
    ∙ ap (λ z. (number_of_form D low rows f place *ℤ pos a) -ℤ (z *ℤ number_at rs place)) none
    ∙ ring (number_of_form D low rows f place ∷ pos a ∷ number_at rs place ∷ []) ((var 0 ⊗ var 1) ⊖ (num (pos 0) ⊗ var 2)) (var 0 ⊗ var 1) refl

-- the pivot's form has 0 at every other place, and the new denominator at its own
pub enters : (D a : ℕ) (low : List ℕ) (rows : List (List ℤ)) (r : Form) (rs : List ℤ) (j place : ℕ) →
    AllLong (length rs) rows → number_at rs (suc j) ≡ pos a →
    ((i : ℕ) → i < length rs → number_of_form D low rows r i ≡ number_at rs i) → place ≢ suc j → place < length rs →
    suc j < length rs → number_of_form (D * a) low (turned_rows rows rs (suc j) D) r place ≡ pos 0
enters D a low rows r rs j place long at_j is other place_in j_in =
    number_other D a low rows r rs j place long at_j other place_in
    ∙ ap (λ z. (z *ℤ pos a) -ℤ (number_of_form D low rows r (suc j) *ℤ number_at rs place)) (is place place_in)
    ∙ ap (λ z. (number_at rs place *ℤ pos a) -ℤ (z *ℤ number_at rs place)) (is (suc j) j_in ∙ at_j)
    ∙ ring (number_at rs place ∷ pos a ∷ []) ((var 0 ⊗ var 1) ⊖ (var 1 ⊗ var 0)) (num (pos 0)) refl
