-- A pivot keeps the columns' leads, and the column of constants rises.
use Rattle.std.proofs.Common.{◌≡◌, ℕ, suc, ◌*◌, ◌<◌, refl, sym, ◌∙◌, ap, List, [], ◌∷◌, length, arith}
use Rattle.std.specs.Prelude.{ℤ, pos, ◌+ℤ◌, ◌-ℤ◌, ◌*ℤ◌, neg_ℤ}
use Rattle.std.proofs.lemmas.Int.{ints}
use Rattle.whole_numbers.proofs.Ring.{var, ◌⊕◌, ◌⊖◌, ◌⊗◌, neg, ring}
use Rattle.design_problem.specs.Basis.{LeadsPositive}
use Rattle.fraction_table.specs.Pivots.{turned_column}
use Rattle.fraction_table.proofs.theory.Lex.{summed, scaled, weaker, scaled_leads, scaled_follows, sum_leads}

pub length-scaled : (k : ℕ) (zs : List ℤ) → length (scaled k zs) ≡ length zs
length-scaled k [] = refl
length-scaled k (z ∷ zs) = ap suc (length-scaled k zs)

opposite : (c v : ℤ) → (c +ℤ v) ≡ pos 0 → c ≡ neg_ℤ v
opposite c v h = omega (arith, ints)

-- where b isn't positive, that is a sum of multiples
turned_low : (a : ℕ) (xs : List ℤ) (u : ℕ) (b : ℤ) (ys : List ℤ) → (b +ℤ pos u) ≡ pos 0 → turned_column a xs b ys ≡ summed (scaled a xs) (scaled u ys)
turned_low a [] u b ys e = refl
turned_low a (x ∷ xs) u b [] e = refl
turned_low a (x ∷ xs) u b (y ∷ ys) e = cc (turned_low a xs u b ys e, first)
  where
    first : ((pos a *ℤ x) -ℤ (b *ℤ y)) ≡ ((pos a *ℤ x) +ℤ (pos u *ℤ y))
    first = rw (opposite b (pos u) e) (ring (pos a ∷ x ∷ pos u ∷ y ∷ []) ((var 0 ⊗ var 1) ⊖ (neg (var 2) ⊗ var 3)) ((var 0 ⊗ var 1) ⊕ (var 2 ⊗ var 3)) refl)

-- a column whose number in the pivot's form isn't positive keeps its lead
pub turned_leads : (a : ℕ) (xs : List ℤ) (u : ℕ) (b : ℤ) (ys : List ℤ) → 0 < a → (b +ℤ pos u) ≡ pos 0 →
    length xs ≡ length ys → LeadsPositive xs → LeadsPositive ys → LeadsPositive (turned_column a xs b ys)
turned_leads a xs u b ys a_positive e same x_leads y_leads =
    rw (turned_low a xs u b ys e)
    (sum_leads (scaled a xs) (scaled u ys) (length-scaled a xs ∙ same ∙ sym (length-scaled u ys))
    (scaled_leads a xs a_positive x_leads) (scaled_follows u ys (weaker ys y_leads)))

-- the new constants over D·a, less the old ones over D, times D·D·a
abbrev pub rise : ℕ → ℕ → List ℤ → List ℤ → List ℤ
rise D a [] olds = []
rise D a (new ∷ news) [] = []
rise D a (new ∷ news) (old ∷ olds) = ((pos D *ℤ new) -ℤ ((pos D *ℤ pos a) *ℤ old)) ∷ rise D a news olds

rise_is : (D a : ℕ) (olds : List ℤ) (u : ℕ) (b : ℤ) (ys : List ℤ) → (b +ℤ pos u) ≡ pos 0 → length olds ≡ length ys →
    rise D a (turned_column a olds b ys) olds ≡ scaled (D * u) ys
rise_is D a [] u b [] e same = refl
rise_is D a [] u b (y ∷ ys) e same = absurd (omega arith)
rise_is D a (x ∷ xs) u b [] e same = absurd (omega arith)
rise_is D a (x ∷ xs) u b (y ∷ ys) e same = cc (rise_is D a xs u b ys e (omega arith), first)
  where
    first : ((pos D *ℤ ((pos a *ℤ x) -ℤ (b *ℤ y))) -ℤ ((pos D *ℤ pos a) *ℤ x)) ≡ (pos (D * u) *ℤ y)
    first = rw (opposite b (pos u) e)
        (ring (pos D ∷ pos a ∷ x ∷ pos u ∷ y ∷ [])
        ((var 0 ⊗ ((var 1 ⊗ var 2) ⊖ (neg (var 3) ⊗ var 4))) ⊖ ((var 0 ⊗ var 1) ⊗ var 2))
        ((var 0 ⊗ var 3) ⊗ var 4) refl)

-- Where the pivot's form has a negative constant, the constants rise: their differences lead with a positive number.
pub constants_rise : (D a : ℕ) (olds : List ℤ) (u : ℕ) (b : ℤ) (ys : List ℤ) → 0 < D → 0 < u → (b +ℤ pos u) ≡ pos 0 →
    length olds ≡ length ys → LeadsPositive ys → LeadsPositive (rise D a (turned_column a olds b ys) olds)
constants_rise D a olds u b ys D_positive u_positive e same y_leads =
    rw (rise_is D a olds u b ys e same) (scaled_leads (D * u) ys (grind arith) y_leads)
