-- A whole table: one common denominator D, and for each x - low its numbers. A form's numbers are the sums of those,
-- each times the form's coefficient. Column 0 is then the form's value at the corner.
use Rattle.std.proofs.Common.{◌≡◌, ℕ, suc, ◌*◌, ◌<◌, refl, ◌∙◌, ap, List, [], ◌∷◌, map, length, drop}
use Rattle.std.specs.Prelude.{ℤ, pos, ◌+ℤ◌, ◌-ℤ◌, ◌*ℤ◌}
use Rattle.whole_numbers.proofs.Ring.{var, num, ◌⊕◌, ◌⊖◌, ◌⊗◌, neg, ring, ring_by, nothing, using}
use Rattle.whole_numbers.specs.Lists.{number_at}
use Rattle.design_problem.specs.declared.form.Form.{Form}
use Rattle.design_problem.specs.Forms.{dot, value_at}
use Rattle.design_problem.specs.Basis.{LeadsPositive}
use Rattle.design_problem.specs.Earnest.{LexLess}
use Rattle.fraction_table.specs.ValidTables.{from_lows, number_of_form}
use Rattle.fraction_table.proofs.theory.Corner.{row_sum, differences, less_leads, columns_follow, rest_columns}

-- the values of the corner, times D
abbrev pub IsCorner : ℕ → List ℕ → List (List ℤ) → List ℕ → Type 0
IsCorner D [] [] [] = Unit {0}
IsCorner D (l ∷ low) (ts ∷ rows) (x ∷ xs) = (pos x ≡ ((pos l *ℤ pos D) +ℤ number_at ts 0)) × IsCorner D low rows xs
IsCorner D _ _ _ = ⊥

dot-corner : (D : ℕ) (cs : List ℤ) (low : List ℕ) (rows : List (List ℤ)) (xs : List ℕ) → IsCorner D low rows xs →
    dot cs xs ≡ ((pos D *ℤ dot cs low) +ℤ from_lows cs rows 0)
dot-corner D [] low rows xs corner = ring (pos D ∷ []) (num (pos 0)) (var 0 ⊗ num (pos 0) ⊕ num (pos 0)) refl
dot-corner D (c ∷ cs) [] [] [] corner = ring (pos D ∷ []) (num (pos 0)) (var 0 ⊗ num (pos 0) ⊕ num (pos 0)) refl
dot-corner D (c ∷ cs) (l ∷ low) (ts ∷ rows) (x ∷ xs) corner =
    ap (λ z. (c *ℤ pos x) +ℤ z) (dot-corner D cs low rows xs corner.1)
    ∙ ring_by (c ∷ pos x ∷ pos l ∷ pos D ∷ number_at ts 0 ∷ dot cs low ∷ from_lows cs rows 0 ∷ [])
    (var 0 ⊗ var 1 ⊕ (var 3 ⊗ var 5 ⊕ var 6)) (var 3 ⊗ (var 0 ⊗ var 2 ⊕ var 5) ⊕ (var 0 ⊗ var 4 ⊕ var 6))
    (using (var 0) (var 1) (var 2 ⊗ var 3 ⊕ var 4) corner.0 nothing) refl
dot-corner D (c ∷ cs) [] [] (x ∷ xs) corner = absurd corner
dot-corner D (c ∷ cs) [] (ts ∷ rows) xs corner = absurd corner
dot-corner D (c ∷ cs) (l ∷ low) [] xs corner = absurd corner
dot-corner D (c ∷ cs) (l ∷ low) (ts ∷ rows) [] corner = absurd corner

-- a form's number at place 0 is its value at the corner
pub corner_value : (D : ℕ) (low : List ℕ) (rows : List (List ℤ)) (xs : List ℕ) (f : Form) → IsCorner D low rows xs →
    value_at f (record { scale = D; values = xs }) ≡ number_of_form D low rows f 0
corner_value D low rows xs f corner =
    ap (λ z. (f.constant *ℤ pos D) +ℤ z) (dot-corner D f.coefficients low rows xs corner)
    ∙ ring (f.constant ∷ pos D ∷ dot f.coefficients low ∷ from_lows f.coefficients rows 0 ∷ [])
    (var 0 ⊗ var 1 ⊕ (var 1 ⊗ var 2 ⊕ var 3)) (var 1 ⊗ (var 0 ⊕ var 2) ⊕ var 3) refl

-- The equations of x - low at a point of scale e at which the forms of the basis have the values us.
abbrev pub Resolves : ℕ → ℕ → List ℕ → List ℕ → List (List ℤ) → List ℕ → Type 0
Resolves D e us [] [] [] = Unit {0}
Resolves D e us (l ∷ low) (ts ∷ rows) (y ∷ ys) =
    ((pos D *ℤ (pos y -ℤ (pos l *ℤ pos e))) ≡ ((number_at ts 0 *ℤ pos e) +ℤ row_sum (drop 1 ts) us)) × Resolves D e us low rows ys
Resolves D e us _ _ _ = ⊥

from_corner : (D e : ℕ) (us low : List ℕ) (rows : List (List ℤ)) (xs ys : List ℕ) → IsCorner D low rows xs →
    Resolves D e us low rows ys → differences (map (λ y. y * D) ys) (map (λ x. x * e) xs)
    ≡ map (λ ts. row_sum ts us) (map (drop 1) rows)
from_corner D e us [] [] [] [] corner resolves = refl
from_corner D e us (l ∷ low) (ts ∷ rows) (x ∷ xs) (y ∷ ys) corner resolves =
    cc (from_corner D e us low rows xs ys corner.1 resolves.1, first)
  where
    first : (pos (y * D) -ℤ pos (x * e)) ≡ row_sum (drop 1 ts) us
    first =
        ring_by (pos D ∷ pos e ∷ pos l ∷ pos x ∷ pos y ∷ number_at ts 0 ∷ row_sum (drop 1 ts) us ∷ [])
        ((var 4 ⊗ var 0) ⊖ (var 3 ⊗ var 1)) (var 6)
        (using (num (pos 1)) (var 0 ⊗ (var 4 ⊖ (var 2 ⊗ var 1))) ((var 5 ⊗ var 1) ⊕ var 6) resolves.0
        (using (neg (var 1)) (var 3) ((var 2 ⊗ var 0) ⊕ var 5) corner.0 nothing)) refl
from_corner D e us [] [] [] (y ∷ ys) corner resolves = absurd resolves
from_corner D e us [] [] (x ∷ xs) ys corner resolves = absurd corner
from_corner D e us [] (ts ∷ rows) xs ys corner resolves = absurd corner
from_corner D e us (l ∷ low) [] xs ys corner resolves = absurd corner
from_corner D e us (l ∷ low) (ts ∷ rows) [] ys corner resolves = absurd corner
from_corner D e us (l ∷ low) (ts ∷ rows) (x ∷ xs) [] corner resolves = absurd resolves

-- Where each column leads with a positive number, no point at which the forms of the basis aren't negative comes before
-- the corner.
pub corner_least : (D e : ℕ) (us low : List ℕ) (rows : List (List ℤ)) (xs ys : List ℕ) → IsCorner D low rows xs →
    Resolves D e us low rows ys → ((k : ℕ) → k < length us → LeadsPositive (map (λ ts. number_at ts (suc k)) rows)) →
    LexLess (map (λ y. y * D) ys) (map (λ x. x * e) xs) → ⊥
corner_least D e us low rows xs ys corner resolves lead before =
    less_leads (map (λ y. y * D) ys) (map (λ x. x * e) xs) before
    (rw (from_corner D e us low rows xs ys corner resolves)
    (columns_follow (map (drop 1) rows) us (λ k k_in. rw (rest_columns rows k) (lead k k_in))))
