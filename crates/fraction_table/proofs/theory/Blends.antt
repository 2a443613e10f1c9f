-- Where the forms x - low are mixtures of a basis by their numbers, every form is one by the sums of these.
use Rattle.std.proofs.Common.{◌≡◌, ℕ, zero, suc, ◌+◌, refl, sym, ◌∙◌, ap, List, [], ◌∷◌, map, length, arith}
use Rattle.std.specs.Prelude.{ℤ, pos, ◌+ℤ◌, ◌*ℤ◌}
use Rattle.cost_base.specs.Lists.{numbers_from}
use Rattle.whole_numbers.proofs.Ring.{var, num, ◌⊕◌, ◌⊗◌, ring, ring_by, nothing, using}
use Rattle.whole_numbers.specs.Lists.{number_at}
use Rattle.design_problem.specs.declared.form.Form.{Form}
use Rattle.design_problem.specs.Forms.{value_for_costs}
use Rattle.design_problem.specs.Basis.{coordinate, mixture, one_form, IsMixture}
use Rattle.fraction_table.specs.ValidTables.{from_lows, number_of_form, numbers_of_form, AllLong, AreMixtures}

-- the mixture by sums is the sum of the mixtures
mixture_blend : (c : ℤ) (g h : ℕ → ℤ) (a m : ℕ) (vs : List Form) (i : ℕ) →
    mixture (map (λ p. (c *ℤ g p) +ℤ h p) (numbers_from a m)) vs i
    ≡ ((c *ℤ mixture (map g (numbers_from a m)) vs i) +ℤ mixture (map h (numbers_from a m)) vs i)
mixture_blend c g h a zero vs i = ring (c ∷ []) (num (pos 0)) (var 0 ⊗ num (pos 0) ⊕ num (pos 0)) refl
mixture_blend c g h a (suc m) [] i = ring (c ∷ []) (num (pos 0)) (var 0 ⊗ num (pos 0) ⊕ num (pos 0)) refl
mixture_blend c g h a (suc m) (v ∷ vs) i =
    ap (λ z. (((c *ℤ g a) +ℤ h a) *ℤ coordinate v i) +ℤ z) (mixture_blend c g h (a + 1) m vs i)
    ∙ ring (c ∷ g a ∷ h a ∷ coordinate v i ∷ mixture (map g (numbers_from (a + 1) m)) vs i ∷ mixture (map h (numbers_from (a + 1) m)) vs i ∷ [])
    ((var 0 ⊗ var 1 ⊕ var 2) ⊗ var 3 ⊕ (var 0 ⊗ var 4 ⊕ var 5)) (var 0 ⊗ (var 1 ⊗ var 3 ⊕ var 4) ⊕ (var 2 ⊗ var 3 ⊕ var 5)) refl

mixture_none : (a m : ℕ) (vs : List Form) (i : ℕ) → mixture (map (λ p. pos 0) (numbers_from a m)) vs i ≡ pos 0
mixture_none a zero vs i = refl
mixture_none a (suc m) [] i = refl
mixture_none a (suc m) (v ∷ vs) i =
    ap (λ z. (pos 0 *ℤ coordinate v i) +ℤ z) (mixture_none (a + 1) m vs i)
    ∙ ring (coordinate v i ∷ []) (num (pos 0) ⊗ var 0 ⊕ num (pos 0)) (num (pos 0)) refl

pub shifted : (f : ℕ → ℤ) (a m : ℕ) → map f (numbers_from (a + 1) m) ≡ map (λ p. f (suc p)) (numbers_from a m)
shifted f a zero = refl
shifted f a (suc m) =
    ap (λ z. z ∷ map f (numbers_from (a + 1 + 1) m)) (ap f (omega arith)) ∙ ap (λ zs. f (suc a) ∷ zs) (shifted f (a + 1) m)

-- a list is what it has at its places
pub listed_at : (ts : List ℤ) → map (number_at ts) (numbers_from 0 (length ts)) ≡ ts
listed_at [] = refl
listed_at (t ∷ ts) = ap (λ zs. t ∷ zs) (shifted (number_at (t ∷ ts)) 0 (length ts) ∙ listed_at ts)

-- the sum of forms is the mixture by the sums of their numbers
pub lows_mixture : (D n : ℕ) (cs : List ℤ) (gs : List Form) (rows : List (List ℤ)) (basis : List Form) (i : ℕ) →
    AllLong n rows → AreMixtures D basis gs rows →
    (pos D *ℤ mixture cs gs i) ≡ mixture (map (from_lows cs rows) (numbers_from 0 n)) (one_form ∷ basis) i
lows_mixture D n [] gs rows basis i long are =
    ring (pos D ∷ []) (var 0 ⊗ num (pos 0)) (num (pos 0)) refl ∙ sym (mixture_none 0 n (one_form ∷ basis) i)
lows_mixture D n (c ∷ cs) [] [] basis i long are =
    ring (pos D ∷ []) (var 0 ⊗ num (pos 0)) (num (pos 0)) refl ∙ sym (mixture_none 0 n (one_form ∷ basis) i)
lows_mixture D n (c ∷ cs) [] (ts ∷ rows) basis i long are = absurd are
lows_mixture D n (c ∷ cs) (g ∷ gs) [] basis i long are = absurd are
lows_mixture D n (c ∷ cs) (g ∷ gs) (ts ∷ rows) basis i long are =
    let rest = lows_mixture D n cs gs rows basis i long.1 are.1 in
    let own : mixture (map (number_at ts) (numbers_from 0 n)) (one_form ∷ basis) i ≡ mixture ts (one_form ∷ basis) i =
    ap (λ m. mixture (map (number_at ts) (numbers_from 0 m)) (one_form ∷ basis) i) (sym long.0) ∙ ap (λ zs. mixture zs (one_form ∷ basis) i) (listed_at ts) in
    let first : (pos D *ℤ coordinate g i) ≡ mixture (map (number_at ts) (numbers_from 0 n)) (one_form ∷ basis) i = are.0 i ∙ sym own in
    ring_by (pos D ∷ c ∷ coordinate g i ∷ mixture cs gs i ∷ mixture (map (number_at ts) (numbers_from 0 n))
    (one_form ∷ basis) i ∷ mixture (map (from_lows cs rows) (numbers_from 0 n)) (one_form ∷ basis) i ∷ [])
    (var 0 ⊗ (var 1 ⊗ var 2 ⊕ var 3)) (var 1 ⊗ var 4 ⊕ var 5)
    (using (var 1) (var 0 ⊗ var 2) (var 4) first (using (num (pos 1)) (var 0 ⊗ var 3) (var 5) rest nothing)) refl
    ∙ sym (mixture_blend c (number_at ts) (from_lows cs rows) 0 n (one_form ∷ basis) i)

-- A form that is its value at the low corner plus the blend of the forms x - low is the mixture by its own numbers.
pub form_mixture : (D n : ℕ) (low : List ℕ) (gs : List Form) (rows : List (List ℤ)) (basis : List Form) (f : Form) →
    AllLong (suc n) rows → AreMixtures D basis gs rows →
    ((i : ℕ) → coordinate f i ≡ ((value_for_costs f low *ℤ coordinate one_form i) +ℤ mixture f.coefficients gs i)) →
    IsMixture f basis D (numbers_of_form n D low rows f)
form_mixture D n low gs rows basis f long are resolved i =
    let others = map (from_lows f.coefficients rows) (numbers_from 1 n) in
    let rest : mixture (map (number_of_form D low rows f) (numbers_from 1 n)) basis i ≡ mixture others basis i =
    ap (λ zs. mixture zs basis i) (shifted (number_of_form D low rows f) 0 n ∙ sym (shifted (from_lows f.coefficients rows) 0 n)) in
    ap (λ z. pos D *ℤ z) (resolved i)
    ∙ ring_by (pos D ∷ value_for_costs f low ∷ coordinate one_form i ∷ mixture f.coefficients gs i ∷ from_lows f.coefficients rows 0 ∷ mixture others basis i ∷
    [])
    (var 0 ⊗ (var 1 ⊗ var 2 ⊕ var 3)) ((var 0 ⊗ var 1 ⊕ var 4) ⊗ var 2 ⊕ var 5)
    (using (num (pos 1)) (var 0 ⊗ var 3) (var 4 ⊗ var 2 ⊕ var 5) (lows_mixture D (suc n) f.coefficients gs rows basis i long are) nothing) refl
    ∙ ap (λ z. (((pos D *ℤ value_for_costs f low) +ℤ from_lows f.coefficients rows 0) *ℤ coordinate one_form i) +ℤ z) (sym rest)
