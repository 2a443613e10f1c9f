-- Tables of what a path pays: their entries, one by one, are the definition's.
use Rattle.std.proofs.Common.{◌≡◌, ℕ, zero, suc, ◌+◌, ◌<◌, refl, ◌∙◌, ap, get_or, List, [], ◌∷◌, map, length, arith, add-zero}
use Rattle.cost_base.specs.Lists.{numbers_from}

-- a list whose entry at each place v is f (a + v)
pub tabulated_from : {B : Type 0} → (d : B) (xs : List B) (f : ℕ → B) (a n : ℕ) → length xs ≡ n →
    ((v : ℕ) → v < n → get_or xs v d ≡ f (a + v)) → xs ≡ map f (numbers_from a n)
tabulated_from d [] f a zero count each = refl
tabulated_from d [] f a (suc n) count each = absurd (omega arith)
tabulated_from d (x ∷ xs) f a zero count each = absurd (omega arith)
tabulated_from d (x ∷ xs) f a (suc n) count each =
    let head : x ≡ f a = each 0 (omega arith) ∙ ap f (add-zero a) in
    let rest = tabulated_from d xs f (a + 1) n (omega arith) (λ v v_in. each (suc v) (omega arith) ∙ ap f (let e : a + suc v ≡ a + 1 + v = omega arith in e)) in
    ap (λ y. y ∷ xs) head ∙ ap (λ ys. f a ∷ ys) rest

pub tabulated : {B : Type 0} → (d : B) (xs : List B) (f : ℕ → B) (n : ℕ) → length xs ≡ n →
    ((v : ℕ) → v < n → get_or xs v d ≡ f v) → xs ≡ map f (numbers_from 0 n)
tabulated d xs f n count each = tabulated_from d xs f 0 n count (λ v v_in. each v v_in ∙ ap f (let e : v ≡ 0 + v = omega arith in e))
