-- Lists of whole numbers: their sizes, and sums to which a multiple is put.
use Rattle.std.specs.Prelude.{ℕ, ◌≤◌, List, [], ◌∷◌, ℤ, pos, ◌+ℤ◌, ◌*ℤ◌, nat_abs, max, sum_by, All}
use Rattle.design_problem.specs.declared.form.Form.{Form}

-- the sum of the coefficients, each times the number of its variable
abbrev pub product_sum : List ℤ → List ℤ → ℤ
product_sum [] zs = pos 0
product_sum (c ∷ cs) [] = pos 0
product_sum (c ∷ cs) (z ∷ zs) = (c *ℤ z) +ℤ product_sum cs zs

-- sums with a multiple of a number put to each
abbrev pub more_sums : List ℤ → ℤ → List ℤ → List ℤ
more_sums [] factor zs = []
more_sums (sum ∷ sums) factor [] = sum ∷ sums
more_sums (sum ∷ sums) factor (z ∷ zs) = (sum +ℤ (factor *ℤ z)) ∷ more_sums sums factor zs

-- no number is greater in size
abbrev pub AllWithin : ℕ → List ℤ → Type 0
AllWithin most zs = All (λ z. nat_abs z ≤ most) zs

-- the greatest size of some numbers; 0 where there are none
abbrev pub greatest_of : List ℤ → ℕ
greatest_of [] = 0
greatest_of (z ∷ zs) = max (nat_abs z) (greatest_of zs)

-- the sum of the sizes of a form's coefficients
abbrev pub weight_of : Form → ℕ
weight_of f = sum_by nat_abs f.coefficients
