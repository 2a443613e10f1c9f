-- Which rows have a coefficient of a variable.
use Rattle.std.specs.declared.alloc.Global.{Global}
use Rattle.std.specs.Prelude.{Vec, ℕ, zero, suc, ◌+◌, ◌<◌, List, [], ◌∷◌, ◌++◌, ◌==◌, if◌then◌else◌, ℤ, pos, negsuc, ◌+ℤ◌, nat_abs, map, vec_capacity, vec_len, All}
use Rattle.cost_base.specs.Lists.{numbers_from}
use Rattle.whole_numbers.specs.Lists.{number_at}
use Rattle.design_problem.specs.declared.form.Form.{Form}
use Rattle.integer_pivots.specs.declared.uses.Use.{Use}

-- a row's use of a variable with this coefficient; none where that is 0
abbrev pub use_of : ℕ → ℤ → List Use
use_of row (pos zero) = []
use_of row (pos (suc n)) = record { row = row; coefficient = pos (suc n) } ∷ []
use_of row (negsuc n) = record { row = row; coefficient = negsuc n } ∷ []

-- the uses of a variable by rows of which the first has this number, in their order
abbrev pub uses_from : ℕ → List Form → ℕ → List Use
uses_from first [] v = []
uses_from first (f ∷ fs) v = use_of first (number_at f.coefficients v) ++ uses_from (suc first) fs v

-- the uses of each variable
abbrev pub uses_by : List Form → ℕ → List (List Use)
uses_by rows width = map (uses_from 0 rows) (numbers_from 0 width)

-- the uses that each of some lists has, without its room
abbrev pub uses_in : List (Vec Use Global) → List (List Use)
uses_in lists = map (λ list. list.items) lists

-- each list has room for one use more
abbrev pub HaveRoom : List (Vec Use Global) → Type 0
HaveRoom lists = All (λ list. vec_len list < vec_capacity list) lists

-- the sum of the coefficients that a row has in some uses, and of their sizes
abbrev pub coefficient_in : List Use → ℕ → ℤ
coefficient_in [] row = pos 0
coefficient_in (u ∷ us) row = (if u.row == row then u.coefficient else pos 0) +ℤ coefficient_in us row

-- the sum of the sizes of the coefficients that a row has in some uses
abbrev pub size_in : List Use → ℕ → ℕ
size_in [] row = 0
size_in (u ∷ us) row = (if u.row == row then nat_abs u.coefficient else 0) + size_in us row
