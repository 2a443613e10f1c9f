-- A line of the table: its constant at place 0, and at each place after it the entry of a column.
use Rattle.std.specs.Prelude.{◌≡◌, ◌≢◌, ℕ, suc, ◌<◌, ◌≤◌, ◌==◌, List, [], ◌∷◌, pos, map, length, if◌then◌else◌, Any}
use Rattle.std.specs.List.{AllByRecursion}
use Rattle.cost_base.specs.Lists.{numbers_from}
use Rattle.cost_base.specs.declared.StepName.{StepName}
use Rattle.cost_base.specs.declared.StepName.TheVariants.{Sub, Mul, Div}
use Rattle.whole_numbers.specs.Fractions.{Fraction, IsLowest, whole, minus, times, divided, numbers_of_step}
use Rattle.wide_fraction.specs.Widths.{IsWithin}
use Rattle.design_problem.specs.Basis.{entry}

-- the fraction 0
abbrev pub nothing : Fraction
nothing = whole (pos 0)

-- a number of the table: in lowest terms, and within the top
pub record IsTableNumber (top : ℕ) (q : Fraction) : Type 0 where
  pub lowest : IsLowest q
  pub within : IsWithin top q

-- each fraction of a line is a number of the table
abbrev pub AreTableNumbers : ℕ → List Fraction → Type 0
AreTableNumbers top qs = AllByRecursion (IsTableNumber top) qs

-- a line of so many numbers of the table
pub record IsCountedLine (top count : ℕ) (qs : List Fraction) : Type 0 where
  pub counted : length qs ≡ count
  pub numbers : AreTableNumbers top qs

-- the fraction that a list of pairs gives a column, and 0 where it gives none
abbrev pub fraction_at : List (ℕ × Fraction) → ℕ → Fraction
fraction_at [] column = nothing
fraction_at (e ∷ es) column = if e.0 == column then e.1 else fraction_at es column

-- the fractions of all columns, with the zeros filled in
abbrev pub filled : ℕ → List (ℕ × Fraction) → List Fraction
filled width es = map (fraction_at es) (numbers_from 0 width)

-- a line of zeros
abbrev pub blank_line : ℕ → List Fraction
blank_line width = nothing ∷ map (λ column. nothing) (numbers_from 0 width)

-- the columns rise strictly, from `low` on and below `high`, and no fraction is 0
abbrev pub Rises : ℕ → ℕ → List (ℕ × Fraction) → Type 0
Rises low high [] = Unit {0}
Rises low high (e ∷ es) = (low ≤ e.0) × (e.0 < high) × (e.1.numerator ≢ pos 0) × Rises (suc e.0) high es

-- each fraction less the factor times the other one at its place
abbrev pub crossed_by : Fraction → List Fraction → List Fraction → List Fraction
crossed_by factor [] ts = []
crossed_by factor (f ∷ fs) [] = []
crossed_by factor (f ∷ fs) (t ∷ ts) = minus f (times factor t) ∷ crossed_by factor fs ts

-- the steps by which two lines are crossed
pub data IsCrossStep (factor : Fraction) (fs ts : List Fraction) : StepName → Fraction → Fraction → Type 0 where
  product : (place : ℕ) → place < length fs → IsCrossStep factor fs ts Mul factor (entry ts place)
  difference : (place : ℕ) → place < length fs → IsCrossStep factor fs ts Sub (entry fs place) (times factor (entry ts place))

-- each fraction over the divisor, and 0 at the place that is left out
abbrev pub divided_without : ℕ → Fraction → List Fraction → ℕ → List Fraction
divided_without left_out divisor [] place = []
divided_without left_out divisor (q ∷ qs) place =
    (if place == left_out then nothing else divided q divisor) ∷ divided_without left_out divisor qs (suc place)

-- the steps by which a line is divided
pub data IsDivideStep (divisor : Fraction) (qs : List Fraction) : StepName → Fraction → Fraction → Type 0 where
  quotient : (place : ℕ) → place < length qs → IsDivideStep divisor qs Div (entry qs place) divisor

-- the step makes a whole number that passes the top
abbrev pub IsWideStep : ℕ → (StepName → Fraction → Fraction → Type 0) → StepName → Fraction → Fraction → Type 0
IsWideStep top IsStepOf step left right = IsStepOf step left right × Any (λ n. top < n) (numbers_of_step step left right)
