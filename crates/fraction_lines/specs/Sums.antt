-- The sum of a row's terms at a place.
use Rattle.std.specs.Prelude.{◌≡◌, ◌⊎◌, ℕ, ◌<◌, ◌≤◌, List, [], ℤ, pos, length, take, slice_get, slice_index_or, fold, Some}
use Rattle.cost_base.specs.declared.StepName.TheVariants.{Add, Mul}
use Rattle.whole_numbers.specs.Fractions.{Fraction, plus, times, whole}
use Rattle.wide_fraction.specs.declared.steps.Wide.{Wide}
use Rattle.design_problem.specs.Basis.{entry}
use Rattle.design_problem.specs.Steps.{terms}
use Rattle.fraction_lines.specs.Turns.{AreTableLines}

-- the steps by which a coefficient's term is put to a sum
abbrev pub IsTermSum : Fraction → ℤ → Fraction → Wide → Type 0
IsTermSum sum c q wide =
    (wide ≡ record { step = Mul; left = whole c; right = q }) ⊎ (wide ≡ record { step = Add; left = sum; right = times (whole c) q })

-- the sum of the terms of some coefficients, from a start on
abbrev pub sum_of_terms : Fraction → List ℤ → List (List Fraction) → ℕ → Fraction
sum_of_terms start cs lines place = fold plus start (terms cs lines place)

-- the steps by which the sum of some coefficients' terms at a place is made
pub data IsSumStep (start : Fraction) (cs : List ℤ) (lines : List (List Fraction)) (place : ℕ) (wide : Wide) : Type 0 where
  product : (var : ℕ) → var < length cs →
      wide ≡ record {
        step = Mul;
        left = whole (slice_index_or cs var (pos 0));
        right = entry (slice_index_or lines var []) place;
      } → IsSumStep start cs lines place wide
  sum : (k : ℕ) (next : Fraction) → slice_get (terms cs lines place) k ≡ Some next →
      wide ≡ record { step = Add; left = fold plus start (take k (terms cs lines place)); right = next } →
      IsSumStep start cs lines place wide

-- the lines of so many variables at least, each of so many numbers of the table
pub record AreVariableLines (top count variables : ℕ) (lines : List (List Fraction)) : Type 0 where
  pub fit : AreTableLines top count lines
  pub many : variables ≤ length lines

-- a multiple of a line is put to another one, place by place
abbrev pub ArePut : Fraction → List Fraction → List Fraction → List Fraction → Type 0
ArePut factor line old new =
    (place : ℕ) → place < length old → entry new place ≡ plus (entry old place) (times factor (entry line place))
