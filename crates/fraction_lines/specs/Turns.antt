-- How a pivot turns one line of the table.
use Rattle.std.specs.Prelude.{◌≡◌, ◌≢◌, ℕ, zero, suc, ◌<◌, List, [], ◌∷◌, ℤ, pos, negsuc, length, slice_index_or, slice_set}
use Rattle.cost_base.specs.declared.StepName.{StepName}
use Rattle.cost_base.specs.declared.StepName.TheVariants.{Div, Mul}
use Rattle.whole_numbers.specs.Fractions.{Fraction, divided, times, whole}
use Rattle.design_problem.specs.Basis.{entry}
use Rattle.fraction_lines.specs.TableLines.{AreTableNumbers, IsCrossStep, IsDivideStep, IsTableNumber, IsCountedLine, IsWideStep, crossed_by, divided_without, nothing}

-- one list where a number is 0, and another where it isn't
abbrev pub unless_none : ℤ → List Fraction → List Fraction → List Fraction
unless_none (pos zero) kept turned = kept
unless_none (pos (suc n)) kept turned = turned
unless_none (negsuc n) kept turned = turned

-- The line after the pivot at the place, by the quotients of the pivot's line and the inverse of its entry there. A
-- line with 0 there stays as it is.
abbrev pub turned_by : List Fraction → List Fraction → ℕ → Fraction → List Fraction
turned_by fs ts place inverse =
    unless_none (entry fs place).numerator fs (slice_set (crossed_by (entry fs place) fs ts) place (times (entry fs place) inverse))

-- the steps by which a line is turned
pub data IsTurnStep (fs ts : List Fraction) (place : ℕ) (inverse : Fraction) : StepName → Fraction → Fraction → Type 0 where
  crossing : (step : StepName) (left right : Fraction) → IsCrossStep (entry fs place) fs ts step left right → IsTurnStep fs ts place inverse step left right
  entering : IsTurnStep fs ts place inverse Mul (entry fs place) inverse

-- the steps by which the quotients of the pivot's line and the inverse of its entry at the place are made
pub data IsQuotientStepOf (rs : List Fraction) (place : ℕ) : StepName → Fraction → Fraction → Type 0 where
  dividing : (step : StepName) (left right : Fraction) → IsDivideStep (entry rs place) rs step left right → IsQuotientStepOf rs place step left right
  inverting : IsQuotientStepOf rs place Div (whole (pos 1)) (entry rs place)

-- The quotients of a pivot's line by its entry at the place, with 0 there, and the inverse of that entry.
pub record IsPivotDivided (top place : ℕ) (rs quotients : List Fraction) (inverse : Fraction) : Type 0 where
  pub quotients_are : quotients ≡ divided_without place (entry rs place) rs 0
  pub numbers : AreTableNumbers top quotients
  pub inverse_is : inverse ≡ divided (whole (pos 1)) (entry rs place)
  pub inverse_number : IsTableNumber top inverse

-- Quotients with 0 at the place and an inverse that isn't 0, by which a pivot turns lines of so many numbers.
pub record TurnsLines (top count place : ℕ) (quotients : List Fraction) (inverse : Fraction) : Type 0 where
  pub place_in : place < count
  pub line : IsCountedLine top count quotients
  pub none_there : entry quotients place ≡ nothing
  pub inverse_number : IsTableNumber top inverse
  pub not_zero : inverse.numerator ≢ pos 0

-- lines of one length, of numbers of the table
abbrev pub AreTableLines : ℕ → ℕ → List (List Fraction) → Type 0
AreTableLines top count [] = Unit {0}
AreTableLines top count (fs ∷ lines) = (length fs ≡ count) × AreTableNumbers top fs × AreTableLines top count lines

-- a step by which some line is turned makes a whole number that passes the top
pub record TurnsWide (top : ℕ) (lines : List (List Fraction)) (ts : List Fraction) (place : ℕ) (inverse : Fraction)
    (step : StepName) (left right : Fraction) : Type 0 where
  pub line : ℕ
  pub line_in : line < length lines
  pub wide : IsWideStep top (IsTurnStep (slice_index_or lines line []) ts place inverse) step left right
