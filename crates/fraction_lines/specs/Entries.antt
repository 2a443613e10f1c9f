-- Words on lists of columns that the work on a line goes along.
use Rattle.std.specs.declared.alloc.Global.{Global}
use Rattle.std.specs.Prelude.{◌≡◌, ◌≢◌, ◌⊎◌, ℕ, ◌==◌, ◌<◌, ◌≤◌, Vec, List, [], ◌∷◌, ◌++◌, length, pos, if◌then◌else◌, vec_capacity, All}
use Rattle.std.specs.List.{AllByRecursion}
use Rattle.cost_base.specs.declared.StepName.TheVariants.{Sub, Mul, Div}
use Rattle.whole_numbers.specs.Fractions.{Fraction, minus, times, divided}
use Rattle.wide_fraction.specs.declared.steps.Wide.{Wide}
use Rattle.wide_fraction.specs.Widths.{Passes}
use Rattle.fraction_lines.specs.TableLines.{IsTableNumber, Rises, fraction_at, nothing}

-- the list with the fraction put at its end, unless that is 0
abbrev pub IsPutAtEnd : List (ℕ × Fraction) → ℕ → Fraction → List (ℕ × Fraction) → Type 0
IsPutAtEnd old column value new =
    ((value.numerator ≡ pos 0) × (new ≡ old)) ⊎ ((value.numerator ≢ pos 0) × (new ≡ old ++ (column, value) ∷ []))

-- the first column, or `past` where there is none
abbrev pub head_column : List (ℕ × Fraction) → ℕ → ℕ
head_column [] past = past
head_column (e ∷ es) past = e.0

-- the first fraction, where it is that of the column
abbrev pub head_fraction : List (ℕ × Fraction) → ℕ → Fraction
head_fraction [] column = nothing
head_fraction (e ∷ es) column = if e.0 == column then e.1 else nothing

-- the list without its first fraction, where that is of the column
abbrev pub after_column : List (ℕ × Fraction) → ℕ → List (ℕ × Fraction)
after_column [] column = []
after_column (e ∷ es) column = if e.0 == column then es else e ∷ es

-- a step that makes the one fraction less the factor times the other
abbrev pub IsTermStep : Fraction → Fraction → Fraction → Wide → Type 0
IsTermStep old factor quotient wide =
    (wide ≡ record { step = Mul; left = factor; right = quotient }) ⊎ (wide ≡ record { step = Sub; left = old; right = times factor quotient })

-- the step that makes a fraction over the divisor
abbrev pub IsQuotientStep : Fraction → Fraction → Wide → Type 0
IsQuotientStep value divisor wide = wide ≡ record { step = Div; left = value; right = divisor }

-- each fraction is a number of the table
abbrev pub AllNumbers : ℕ → List (ℕ × Fraction) → Type 0
AllNumbers top es = AllByRecursion (λ e. IsTableNumber top e.1) es

-- the columns rise below the width, and each fraction is a number of the table
pub record AreLineEntries (width top : ℕ) (es : List (ℕ × Fraction)) : Type 0 where
  pub rises : Rises 0 width es
  pub numbers : AllNumbers top es

-- a line's columns and fractions, in a list with room for all columns
pub record HasLineEntries (width top : ℕ) (es : Vec (ℕ × Fraction) Global) : Type 0 where
  pub entries : AreLineEntries width top es.items
  pub room : width ≤ vec_capacity es

-- a list is made of two others column by column: its fraction is what a function of the column makes of theirs
abbrev pub IsMade : ℕ → (ℕ → Fraction → Fraction → Fraction) → List (ℕ × Fraction) → List (ℕ × Fraction) → List (ℕ × Fraction) → Type 0
IsMade width target first second new =
    (column : ℕ) → column < width → fraction_at new column ≡ target column (fraction_at first column) (fraction_at second column)

-- the one fraction less the factor times the other
abbrev pub crossed_at : Fraction → ℕ → Fraction → Fraction → Fraction
crossed_at factor column old quotient = minus old (times factor quotient)

-- the fraction over the divisor, and 0 at the column that is left out
abbrev pub divided_at : ℕ → Fraction → ℕ → Fraction → Fraction → Fraction
divided_at left_out divisor column value other = if column == left_out then nothing else divided value divisor

-- a step that a refusal names makes a whole number that passes the top
abbrev pub IsPassing : ℕ → Wide → Type 0
IsPassing top wide = Passes top wide.step wide.left wide.right

-- a step by which the two are crossed at some column makes a whole number that passes the top
pub record IsCrossingTooWide (width top : ℕ) (factor : Fraction) (olds quotients : List (ℕ × Fraction)) (wide : Wide) : Type 0 where
  pub column : ℕ
  pub within : column < width
  pub step : IsTermStep (fraction_at olds column) factor (fraction_at quotients column) wide
  pub passes : IsPassing top wide

-- the step by which some column is divided makes a whole number that passes the top
pub record IsDivisionTooWide (width top : ℕ) (divisor : Fraction) (olds : List (ℕ × Fraction)) (wide : Wide) : Type 0 where
  pub column : ℕ
  pub within : column < width
  pub step : IsQuotientStep (fraction_at olds column) divisor wide
  pub passes : IsPassing top wide

-- the columns rise, and no fraction is 0
abbrev pub AreRising : List (ℕ × Fraction) → Type 0
AreRising es = (high : ℕ) × Rises 0 high es

-- the pair with another fraction, where it is that of the column
abbrev pub replaced : ℕ → Fraction → (ℕ × Fraction) → ℕ × Fraction
replaced column value e = if e.0 == column then (e.0, value) else e

-- the list doesn't have the column
abbrev pub IsWithout : ℕ → List (ℕ × Fraction) → Type 0
IsWithout column es = All (λ e. e.0 ≢ column) es

-- the half of a list in which a column may still stand, as a search by halves leaves it: it begins at this place, and
-- neither before nor behind it the column stands
pub record IsHalfOf (es : List (ℕ × Fraction)) (column place : ℕ) (left : List (ℕ × Fraction)) : Type 0 where
  pub before : List (ℕ × Fraction)
  pub after : List (ℕ × Fraction)
  pub whole : es ≡ before ++ (left ++ after)
  pub place_is : place ≡ length before
  pub early : IsWithout column before
  pub late : IsWithout column after

-- the list has the column nowhere but at the place
pub record IsPlaceOf (es : List (ℕ × Fraction)) (column place : ℕ) : Type 0 where
  pub before : List (ℕ × Fraction)
  pub left : List (ℕ × Fraction)
  pub after : List (ℕ × Fraction)
  pub whole : es ≡ before ++ (left ++ after)
  pub place_is : place ≡ length before
  pub few : length left ≤ 1
  pub early : IsWithout column before
  pub late : IsWithout column after
