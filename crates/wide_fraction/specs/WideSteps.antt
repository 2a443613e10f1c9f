-- Steps of fractions that were too wide.
use Rattle.std.specs.Prelude.{◌≡◌, ℕ}
use Rattle.cost_base.specs.declared.StepName.{StepName}
use Rattle.whole_numbers.specs.Fractions.{Fraction}
use Rattle.wide_fraction.specs.Widths.{Passes}
use Rattle.wide_fraction.specs.declared.steps.Wide.{Wide}

-- the step is named with its two fractions, and a whole number that it makes passes the top
pub record IsTooWide (top : ℕ) (step : StepName) (left right : Fraction) (wide : Wide) : Type 0 where
  pub named : wide ≡ record { step = step; left = left; right = right }
  pub passes : Passes top step left right
