-- A step that is named and passes the top.
use Rattle.std.proofs.Common.{◌<◌, ℕ, sym, subst}
use Rattle.std.specs.Prelude.{Result, Ok, Err, IfErr, Any}
use Rattle.cost_base.specs.declared.StepName.{StepName}
use Rattle.whole_numbers.specs.Fractions.{Fraction, numbers_of_step}
use Rattle.wide_fraction.specs.declared.steps.Wide.{Wide}
use Rattle.wide_fraction.specs.WideSteps.{IsTooWide}
use Rattle.fraction_lines.specs.Entries.{IsPassing}

pub named_passes : {X : Type 0} (r : Result X Wide) (top : ℕ) (step : StepName) (left right : Fraction) →
    IfErr r (IsTooWide top step left right) → IfErr r (λ wide. IsPassing top wide)
named_passes (Ok q) top step left right refused = tt
named_passes (Err wide) top step left right refused =
    subst (λ (w : Wide). Any (λ n. top < n) (numbers_of_step w.step w.left w.right)) (sym refused.named) refused.passes
