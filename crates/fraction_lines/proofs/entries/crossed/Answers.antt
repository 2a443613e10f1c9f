-- A term with a quotient of 0 leaves the fraction; a difference that is too wide names the product.
use Rattle.std.proofs.Common.{rules, ℕ, ◌≡◌, ◌∙◌, ap, sym, inr}
use Rattle.std.specs.Prelude.{pos, Result, Ok, Err, IfErr}
use Rattle.cost_base.specs.declared.StepName.TheVariants.{Sub}
use Rattle.whole_numbers.specs.Fractions.{Fraction, minus, times}
use Rattle.wide_fraction.specs.declared.steps.Wide.{Wide}
use Rattle.wide_fraction.specs.WideSteps.{IsTooWide}
use Rattle.fraction_lines.specs.Entries.{IsTermStep}
use Rattle.fraction_lines.proofs.ZeroFractions.{lowest_zero, crossed_nothing}
use Rattle.fraction_lines.proofs.NamedSteps.{named_passes}
use Rattle.fraction_lines.proofs.entries.crossed.Goals as goal

pub returns-then-is_zero-clause-exact : goal.returns-then-is_zero-clause-exact
returns-then-is_zero-clause-exact c =
    let zero_is : c.args.quotient.numerator ≡ pos 0 = search rules in
    sym (ap (λ (t : Fraction). minus c.args.old (times c.args.factor t)) (lowest_zero c.args.quotient c.requires.quotient.lowest zero_is)
    ∙ crossed_nothing c.args.old c.args.factor c.requires.old.lowest c.requires.factor.lowest.positive)

difference_step : (r : Result Fraction Wide) (top : ℕ) (old factor quotient product : Fraction) →
    product ≡ times factor quotient → IfErr r (IsTooWide top Sub old product) →
    IfErr r (λ wide. IsTermStep old factor quotient wide)
difference_step (Ok q) top old factor quotient product product_is refused = tt
difference_step (Err wide) top old factor quotient product product_is refused =
    inr (refused.named ∙ ap (λ (t : Fraction). record { step = Sub; left = old; right = t }) product_is)

pub returns-clause-step : goal.returns-clause-step
returns-clause-step c =
    difference_step c.sub.result c.args.top c.args.old c.args.factor c.args.quotient c.in_ok-mul.field-0 c.in_ok-mul.ensures.exact c.sub.ensures.wide

pub returns-clause-passes : goal.returns-clause-passes
returns-clause-passes c =
    named_passes c.sub.result c.args.top Sub c.args.old c.in_ok-mul.field-0 c.sub.ensures.wide
