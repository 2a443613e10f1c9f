-- The sum is that of the multipliers, and its multiple by 2^27 is within the top.
use Rattle.std.proofs.Common.{◌≡◌, sym, ◌∙◌, ap, subst, ◌^◌, arith, to_z, of_z}
use Rattle.std.specs.Int.{w128}
use Rattle.std.specs.Prelude.{ℤ, pos, ◌*ℤ◌, ◌<ℤ◌, nat_abs, sum_by}
use Rattle.std.proofs.lemmas.Result.{err_from_is_err_and}
use Rattle.cost_base.specs.declared.StepName.TheVariants.{Scale}
use Rattle.whole_numbers.specs.Fractions.{Fraction, whole}
use Rattle.wide_fraction.specs.declared.steps.Wide.{Wide}
use Rattle.fraction_table.proofs.MultiplierSteps.{natural_high, read_back, scale_wide, sum_small, sum_whole}
use Rattle.fraction_lines.proofs.SmallNumbers.{top_small}
use Rattle.fraction_table.proofs.multipliers.check_sum.Goals.{After-numerator}
use Rattle.fraction_table.proofs.multipliers.check_sum.Goals as goal

-- the sum's numerator, as it is read
numerator_read : (c : After-numerator) → to_z w128 (of_z w128 c.numerator.result) ≡ c.in_ok-sum.sum.numerator
numerator_read c =
    read_back c.numerator.result
    (omega (
      arith,
      ap nat_abs c.numerator.ensures.value,
      c.in_ok-sum.ensures.within.numerator,
      top_small c.args.top c.value.ensures.width,
    ))
    ∙ c.numerator.ensures.value

-- it is that of the multipliers' sum
numerator_is : (c : After-numerator) → to_z w128 (of_z w128 c.numerator.result) ≡ pos (sum_by (λ part. part.1) c.args.parts.now)
numerator_is c = numerator_read c ∙ ap (λ (q : Fraction). q.numerator) (c.in_ok-sum.ensures.exact ∙ sum_whole c.args.parts.now)

pub scale-requires-clause-positive : goal.scale-requires-clause-positive
scale-requires-clause-positive c =
    let is = numerator_is (goal.at.scale-requires-clause-positive c).After-numerator in
    subst (λ (z : ℤ). pos 0 <ℤ z) (sym is) (natural_high (sum_by (λ part. part.1) c.args.parts.now) c.requires.positive)

pub returns-in_err-scale-clause-step : goal.returns-in_err-scale-clause-step
returns-in_err-scale-clause-step c =
    let p = err_from_is_err_and c.from_residual-in_err-scale.result c.from_residual-in_err-scale.ensures.1 in
    rw (p.1, p.2)
    (scale_wide c.args.parts.now c.in_ok-sum.sum c.in_err-scale.field-0.0 c.in_ok-sum.ensures.exact
    (c.in_err-scale.ensures.wide.named ∙ ap {B = Wide}
    (λ (z : ℤ). record { step = Scale; left = whole z; right = whole (pos (2 ^ 27)) })
    (numerator_read (goal.at.returns-in_err-scale-clause-step c).After-numerator)))

pub returns-clause-small : goal.returns-clause-small
returns-clause-small c =
    let is = numerator_is (goal.at.returns-clause-small c).After-numerator in
    sum_small c.args.top (sum_by (λ part. part.1) c.args.parts.now) c.in_ok-scale.field-0 c.value.ensures.width
    (c.in_ok-scale.ensures.exact ∙ ap (λ (z : ℤ). z *ℤ pos (2 ^ 27)) is) c.in_ok-scale.ensures.within
