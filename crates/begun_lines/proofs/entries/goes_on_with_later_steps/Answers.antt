use Rattle.std.proofs.Common.{inl, inr}
use Rattle.cost_base.specs.declared.StepName.TheVariants.{Mul, Div, Lcm, Scale}
use Rattle.begun_lines.specs.BegunLines.{Then, IsEitherStep, IsLaterStep, BasisWords}
use Rattle.begun_lines.proofs.BegunKinds.{first_holds, first_fails, then_as, then_either}
use Rattle.begun_lines.proofs.entries.goes_on_with_later_steps.Goals as goal

pub returns-then-goes_on_with_either : goal.returns-then-goes_on_with_either
returns-then-goes_on_with_either c =
    first_holds {said = (Then IsLaterStep BasisWords)} {first = (Then (IsEitherStep Mul Div) BasisWords)}
    (then_as {first = (IsEitherStep Mul Div)} {second = IsLaterStep} BasisWords (λ w is. inl is))
    c.args.line.text.now c.args.line.room c.goes_on_with_either.result c.if-goes_on_with_either.true
    c.goes_on_with_either.ensures

pub returns-else-goes_on_with_either : goal.returns-else-goes_on_with_either
returns-else-goes_on_with_either c =
    first_fails {said = (Then IsLaterStep BasisWords)} {first = (Then (IsEitherStep Mul Div) BasisWords)}
    {second = (Then (IsEitherStep Lcm Scale) BasisWords)}
    (then_either {word = IsLaterStep} {first = (IsEitherStep Mul Div)} {second = (IsEitherStep Lcm Scale)}
    BasisWords (λ w is. is))
    (then_as {first = (IsEitherStep Lcm Scale)} {second = IsLaterStep} BasisWords (λ w is. inr is))
    c.args.line.text.now c.args.line.room c.goes_on_with_either.result
    c.goes_on_with_either-else-goes_on_with_either.result
    c.if-goes_on_with_either.false c.goes_on_with_either.ensures c.goes_on_with_either-else-goes_on_with_either.ensures
