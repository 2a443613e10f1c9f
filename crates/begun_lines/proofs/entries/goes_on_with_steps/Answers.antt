use Rattle.cost_base.specs.declared.StepName.TheVariants.{Add, Sub}
use Rattle.begun_lines.specs.BegunLines.{Then, IsStepWord, IsEitherStep, IsLaterStep, BasisWords}
use Rattle.begun_lines.proofs.BegunKinds.{first_holds, first_fails, then_as, then_either, either_step, one_of_two, one_of_four}
use Rattle.begun_lines.proofs.entries.goes_on_with_steps.Goals as goal

pub returns-then-goes_on_with_either : goal.returns-then-goes_on_with_either
returns-then-goes_on_with_either c =
    first_holds {said = (Then IsStepWord BasisWords)} {first = (Then (IsEitherStep Add Sub) BasisWords)}
    (then_as {first = (IsEitherStep Add Sub)} {second = IsStepWord} BasisWords (one_of_two Add Sub))
    c.args.line.text.now c.args.line.room c.goes_on_with_either.result c.if-goes_on_with_either.true
    c.goes_on_with_either.ensures

pub returns-else-goes_on_with_either : goal.returns-else-goes_on_with_either
returns-else-goes_on_with_either c =
    first_fails {said = (Then IsStepWord BasisWords)} {first = (Then (IsEitherStep Add Sub) BasisWords)}
    {second = (Then IsLaterStep BasisWords)}
    (then_either {word = IsStepWord} {first = (IsEitherStep Add Sub)} {second = IsLaterStep} BasisWords either_step)
    (then_as {first = IsLaterStep} {second = IsStepWord} BasisWords one_of_four) c.args.line.text.now
    c.args.line.room c.goes_on_with_either.result c.goes_on_with_later_steps.result
    c.if-goes_on_with_either.false c.goes_on_with_either.ensures c.goes_on_with_later_steps.ensures
